-- What a trial asks, and that it checks no file.
use Rattle.std.proofs.Common.{◌≡◌, IsTrue, ◌∙◌, ℕ, List, Result, Ok, false, sym, ap}
use Rattle.fbas_model.specs.Systems.{System}
use Rattle.node_json.specs.Configuration.{system_of}
use Rattle.trial_network.specs.Tree.{trial_text}
use Rattle.cli_words.specs.Order.{Ordered}
use Rattle.cli_words.specs.Table.{has_configuration, row_of}
use Rattle.cli_words.specs.declared.orders.Command.{Command}
use Rattle.cli_words.specs.declared.orders.Command.TheVariants.{Query, Search, Check, CheckLrat, Whatif}
use Rattle.request_reading.specs.declared.early.Early.{Early}
use Rattle.request_reading.specs.declared.reading.Asked.{Asked}
use Rattle.request_reading.specs.declared.reading.Asked.TheVariants as asked
use Rattle.request_reading.specs.declared.searches.Search.{Search as Sought}
use Rattle.request_reading.specs.Searches.{trial_of}
use Rattle.request_reading.specs.Answers.{is_check, trial_asked}

-- a file is checked over a configuration
pub checked_over_configuration : (k : Command) → IsTrue (is_check k) → has_configuration k ≡ false → ⊥
unfolding row_of
checked_over_configuration Check is e = cc
checked_over_configuration CheckLrat is e = cc
checked_over_configuration (Query q) is e = cc
checked_over_configuration (Search goal) is e = cc
checked_over_configuration Whatif is e = cc

-- what a trial asks, where its text was read back
pub trial_read : (o : Ordered) (f : System) (text : List ℕ) (s : Sought) → system_of (trial_text o.trial) ≡ Ok f → text ≡ trial_text o.trial → s ≡ trial_of f text o → trial_asked o ≡ Ok (asked.Search s)
trial_read o f text s read is found =
    rw read (ap {B = Result Asked Early} (λ (x : Sought). Ok (asked.Search x)) (ap (λ (t : List ℕ). trial_of f t o) (sym is) ∙ sym found))
