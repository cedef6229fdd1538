-- The headline: what is so where the program answers, for every configuration file, every set of faulty nodes and every budget.
use Rattle.std.specs.Prelude.{◌≡◌, ◌⊎◌, ◌↔◌, ℕ, true, List, Result, Ok, Err}
use Rattle.std.specs.Str.{bytes_eq}
use Rattle.desk_io.specs.State.{DeskState, Files}
use Rattle.cli_words.specs.Words.{order_of}
use Rattle.request_reading.specs.declared.early.Early.{Early}
use Rattle.request_reading.specs.declared.reading.Asked.{Asked}
use Rattle.request_reading.specs.declared.reading.Asked.TheVariants as asked
use Rattle.request_reading.specs.declared.searches.Search.{Search}
use Rattle.request_reading.specs.declared.edits.Edits.{Edits}
use Rattle.request_reading.specs.declared.status.Status.{Status}
use Rattle.request_reading.specs.declared.status.Status.TheVariants.{Yes, No, Unknown, TooLarge}
use Rattle.request_reading.specs.Answers.{asked_of}
use Rattle.request_reading.specs.Meaning.{IsCheck, IsCheckLrat}
use Rattle.whatif_session.specs.Scripts.{states_of}
use Rattle.command_run.specs.Checks.{SaysAccepted, SaysVerified, IsLargeCert, IsLargeProof}
use Rattle.command_run.specs.Edits.{EditsShow}
use Rattle.command_run.specs.Meanings.{meaning_of}
use Rattle.command_run.specs.Showing.{WritesAccepted}

-- the words ask for this search over the files
abbrev pub Seeks : List (List ℕ) → Files → Search → Type 0
Seeks words files s = asked_of words files ≡ Ok (asked.Search s)

-- the words name these edits
abbrev pub Tries : List (List ℕ) → Files → Edits → Type 0
Tries words files e = asked_of words files ≡ Ok (asked.Edits e)

-- the words were answered, and the files and the output were these before and are those now
pub record Headline (words : List (List ℕ)) (old new : DeskState) (status : Status) : Type 0 where
  -- a yes, a no, an unknown: what they show by the meaning of the command is so
  pub yes : (s : Search) → Seeks words old.files s → status ≡ Yes → (meaning_of s.goal).YesShows s old new
  pub no : (s : Search) → Seeks words old.files s → status ≡ No → (meaning_of s.goal).NoShows s old new
  pub unknown : (s : Search) → Seeks words old.files s → status ≡ Unknown → (meaning_of s.goal).UnknownShows s old new
  -- a certificate is accepted only where what it shows is so of the system that its header names, and just that is printed
  pub accepts : IsCheck (order_of words) → status ≡ Yes → SaysAccepted words old new
  -- a proof of another solver is verified only where every two quorums share a node, and for which part it is printed
  pub verifies : IsCheckLrat (order_of words) → status ≡ Yes → SaysVerified words old new
  -- either is too large exactly where its first fault is that its formula, or counter, has too many variables
  pub large_cert : IsCheck (order_of words) → (status ≡ TooLarge) ↔ IsLargeCert words old.files
  pub large_proof : IsCheckLrat (order_of words) → (status ≡ TooLarge) ↔ IsLargeProof words old.files
  -- each finished certificate is accepted, with the node that was asked and the deleted nodes as its header
  pub finished : (s : Search) → Seeks words old.files s → (status ≡ Yes) ⊎ ((status ≡ No) ⊎ (status ≡ Unknown)) → WritesAccepted s new
  -- a script: the greatest quorum of the system before its edits and after each, and whether the nodes without a set are available, or which are unmet; or its first fault
  pub edits : (e : Edits) → Tries words old.files e → EditsShow e.set (states_of e.system e.script) old new status

-- the file that may change is that of a search's certificate
abbrev pub IsCertOf : List ℕ → Asked → Type 0
IsCertOf path (asked.Search s) = bytes_eq path s.path ≡ true
IsCertOf path (asked.Question f question) = ⊥
IsCertOf path (asked.Edits e) = ⊥
IsCertOf path (asked.Checked answer) = ⊥

abbrev pub MayChange : List ℕ → Result Asked Early → Type 0
MayChange path (Ok a) = IsCertOf path a
MayChange path (Err e) = ⊥
