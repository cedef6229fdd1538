-- A yes is said of a file that was checked, and never of a refusal.
use Rattle.std.proofs.Common.{◌≡◌, true, false, IsTrue, sym, ◌∙◌, subst}
use Rattle.desk_io.specs.State.{DeskState}
use Rattle.request_reading.specs.Meaning.{YesMeans}
use Rattle.request_reading.specs.Reading.{is_refusal}
use Rattle.request_reading.specs.declared.reading.Asked.{Asked}
use Rattle.request_reading.specs.declared.reading.Asked.TheVariants as asked
use Rattle.request_reading.specs.declared.status.Status.{Status}
use Rattle.request_reading.specs.declared.status.Status.TheVariants.{Yes}
use Rattle.command_run.specs.Printing.{PrintsAsked}

pub said_yes : (M : Type 0) (a : Asked) (old new : DeskState) (status : Status) → YesMeans M a → PrintsAsked a old new status → status ≡ Yes → M
said_yes M (asked.Checked answer) old new status means p at = means (sym p.status_is ∙ at)
said_yes M (asked.Question f q) old new status means p at = absurd means
said_yes M (asked.Search s) old new status means p at = absurd means
said_yes M (asked.Edits e) old new status means p at = absurd means

pub refused_yes : (refused : Status) → IsTrue (is_refusal refused) → refused ≡ Yes → ⊥
refused_yes refused is e =
    let k : IsTrue (is_refusal Yes) = subst (λ (x : Status). IsTrue (is_refusal x)) e is in
    let f : false ≡ true = k in
    cc
