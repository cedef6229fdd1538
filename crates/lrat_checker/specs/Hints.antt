-- What a call says of where a hint leads.
use Rattle.std.specs.Prelude.{◌≡◌, ℕ, List, Result, Ok, Err, ℤ, pos, negsuc, Option, Some, None}
use Rattle.lrat_model.specs.Literal.{Literal}
use Rattle.lrat_model.specs.Propagation.{Outcome, Conflict, Stops, Leaves}
use Rattle.lrat_model.specs.declared.step.StepFault.{StepFault}
use Rattle.lrat_model.specs.Alike.{Alike}
use Rattle.lrat_checker.specs.declared.hint.Hinting.{Hinting}
use Rattle.lrat_checker.specs.declared.hint.Hinting.TheVariants as hinting

-- what the call answers where the hint has this outcome, and which literals it leaves true
abbrev pub Took : Outcome → Result Hinting StepFault → List Literal → Type 0
Took outcome (Err fault) now = outcome ≡ Stops fault
Took outcome (Ok hinting.Conflict) now = outcome ≡ Conflict
Took outcome (Ok hinting.More) now = (trues : List Literal) × (outcome ≡ Leaves trues) × Alike trues now

-- the id that a hint names, if it is no RAT hint
abbrev pub id_of : ℤ → Option ℕ
id_of (pos id) = Some id
id_of (negsuc n) = None
