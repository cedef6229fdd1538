-- What calls say of the groups of hints.
use Rattle.std.specs.Prelude.{◌≡◌, ℕ, ◌+◌, Bool, true, false, List, [], ◌∷◌, ℤ, Option, Some, None, Result, Ok, Err}
use Rattle.lrat_model.specs.Literal.{Literal}
use Rattle.lrat_model.specs.Clauses.{Held}
use Rattle.lrat_model.specs.Propagation.{Conflict, Stops, propagate}
use Rattle.lrat_model.specs.Alike.{Alike}
use Rattle.lrat_model.specs.Rat.{Group, take_group}
use Rattle.lrat_model.specs.declared.step.StepFault.{StepFault}
use Rattle.lrat_checker.specs.declared.hint.Hinting.{Hinting}
use Rattle.lrat_checker.specs.declared.hint.Hinting.TheVariants as hinting

-- the place where groups begin
abbrev pub first_place : List Group → Option ℕ
first_place [] = None
first_place (g ∷ groups) = Some g.place

-- what the call answers that makes a clause's literals false: whether none was true; and which literals it leaves true
abbrev pub MadeFalse : Option (List Literal) → Bool → List Literal → Type 0
MadeFalse made true now = (trues : List Literal) × (made ≡ Some trues) × Alike trues now
MadeFalse made false now = made ≡ None

-- what the call answers that opens a group of this place and id, whatever hints it has: a fault, that it is done, or that its
-- hints are to lead from the literals that it leaves true to a conflict
abbrev pub Opens : Held → List Literal → Literal → ℕ → ℕ → Result Hinting StepFault → List Literal → Type 0
Opens held trues pivot place id (Err fault) now = (hints : List ℤ) → take_group held trues pivot (record { place = place; id = id; hints = hints }) ≡ Stops fault
Opens held trues pivot place id (Ok hinting.Conflict) now = (hints : List ℤ) → take_group held trues pivot (record { place = place; id = id; hints = hints }) ≡ Conflict
Opens held trues pivot place id (Ok hinting.More) now =
    (left : List Literal) × Alike left now × ((hints : List ℤ) → take_group held trues pivot (record { place = place; id = id; hints = hints }) ≡ propagate held left (place + 1) hints)
