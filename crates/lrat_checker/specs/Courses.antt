-- Where the hints of an open addition led, and what it is seen as.
use Rattle.std.specs.Prelude.{◌≡◌, ◌⊎◌, ◌≤◌, ℕ, Bool, true, false, [], ◌∷◌, List, Option, None, Some, ℤ, negsuc, length, take}
use Rattle.lrat_model.specs.Literal.{Literal, negated}
use Rattle.lrat_model.specs.Clauses.{Held}
use Rattle.lrat_model.specs.Rat.{groups_of, first_without}
use Rattle.lrat_model.specs.declared.step.Rule.{Rule}
use Rattle.lrat_model.specs.declared.step.Rule.TheVariants.{Rup, Rat}
use Rattle.lrat_model.specs.declared.step.StepFault.{StepFault}
use Rattle.rat_candidates.specs.Groups.{group_id, ids_in}
use Rattle.rat_candidates.specs.Kept.{Kept, IsCandidate, HasRoom}
use Rattle.lrat_checker.specs.declared.hint.Hinting.{Hinting}
use Rattle.lrat_checker.specs.declared.hint.Hinting.TheVariants as hinting
use Rattle.lrat_checker.specs.declared.opened.Opened.{Opened}
use Rattle.lrat_checker.specs.declared.opened.Course.{Course}
use Rattle.lrat_checker.specs.declared.opened.Course.TheVariants as course
use Rattle.lrat_checker.specs.Adding.{Led, Propagates, Met, InGroup, Adding, more_groups, fault_from}

-- the literals that are true in a group, unless it is done
abbrev pub unless_done : Bool → List Literal → Option (List Literal)
unless_done true trues = None
unless_done false trues = Some trues

-- where hints led, where these literals are true and these RAT hints came
abbrev pub led : List Literal → List ℤ → Course → Led
led trues groups course.Propagates = Propagates trues
led trues groups course.Met = Met
led trues groups (course.InGroup before is_done) = InGroup (take before trues) (unless_done is_done trues) (ids_in groups)

-- the addition of these literals
abbrev pub adding_of : List Literal → List Literal → List ℤ → Opened → Adding
adding_of lits trues groups o = record { id = o.id; lits = lits; hints = o.hints; led = led trues groups o.course }

-- the addition that is open, if one is
abbrev pub adding : List Literal → List Literal → List ℤ → Option Opened → Option Adding
adding lits trues groups None = None
adding lits trues groups (Some o) = Some (adding_of lits trues groups o)

-- before any group no RAT hint came; in a group, which RAT hints alone begin, no fewer literals are true than before it
abbrev pub Suits : Rule → List Literal → List ℤ → Course → Type 0
Suits rule trues groups course.Propagates = groups ≡ []
Suits rule trues groups course.Met = Unit {0}
Suits rule trues groups (course.InGroup before is_done) = (rule ≡ Rat) × (before ≤ length trues)

-- the hint begins no group
abbrev pub IsUnitHint : Rule → ℤ → Type 0
IsUnitHint rule hint = (rule ≡ Rup) ⊎ (group_id hint ≡ None)

-- whether the hints up to the next RAT hint are passed over
abbrev pub is_over : Course → Bool
is_over course.Propagates = false
is_over course.Met = true
is_over (course.InGroup before is_done) = is_done

-- where a hint leads that was taken by unit propagation
abbrev pub onward : Course → Hinting → Course
onward c hinting.More = c
onward course.Propagates hinting.Conflict = course.Met
onward course.Met hinting.Conflict = course.Met
onward (course.InGroup before is_done) hinting.Conflict = course.InGroup before true

-- whatever hints follow a RAT hint, the first fault is that of its group and the later ones, where these literals are true before it
abbrev pub Ends : List Literal → List ℤ → Course → List Literal → Type 0
Ends trues groups c before =
    (held : Held) (lits : List Literal) (place n : ℕ) (hints : List ℤ)
    → fault_from Rat held lits place (led trues groups c) (negsuc n ∷ hints) ≡ more_groups held before lits (ids_in groups) (groups_of place (negsuc n ∷ hints))

-- whatever hints follow a RAT hint, this is the first fault
abbrev pub IsUndone : List Literal → List ℤ → Course → StepFault → Type 0
IsUndone trues groups c fault = (held : Held) (lits : List Literal) (place n : ℕ) (hints : List ℤ) → fault_from Rat held lits place (led trues groups c) (negsuc n ∷ hints) ≡ Some fault

-- a clause with the negation of the first literal is held under the id
abbrev pub IsNamed : Held → List Literal → ℕ → Type 0
IsNamed held [] id = ⊥
IsNamed held (pivot ∷ rest) id = IsCandidate held (negated pivot) id

-- there is room for the groups that may come
abbrev pub HasGroupRoom : Rule → Held → List Literal → Kept → Type 0
HasGroupRoom Rup held lits kept = Unit {0}
HasGroupRoom Rat held [] kept = Unit {0}
HasGroupRoom Rat held (pivot ∷ rest) kept = HasRoom held (negated pivot) kept

-- the first id of a clause that has the negation of the first literal, but for these ids
abbrev pub missing_of : Held → List ℕ → List Literal → Option ℕ
missing_of held ids [] = None
missing_of held ids (pivot ∷ rest) = first_without held (negated pivot) ids
