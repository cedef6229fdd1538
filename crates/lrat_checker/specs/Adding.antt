-- An addition whose hints come one after another.
use Rattle.std.specs.Prelude.{◌≡◌, ℕ, ◌+◌, ◌^◌, ◌≤◌, ◌<◌, Bool, true, false, List, [], ◌∷◌, ◌++◌, ℤ, Option, None, Some, IfSome}
use Rattle.std.specs.Option.{option_or}
use Rattle.lrat_model.specs.Literal.{Literal, negated}
use Rattle.lrat_model.specs.Clauses.{Held}
use Rattle.lrat_model.specs.Propagation.{Outcome, Conflict, propagate}
use Rattle.lrat_model.specs.Steps.{Database, outcome_fault}
use Rattle.lrat_model.specs.Rat.{Group, first_hints, groups_of, groups_fault, ids_of, first_without, rest_fault}
use Rattle.lrat_model.specs.Rules.{addition_fault_by}
use Rattle.lrat_model.specs.declared.step.Rule.{Rule}
use Rattle.lrat_model.specs.declared.step.Rule.TheVariants.{Rup, Rat}
use Rattle.lrat_model.specs.declared.step.StepFault.{StepFault}
use Rattle.lrat_model.specs.declared.step.StepFault.TheVariants.{RatStep, RatMissing}
use Rattle.lrat_checker.specs.declared.hint.Hinting.{Hinting}
use Rattle.lrat_checker.specs.declared.hint.Hinting.TheVariants as hinting

-- where the hints led so far: to these true literals; to a clause with all literals false, before any group; or into a group,
-- before which these literals were true, with those that are true now (none where it is done), and with the ids that groups named
pub data Led : Type 0 where
  Propagates : (trues : List Literal) → Led
  Met : Led
  InGroup : (before : List Literal) (now : Option (List Literal)) (ids : List ℕ) → Led

-- its id and its literals, how many hints were looked at, and where they led
pub record Adding : Type 0 where
  pub id : ℕ
  pub lits : List Literal
  pub hints : ℕ
  pub led : Led

-- the rest of a group, whose next hint is at this place
abbrev pub group_rest : Held → Option (List Literal) → ℕ → List ℤ → Outcome
group_rest held None place hints = Conflict
group_rest held (Some trues) place hints = propagate held trues place hints

-- what is refused where a clause with the pivot's negation has no group, though there are groups
abbrev pub left_out : Option ℕ → Option StepFault
left_out None = None
left_out (Some id) = Some (RatMissing id)

-- the first fault of more groups of a lemma, after those that named these ids
abbrev pub more_groups : Held → List Literal → List Literal → List ℕ → List Group → Option StepFault
more_groups held trues [] ids [] = None
more_groups held trues [] ids (g ∷ groups) = Some (RatStep g.place)
more_groups held trues (pivot ∷ rest) ids groups = option_or (groups_fault held trues pivot groups) (left_out (first_without held (negated pivot) (ids ++ ids_of groups)))

-- the first fault of a lemma under a rule, where these hints come next, the first of them at this place, and no group came before
abbrev pub unit_fault : Rule → Held → List Literal → List Literal → ℕ → List ℤ → Option StepFault
unit_fault Rup held lits trues place hints = outcome_fault (propagate held trues place hints)
unit_fault Rat held lits trues place hints = rest_fault held lits (groups_of place hints) (propagate held trues place (first_hints hints))

-- the first fault of a lemma, where these hints come next, the first of them at this place, and then its end
abbrev pub fault_from : Rule → Held → List Literal → ℕ → Led → List ℤ → Option StepFault
fault_from rule held lits place (Propagates trues) hints = unit_fault rule held lits trues place hints
fault_from rule held lits place Met hints = None
fault_from rule held lits place (InGroup before now ids) hints = option_or (outcome_fault (group_rest held now place (first_hints hints))) (more_groups held before lits ids (groups_of place hints))

-- that of an open addition
abbrev pub fault_after : Rule → Held → Adding → List ℤ → Option StepFault
fault_after rule held a hints = fault_from rule held a.lits (a.hints + 1) a.led hints

-- an addition of this id and these literals is open, before its first hint: whatever hints come, its fault is that of the step
abbrev pub IsBegun : Rule → ℕ → Database → ℕ → List Literal → Option Adding → Type 0
IsBegun rule vars database id lits None = ⊥
IsBegun rule vars database id lits (Some a) =
    (a.id ≡ id) × (a.lits ≡ lits) × (a.hints ≡ 0) × ((hints : List ℤ) → fault_after rule database.held a hints ≡ addition_fault_by rule vars database id lits hints)

-- the place of the hint that comes after this many is a number of 64 bits
abbrev pub HasPlace : ℕ → Type 0
HasPlace hints = hints + 1 < 2 ^ 64

-- one hint later: whatever hints come then, the fault is that of this hint and them, if its place can be told
abbrev pub GoesOn : Rule → Held → ℤ → Option Adding → Option Adding → Type 0
GoesOn rule held hint (Some a) (Some b) =
    (b.id ≡ a.id) × (b.lits ≡ a.lits) × (b.hints ≤ a.hints + 1) × (HasPlace a.hints → (hints : List ℤ) → fault_after rule held a (hint ∷ hints) ≡ fault_after rule held b hints)
GoesOn rule held hint (Some a) None = ⊥
GoesOn rule held hint None o = ⊥

-- whatever hints come after this one, this is the fault, if its place can be told
abbrev pub StopsAt : Rule → Held → ℤ → Option Adding → StepFault → Type 0
StopsAt rule held hint adding fault = IfSome adding (λ a. HasPlace a.hints → (hints : List ℤ) → fault_after rule held a (hint ∷ hints) ≡ Some fault)

-- whether a hint's clause was false
abbrev pub has_met : Hinting → Bool
has_met hinting.More = false
has_met hinting.Conflict = true

-- whether hints led to a clause with all literals false, before any group
abbrev pub is_met : Led → Bool
is_met (Propagates trues) = false
is_met Met = true
is_met (InGroup before now ids) = false
