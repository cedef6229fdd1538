-- RAT hints: what LRAT asks of a lemma that need not follow, but may be added without loss (Cruz-Filipe et al. 2017, section 2).
use Rattle.std.specs.Prelude.{ℕ, ◌+◌, suc, not, ◌&&◌, List, [], ◌∷◌, map, ℤ, pos, negsuc, if◌then◌else◌, Option, None, Some}
use Rattle.std.specs.Option.{option_or}
use Rattle.lrat_model.specs.Literal.{Literal, negated, same, has}
use Rattle.lrat_model.specs.Clauses.{Held, clause_at, has_id}
use Rattle.lrat_model.specs.Propagation.{Outcome, Conflict, Stops, Leaves, propagate}
use Rattle.lrat_model.specs.Steps.{outcome_fault}
use Rattle.lrat_model.specs.declared.step.StepFault.{StepFault}
use Rattle.lrat_model.specs.declared.step.StepFault.TheVariants.{RatStep, NoSuchClause, NoConflict, RatMissing}

-- ---- hints

-- the hints up to the first negative one
abbrev pub first_hints : List ℤ → List ℤ
first_hints [] = []
first_hints (pos id ∷ hints) = pos id ∷ first_hints hints
first_hints (negsuc n ∷ hints) = []

-- a negative hint at its place, the clause that it names, and the hints up to the next negative one
pub record Group : Type 0 where
  pub place : ℕ
  pub id : ℕ
  pub hints : List ℤ

-- the groups of the hints, the first hint at this place
abbrev pub groups_of : ℕ → List ℤ → List Group
groups_of place [] = []
groups_of place (pos id ∷ hints) = groups_of (place + 1) hints
groups_of place (negsuc n ∷ hints) = record { place = place; id = suc n; hints = first_hints hints } ∷ groups_of (place + 1) hints

-- ---- a group

-- the true literals once those of a clause, one literal left out, are made false in order; None where one of them is true already
abbrev pub made_false : Literal → List Literal → List Literal → Option (List Literal)
made_false left_out trues [] = Some trues
made_false left_out trues (m ∷ ms) =
    if same left_out m then made_false left_out trues ms
    else if has trues m then None
    else made_false left_out (negated m ∷ trues) ms

-- the hints of a group from these true literals: a conflict where the clause has a true literal
abbrev pub group_outcome : Held → Group → Option (List Literal) → Outcome
group_outcome held g None = Conflict
group_outcome held g (Some trues) = propagate held trues (g.place + 1) g.hints

-- a group whose hint names this clause
abbrev pub named_outcome : Held → List Literal → Literal → Group → Option (List Literal) → Outcome
named_outcome held trues pivot g None = Stops (NoSuchClause g.id)
named_outcome held trues pivot g (Some clause) =
    if has clause (negated pivot) then group_outcome held g (made_false (negated pivot) trues clause) else Stops (RatStep g.place)

-- one group of a lemma with this pivot, where these literals are true: a conflict where it is done
abbrev pub take_group : Held → List Literal → Literal → Group → Outcome
take_group held trues pivot g = named_outcome held trues pivot g (clause_at held g.id)

-- the first fault of the groups, each from the same true literals
abbrev pub groups_fault : Held → List Literal → Literal → List Group → Option StepFault
groups_fault held trues pivot [] = None
groups_fault held trues pivot (g ∷ groups) = option_or (outcome_fault (take_group held trues pivot g)) (groups_fault held trues pivot groups)

-- ---- a lemma

-- the ids that groups name
abbrev pub ids_of : List Group → List ℕ
ids_of groups = map (λ g. g.id) groups

-- the first id of a clause that has the literal, but for these ids
abbrev pub first_without : Held → Literal → List ℕ → Option ℕ
first_without [] l ids = None
first_without (e ∷ held) l ids = if has e.1 l && not (has_id ids e.0) then Some e.0 else first_without held l ids

-- what is refused where a clause with the pivot's negation has no group
abbrev pub missing_fault : List Group → Option ℕ → Option StepFault
missing_fault groups None = None
missing_fault [] (Some id) = Some NoConflict
missing_fault (g ∷ groups) (Some id) = Some (RatMissing id)

-- the groups of a lemma: its pivot is its first literal
abbrev pub pivot_fault : Held → List Literal → List Literal → List Group → Option StepFault
pivot_fault held trues [] [] = Some NoConflict
pivot_fault held trues [] (g ∷ groups) = Some (RatStep g.place)
pivot_fault held trues (pivot ∷ rest) groups =
    option_or (groups_fault held trues pivot groups) (missing_fault groups (first_without held (negated pivot) (ids_of groups)))

-- what follows the first hints of a lemma: its groups, unless they came to a conflict or a fault
abbrev pub rest_fault : Held → List Literal → List Group → Outcome → Option StepFault
rest_fault held clause groups Conflict = None
rest_fault held clause groups (Stops fault) = Some fault
rest_fault held clause groups (Leaves trues) = pivot_fault held trues clause groups

-- why hints do not show that a lemma may be added, if they do not
abbrev pub rat_fault : Held → List Literal → List ℤ → Option StepFault
rat_fault held clause hints = rest_fault held clause (groups_of 1 hints) (propagate held (map negated clause) 1 (first_hints hints))
