-- Unit propagation over a list of hints: what LRAT asks of a lemma, RAT hints left out (Cruz-Filipe et al. 2017).
use Rattle.std.specs.Prelude.{◌≡◌, ℕ, ◌+◌, not, List, [], ◌∷◌, map, filter, ℤ, pos, negsuc, if◌then◌else◌, Option, None, Some}
use Rattle.std.specs.List.{list_all}
use Rattle.lrat_model.specs.Literal.{Literal, negated, same, has}
use Rattle.lrat_model.specs.Clauses.{Held, clause_at}
use Rattle.lrat_model.specs.declared.step.ClauseStatus.{ClauseStatus}
use Rattle.lrat_model.specs.declared.step.ClauseStatus.TheVariants.{Falsified, Forces, Unresolved}
use Rattle.lrat_model.specs.declared.step.StepFault.{StepFault}
use Rattle.lrat_model.specs.declared.step.StepFault.TheVariants.{RatStep, NoSuchClause, NotUnit}

-- the literals of a clause that are not false where these literals are true
abbrev pub not_false : List Literal → List Literal → List Literal
not_false trues clause = filter (λ l. not (has trues (negated l))) clause

-- what the literals that are left of a clause say: none, one (however often it stands there), or more
abbrev pub status_of : List Literal → ClauseStatus
status_of [] = Falsified
status_of (l ∷ ls) = if list_all (same l) ls then Forces l else Unresolved

-- what a clause says where these literals are true
abbrev pub status : List Literal → List Literal → ClauseStatus
status trues clause = status_of (not_false trues clause)

-- where a hint leads, and where hints do: to a clause with all literals false, to a fault, or on, with these literals true
pub data Outcome : Type 0 where
  Conflict : Outcome
  Stops : (fault : StepFault) → Outcome
  Leaves : (trues : List Literal) → Outcome

-- the hint at this place names a clause of this status
abbrev pub after_status : List Literal → ℕ → ClauseStatus → Outcome
after_status trues place Falsified = Conflict
after_status trues place (Forces l) = Leaves (l ∷ trues)
after_status trues place Unresolved = Stops (NotUnit place)

-- the hint at this place names this id, under which this was found
abbrev pub after_finding : List Literal → ℕ → ℕ → Option (List Literal) → Outcome
after_finding trues place id None = Stops (NoSuchClause id)
after_finding trues place id (Some clause) = after_status trues place (status trues clause)

-- one hint, at this place
abbrev pub take_hint : Held → List Literal → ℕ → ℤ → Outcome
take_hint held trues place (pos id) = after_finding trues place id (clause_at held id)
take_hint held trues place (negsuc n) = Stops (RatStep place)

-- what comes next, unless hints ended
abbrev pub and_then : Outcome → (List Literal → Outcome) → Outcome
and_then Conflict next = Conflict
and_then (Stops fault) next = Stops fault
and_then (Leaves trues) next = next trues

-- the hints in order, the first of them at this place
abbrev pub propagate : Held → List Literal → ℕ → List ℤ → Outcome
propagate held trues place [] = Leaves trues
propagate held trues place (hint ∷ hints) = and_then (take_hint held trues place hint) (λ now. propagate held now (place + 1) hints)

-- from the negations of the clause's literals, the hints come to a clause with all literals false
abbrev pub Follows : Held → List Literal → List ℤ → Type 0
Follows held clause hints = propagate held (map negated clause) 1 hints ≡ Conflict

-- the clauses held close: the empty clause follows by some hints
abbrev pub Closes : Held → Type 0
Closes held = (hints : List ℤ) × Follows held [] hints
