-- The steps of a proof, and the first fault of each.
use Rattle.std.specs.Prelude.{ℕ, List, [], ◌∷◌, ◌++◌, map, ℤ, nat_le, nat_lt, if◌then◌else◌, Option, None, Some, is_none, ◌||◌}
use Rattle.std.specs.Option.{option_or}
use Rattle.lrat_model.specs.Literal.{Literal, variable_of, negated, has}
use Rattle.lrat_model.specs.Clauses.{Held, clause_at, with_clause, without, has_id}
use Rattle.lrat_model.specs.Propagation.{Outcome, Conflict, Stops, Leaves, propagate}
use Rattle.lrat_model.specs.declared.step.StepFault.{StepFault}
use Rattle.lrat_model.specs.declared.step.StepFault.TheVariants.{IdOrder, BadLiteral, Tautology, NoSuchClause, NoConflict}
use Rattle.lrat_model.specs.declared.step.Progress.{Progress}
use Rattle.lrat_model.specs.declared.step.Progress.TheVariants.{Going, Refuted}
use Rattle.lrat_model.specs.declared.step.Step.{Step}
use Rattle.lrat_model.specs.declared.step.Step.TheVariants.{Add, Delete}

-- a step of a proof: a lemma with its id and hints, or ids whose clauses are held no more
pub data ProofStep : Type 0 where
  Addition : (id : ℕ) (lits : List Literal) (hints : List ℤ) → ProofStep
  Deletion : (id : ℕ) (ids : List ℕ) → ProofStep

-- what a program's step says
abbrev pub step_of : Step → ProofStep
step_of (Add id lits hints) = Addition id lits.items hints.items
step_of (Delete id ids) = Deletion id ids.items

-- the clauses held, and the last id
pub record Database : Type 0 where
  pub held : Held
  pub last : ℕ

-- the first literal, after those before, that is out of range or whose negation came before
abbrev pub literal_fault : ℕ → List Literal → List Literal → Option StepFault
literal_fault vars before [] = None
literal_fault vars before (l ∷ ls) =
    if nat_lt vars (variable_of l) then Some (BadLiteral l)
    else if has before (negated l) then Some (Tautology l)
    else literal_fault vars (before ++ l ∷ []) ls

-- why hints do not show that a clause follows, if they do not
abbrev pub outcome_fault : Outcome → Option StepFault
outcome_fault Conflict = None
outcome_fault (Stops fault) = Some fault
outcome_fault (Leaves trues) = Some NoConflict

-- the first fault of an addition: its id, then its literals in order, then its hints in order
abbrev pub addition_fault : ℕ → Database → ℕ → List Literal → List ℤ → Option StepFault
addition_fault vars database id clause hints =
    if nat_le id database.last then Some (IdOrder database.last id)
    else option_or (literal_fault vars [] clause) (outcome_fault (propagate database.held (map negated clause) 1 hints))

-- the first id, after those before, that is not held or came before
abbrev pub deletion_fault : Held → List ℕ → List ℕ → Option StepFault
deletion_fault held before [] = None
deletion_fault held before (id ∷ ids) =
    if is_none (clause_at held id) || has_id before id then Some (NoSuchClause id)
    else deletion_fault held (before ++ id ∷ []) ids

-- the first fault of a step, among this many variables; a deletion's own id is not looked at
abbrev pub step_fault : ℕ → Database → ProofStep → Option StepFault
step_fault vars database (Addition id lits hints) = addition_fault vars database id lits hints
step_fault vars database (Deletion id ids) = deletion_fault database.held [] ids

-- what is held after a step, and the last id
abbrev pub after_step : Database → ProofStep → Database
after_step database (Addition id lits hints) = record { held = with_clause database.held id lits; last = id }
after_step database (Deletion id ids) = record { held = without database.held ids; last = database.last }

-- the empty lemma ends a refutation
abbrev pub progress_at : List Literal → Progress
progress_at [] = Refuted
progress_at (l ∷ ls) = Going

-- where a step leads: on, or to the empty lemma
abbrev pub progress_of : ProofStep → Progress
progress_of (Addition id lits hints) = progress_at lits
progress_of (Deletion id ids) = Going
