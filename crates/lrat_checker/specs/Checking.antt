-- What a checker is seen as.
use Rattle.std.specs.Prelude.{ℕ, Option}
use Rattle.lrat_model.specs.Steps.{Database, ProofStep, Addition, Deletion}
use Rattle.lrat_model.specs.declared.step.Rule.{Rule}
use Rattle.lrat_checker.specs.Adding.{Adding}

-- between additions: the rule, the number of variables, and the clauses held with the last id
pub record Checking : Type 0 where
  pub rule : Rule
  pub vars : ℕ
  pub database : Database

-- at any time: the addition too that is open, if one is
pub record Stepping : Type 0 where
  pub rule : Rule
  pub vars : ℕ
  pub database : Database
  pub open_addition : Option Adding

-- the step adds a lemma
abbrev pub IsAddition : ProofStep → Type 0
IsAddition (Addition id lits hints) = Unit {0}
IsAddition (Deletion id ids) = ⊥
