-- What a step line says, without the hints.
use Rattle.std.specs.Prelude.{ℕ, List, Option, None, Some, Result, Ok, Err}
use Rattle.lrat_model.specs.Literal.{Literal}
use Rattle.lrat_model.specs.Steps.{Database, ProofStep, Addition, Deletion}
use Rattle.lrat_model.specs.Rules.{addition_fault_by}
use Rattle.lrat_model.specs.declared.step.Rule.{Rule}
use Rattle.lrat_model.specs.declared.step.StepFault.{StepFault}
use Rattle.lrat_text.specs.declared.faults.LineFault.{LineFault}

-- of an addition its first fault stands for the hints
pub data StepOutline : Type 0 where
  Adds : (id : ℕ) (lits : List Literal) (fault : Option StepFault) → StepOutline
  Deletes : (id : ℕ) (ids : List ℕ) → StepOutline

-- the outline of a step under a rule, among this many variables and with these clauses held
abbrev pub outline : Rule → ℕ → Database → ProofStep → StepOutline
outline rule vars database (Addition id lits hints) = Adds id lits (addition_fault_by rule vars database id lits hints)
outline rule vars database (Deletion id ids) = Deletes id ids

-- that of a line's step, if it has one
abbrev pub outline_in : Rule → ℕ → Database → Result ProofStep LineFault → Option StepOutline
outline_in rule vars database (Ok step) = Some (outline rule vars database step)
outline_in rule vars database (Err fault) = None
