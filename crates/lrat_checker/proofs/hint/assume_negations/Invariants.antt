use Rattle.std.proofs.Common.{◌≡◌, [], map, take, drop}
use Rattle.lrat_model.specs.Literal.{negated}
use Rattle.lrat_model.specs.Steps.{literal_fault}
use Rattle.lrat_model.specs.Alike.{Alike}
use Rattle.lrat_checker.proofs.hint.assume_negations.Given as goal

abbrev pub invariant-loop-l : goal.invariant-loop-l
invariant-loop-l l = record {
  vars : l.assignment.vars ≡ l.initial.assignment.vars;
  trues : Alike (map negated (take l.l-index l.lits)) l.assignment.trues;
  faults : literal_fault l.assignment.vars (take l.l-index l.lits) (drop l.l-index l.lits) ≡ literal_fault l.assignment.vars [] l.lits;
}
