use Rattle.cardinality_counts.proofs.CountLaws.{AreOpen}
use Rattle.cardinality_counts.proofs.gates.Gates.are_quiet.Given as goal

abbrev pub invariant-loop-place : goal.invariant-loop-place
invariant-loop-place l = AreOpen l.self.gates.items l.assignment.trues l.place
