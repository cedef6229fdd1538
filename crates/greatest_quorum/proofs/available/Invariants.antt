use Rattle.greatest_quorum.proofs.Availability.{Gathered}
use Rattle.fbas_model.specs.Nodes.{members}
use Rattle.greatest_quorum.proofs.available.Given as goal

abbrev pub invariant-loop-v : goal.invariant-loop-v
invariant-loop-v l = Gathered l.system.sets (members l.b) l.initial.scratch l.scratch l.v
