use Rattle.fbas_model.specs.Nodes.{members}
use Rattle.greatest_quorum.proofs.Minimal.{Reduced}
use Rattle.greatest_quorum.proofs.minimal_quorum.Given as goal

abbrev pub invariant-loop-v : goal.invariant-loop-v
invariant-loop-v l = Reduced l.system.sets (members l.faulty) l.initial.q l.q l.initial.scratch l.scratch l.needed l.v
