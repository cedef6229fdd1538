use Rattle.fbas_model.specs.Nodes.{members}
use Rattle.greatest_quorum.proofs.Minimal.{Thinned}
use Rattle.greatest_quorum.proofs.minimal_block.Given as goal

abbrev pub invariant-loop-v : goal.invariant-loop-v
invariant-loop-v l = Thinned l.system.sets (members l.faulty) l.initial.s l.s l.initial.scratch l.scratch l.v
