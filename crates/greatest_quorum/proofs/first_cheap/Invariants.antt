use Rattle.std.proofs.Common.{◌≡◌, ◌++◌}
use Rattle.fbas_model.specs.Nodes.{listed_from}
use Rattle.greatest_quorum.proofs.first_cheap.Given as goal

abbrev pub invariant-loop-v : goal.invariant-loop-v
invariant-loop-v l = l.yielded ++ l.v-iterator ≡ listed_from 0 l.again
