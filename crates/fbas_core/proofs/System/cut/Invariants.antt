use Rattle.std.proofs.Common.{◌≡◌, ◌++◌}
use Rattle.fbas_model.specs.Nodes.{listed_from}
use Rattle.fbas_core.proofs.Cutting.{Cutting}
use Rattle.fbas_core.proofs.System.cut.Given as goal

abbrev pub invariant-loop-v : goal.invariant-loop-v
invariant-loop-v l = (l.yielded ++ l.v-iterator ≡ listed_from 0 l.kept) × Cutting l.kept l.set l.part l.rank l.yielded
