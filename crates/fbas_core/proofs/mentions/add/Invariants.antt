use Rattle.std.proofs.Common.{◌≡◌, ◌++◌}
use Rattle.fbas_model.specs.Nodes.{listed_from}
use Rattle.fbas_model.specs.Lists.{among}
use Rattle.fbas_core.specs.Mentioning.{IsAdded}
use Rattle.fbas_core.proofs.mentions.add.Given as goal

abbrev pub invariant-loop-v : goal.invariant-loop-v
invariant-loop-v l = (l.yielded ++ l.v-iterator ≡ listed_from 0 l.mentioned) × IsAdded l.w (among l.yielded) l.initial.lists l.lists
