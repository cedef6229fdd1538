use Rattle.std.proofs.Common.{◌≡◌, ◌++◌, map, None}
use Rattle.std.specs.Prelude.{option_map, slice_index_or}
use Rattle.fbas_model.specs.Nodes.{listed_from}
use Rattle.fbas_model.specs.Restriction.{renumbered}
use Rattle.fbas_core.proofs.System.kept_sets.Given as goal

abbrev pub invariant-loop-v : goal.invariant-loop-v
invariant-loop-v l = (l.yielded ++ l.v-iterator ≡ listed_from 0 l.kept) × (l.sets.items ≡ map (λ v. slice_index_or (map (option_map (renumbered l.kept)) l.self.sets) v None) l.yielded)
