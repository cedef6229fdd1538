use Rattle.std.proofs.Common.{◌≡◌, ◌++◌, [], map}
use Rattle.std.specs.Prelude.{slice_index_or}
use Rattle.fbas_model.specs.Nodes.{listed_from}
use Rattle.name_set.proofs.names.Names.kept.Given as goal

abbrev pub invariant-loop-at : goal.invariant-loop-at
invariant-loop-at l = (l.yielded ++ l.at-iterator ≡ listed_from 0 l.kept) × (map (λ name. name.items) l.list.items ≡ map (λ v. slice_index_or l.self v []) l.yielded)
