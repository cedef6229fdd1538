-- The names, quorum sets and nodes that the program's values stand for.
use Rattle.std.specs.Prelude.{ℕ, List, [], ◌∷◌, map, option_map}
use denote.Ref.{Bor}
use Rattle.fbas_model.specs.Names.{Name}
use Rattle.node_json.specs.Named as spec
use Rattle.node_json.specs.declared.quorum_sets.NamedSet.{NamedSet, fold-NamedSet}
use Rattle.node_json.specs.declared.quorum_sets.NamedSet.TheOpen.{NamedSet-F}
use Rattle.node_json.specs.declared.nodes.NamedNode.{NamedNode}

abbrev pub names_view : List (Bor (List ℕ)) → List Name
names_view names = map (λ name. name.now) names

abbrev pub sets_in : List spec.NamedSet → spec.NamedSets
sets_in [] = spec.no_sets
sets_in (s ∷ ss) = spec.one_set s (sets_in ss)

-- one level, with each set inside already seen
abbrev pub set_step : NamedSet-F spec.NamedSet → spec.NamedSet
set_step s = spec.named_set s.threshold (names_view s.validators.items) (sets_in s.inner.items)

abbrev pub set_view : NamedSet → spec.NamedSet
set_view = fold-NamedSet spec.NamedSet set_step

abbrev pub sets_view : List NamedSet → spec.NamedSets
sets_view sets = sets_in (map set_view sets)

abbrev pub node_view : NamedNode → spec.NamedNode
node_view node = record { key = node.key.now; quorum_set = option_map set_view node.quorum_set }

abbrev pub nodes_view : List NamedNode → List spec.NamedNode
nodes_view nodes = map node_view nodes
