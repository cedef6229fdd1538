-- The edit that a read line stands for.
use Rattle.std.specs.Prelude.{ℕ, List, map, IsTrue}
use denote.Ref.{Bor}
use Rattle.fbas_model.specs.Names.{Name, is_key}
use Rattle.whatif_session.specs.Edits as spec
use Rattle.whatif_session.specs.declared.lines.Target.{Target}
use Rattle.whatif_session.specs.declared.lines.Edit.{Edit}
use Rattle.whatif_session.specs.declared.lines.Edit.TheVariants.{Threshold, Add, Drop, Declare, Retire}

abbrev pub texts : List (Bor (List ℕ)) → List (List ℕ)
texts words = map (λ word. word.now) words

-- the node and the path of a target
abbrev pub target_view : Target → Name × List ℕ
target_view target = (target.node.now, target.path.items)

abbrev pub edit_view : Edit → spec.Edit
edit_view (Threshold target threshold) = spec.Threshold target.node.now target.path.items threshold
edit_view (Add target name) = spec.Add target.node.now target.path.items name.now
edit_view (Drop target name) = spec.Drop target.node.now target.path.items name.now
edit_view (Declare node) = spec.Declare node.now
edit_view (Retire node) = spec.Retire node.now

-- the names that an edit may bring are keys
abbrev pub HasKeys : spec.Edit → Type 0
HasKeys (spec.Threshold node path threshold) = Unit {0}
HasKeys (spec.Add node path name) = IsTrue (is_key name)
HasKeys (spec.Drop node path name) = Unit {0}
HasKeys (spec.Declare node) = IsTrue (is_key node)
HasKeys (spec.Retire node) = Unit {0}
