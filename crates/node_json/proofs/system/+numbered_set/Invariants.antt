use Rattle.std.proofs.Common.{◌≡◌, map, take}
use Rattle.node_json.specs.Configuration.{numbered}
use Rattle.node_json.specs.View.{set_view}
use Rattle.node_json.proofs.system.+numbered_set.Given as goal

abbrev pub invariant-loop-one : goal.invariant-loop-one
invariant-loop-one l = l.inner.items ≡ map (λ s. numbered l.names (set_view s)) (take l.one-index l.one-items)
