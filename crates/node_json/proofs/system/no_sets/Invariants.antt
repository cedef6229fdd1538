use Rattle.std.proofs.Common.{◌≡◌, None, map, take}
use Rattle.node_json.proofs.system.no_sets.Given as goal

abbrev pub invariant-loop-at : goal.invariant-loop-at
invariant-loop-at l = l.sets.items ≡ map (λ _. None) (take l._at l.names)
