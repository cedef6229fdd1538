use Rattle.std.proofs.Common.{◌≡◌, map, take, pos}
use Rattle.expanded_search.proofs.carrier.hints_of.Given as goal

abbrev pub invariant-loop-id : goal.invariant-loop-id
invariant-loop-id l = l.hints.items ≡ map pos (take l.id-index l.ids)
