use Rattle.std.proofs.Common.{◌≡◌, map, take}
use Rattle.whatif_session.proofs.naming.more_names.Given as goal

abbrev pub invariant-loop-at : goal.invariant-loop-at
invariant-loop-at l = map (λ name. name.items) l.list.items ≡ take l.at l.names
