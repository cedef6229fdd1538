use Rattle.std.proofs.Common.{◌≡◌, map, take}
use Rattle.std.specs.Option.{option_map}
use Rattle.whatif_session.specs.Names.{moved_up}
use Rattle.whatif_session.proofs.naming.moved_sets.Given as goal

abbrev pub invariant-loop-v : goal.invariant-loop-v
invariant-loop-v l = l.sets.items ≡ map (option_map (moved_up l.place)) (take l.v l.system.sets)
