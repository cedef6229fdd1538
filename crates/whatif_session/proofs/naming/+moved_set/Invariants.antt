use Rattle.std.proofs.Common.{◌≡◌, map, take}
use Rattle.whatif_session.specs.Names.{moved_up}
use Rattle.whatif_session.proofs.naming.+moved_set.Given as goal

abbrev pub decreases-moved_set : goal.decreases-moved_set
decreases-moved_set l = goal.size-moved_set l

abbrev pub invariant-loop-one : goal.invariant-loop-one
invariant-loop-one l = l.inner.items ≡ map (moved_up l.place) (take l.one-index l.one-items)
