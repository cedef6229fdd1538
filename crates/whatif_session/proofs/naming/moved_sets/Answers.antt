use Rattle.std.proofs.Common.{◌<◌, length, arith}
use Rattle.whatif_session.proofs.NewNames.{sets_moved_more, some_below}
use Rattle.whatif_session.proofs.naming.moved_sets.Goals as goal

pub moved_if_any-requires : goal.moved_if_any-requires
moved_if_any-requires c = some_below c.quorum_set.result (length c.args.system.now.sets) (omega (arith, c.len-n.ensures.sets, c.len-n.ensures.few)) c.quorum_set.ensures.below

pub loop-v-preserved : goal.loop-v-preserved
loop-v-preserved c =
    let sets = c.args.system.now.sets in
    let low : c.loop-v.v < length sets = omega (arith, c.loop-v-test.true, c.len-n.ensures.sets) in
    rw c.in_ok-push.ensures.items (sets_moved_more c.args.place sets c.loop-v.sets.items c.loop-v.v _ c.in_ok-moved.moved low c.quorum_set.ensures.set c.in_ok-moved.ensures c.loop-v.invariant)
