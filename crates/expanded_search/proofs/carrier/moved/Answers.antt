use Rattle.std.proofs.Common.{◌-◌, ◌+◌, ℕ, get_or, arith}
use Rattle.expanded_search.proofs.CarrierLaws.{moved_step, is_moved, moved_id}
use Rattle.expanded_search.proofs.carrier.moved.Goals as goal

pub loop-id-preserved : goal.loop-id-preserved
loop-id-preserved c =
    let id : ℕ = get_or c.args.ids.now c.loop-id.id-index 0 in
    moved_step c.args.bases.written c.args.bases.formula c.args.ids.now c.loop-id.id-index c.loop-id.news.items c.push.new.self.items (id - c.args.bases.written + c.args.bases.formula) c.loop-id-test.true c.loop-id.invariant
    (is_moved c.args.bases.written c.args.bases.formula id (omega (arith, c.if-id-bases.false)))
    (moved_id c.args.bases.written c.args.bases.formula id (omega (arith, c.if-id-bases.false)) (omega (arith, c.if-id-ge-END_OF_IDS.false)) (omega (arith, c.if-bases-ge-END_OF_IDS.false)))
    c.in_ok-push.ensures.items
