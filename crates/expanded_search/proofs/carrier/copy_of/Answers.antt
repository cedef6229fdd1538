use Rattle.std.proofs.Common.{◌≡◌}
use Rattle.expanded_search.proofs.CarrierLaws.{part_at_first, part_more, part_whole}
use Rattle.expanded_search.proofs.carrier.copy_of.Goals as goal

pub loop-above-init : goal.loop-above-init
loop-above-init c =
    part_at_first c.args.store.now.held c.new-copy.result c.new-copy.ensures.held c.new-copy.ensures.last c.last-last.ensures.rising c.last-last.ensures.none_at_zero

pub loop-above-preserved : goal.loop-above-preserved
loop-above-preserved c =
    part_more c.args.store.now.held c.loop-above.copy c.push.new.self c.loop-above.above c.in-Some.id c.in-Some.lits.now c.loop-above.invariant c.in-Some.ensures.some c.in_ok-push.ensures.held c.in_ok-push.ensures.last

pub returns-then-above-last : goal.returns-then-above-last
returns-then-above-last c =
    let last_is : c.loop-above.above ≡ c.args.store.now.last = cc (c.if-above-last.true, c.last-last.ensures.value) in
    part_whole c.args.store.now c.loop-above.copy c.loop-above.above c.loop-above.invariant last_is c.last-last.ensures.none_above
