use Rattle.std.proofs.Common.{◌≡◌, pos, get_or, true, false, sym, w64, rules}
use mir.Val.{SFits}
use Rattle.std.proofs.lemmas.Int.{to_z-of_z}
use Rattle.rat_candidates.specs.Groups.{group_id}
use Rattle.lrat_checker.proofs.GroupLaws.{first_ends, first_goes_on, is_named, place_here, place_later}
use Rattle.lrat_checker.proofs.rat.first_count.Goals as goal

pub returns-then-is_some-clause-first : goal.returns-then-is_some-clause-first
returns-then-is_some-clause-first c =
    let fits : SFits w64 (get_or c.args.hints.now c.loop-i.i (pos 0)) = search rules in
    let named : c.group_id.result ≡ group_id (get_or c.args.hints.now c.loop-i.i (pos 0)) = simp to_z-of_z at c.group_id.ensures in
    first_ends c.args.hints.now c.loop-i.i c.loop-i-test.true c.loop-i.invariant.hints (is_named c.args.hints.now c.loop-i.i c.group_id.result c.is_some.result true named c.is_some.ensures c.if-is_some.true)

pub returns-then-is_some-clause-there : goal.returns-then-is_some-clause-there
returns-then-is_some-clause-there c = λ _.
    let fits : SFits w64 (get_or c.args.hints.now c.loop-i.i (pos 0)) = search rules in
    let named : c.group_id.result ≡ group_id (get_or c.args.hints.now c.loop-i.i (pos 0)) = simp to_z-of_z at c.group_id.ensures in
    sym (place_here c.args.hints.now c.loop-i.i c.loop-i-test.true c.loop-i.invariant.place (is_named c.args.hints.now c.loop-i.i c.group_id.result c.is_some.result true named c.is_some.ensures c.if-is_some.true))

pub loop-i-preserved : goal.loop-i-preserved
loop-i-preserved c =
    let hints = c.args.hints.now in
    let i = c.loop-i.i in
    let fits : SFits w64 (get_or hints i (pos 0)) = search rules in
    let named : c.group_id.result ≡ group_id (get_or hints i (pos 0)) = simp to_z-of_z at c.group_id.ensures in
    let absent = is_named hints i c.group_id.result c.is_some.result false named c.is_some.ensures c.if-is_some.false in
    record { hints = first_goes_on hints i c.loop-i-test.true c.loop-i.invariant.hints absent; place = place_later hints i c.loop-i-test.true c.loop-i.invariant.place absent }
