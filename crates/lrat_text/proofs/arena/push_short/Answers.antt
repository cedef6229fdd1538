use Rattle.std.proofs.Common.{◌≡◌, ◌∙◌, ℤ, pos, get_or, length, take_all, rules, w64}
use Rattle.std.proofs.lemmas.Int.{to_z-of_z}
use mir.Val.{SFits}
use Rattle.lrat_text.proofs.ListLaws.{short_more}
use Rattle.lrat_text.proofs.arena.push_short.Goals as goal

pub loop-hint-preserved : goal.loop-hint-preserved
loop-hint-preserved c =
    let hints = c.args.hints.now in
    let hint : ℤ = get_or hints c.loop-hint.hint-index (pos 0) in
    let fits : SFits w64 hint = search rules in
    let ids = c.loop-hint.invariant in
    short_more hints c.loop-hint.hint-index (pos 0) c.args.arena.now.items ids.0 c.loop-hint.arena.items c.push.new.self.items c.in-Some.id c.loop-hint-test.true ids.1 ids.2 (c.in-Some.ensures ∙ to_z-of_z w64 hint fits) c.in_ok-push.ensures.items

pub returns-clause-pushed : goal.returns-clause-pushed
returns-clause-pushed c =
    let ids = c.loop-hint.invariant in
    let start : c.len-start.result ≡ length c.args.arena.now.items = search rules in
    let end : c.len.result ≡ length c.loop-hint.arena.items = search rules in
    (ids.0, ids.1 ∙ take_all c.loop-hint.hint-index c.args.hints.now c.loop-hint-test.false, ids.2, start, end)

pub returns-clause-front : goal.returns-clause-front
returns-clause-front c = (c.loop-hint.invariant.0, c.loop-hint.invariant.2)
