use Rattle.std.proofs.Common.{◌∙◌, rules, w64}
use Rattle.std.proofs.lemmas.Int.{to_z-of_z}
use mir.Val.{SFits}
use Rattle.lrat_text.proofs.ListLaws.{wide_more, wide_all}
use Rattle.lrat_text.proofs.lent.widened.Goals as goal

pub loop-id-preserved : goal.loop-id-preserved
loop-id-preserved c =
    let fits : SFits w64 c.from.result = search rules in
    wide_more c.args.ids.now c.loop-id.id-index 0 c.loop-id.hints.items c.push.new.self.items _ c.loop-id-test.true c.loop-id.invariant (to_z-of_z w64 c.from.result fits ∙ c.from.ensures) c.in_ok-push.ensures.items

pub returns : goal.returns
returns c = wide_all c.args.ids.now c.loop-id.id-index c.loop-id.hints.items c.loop-id.invariant c.loop-id-test.false
