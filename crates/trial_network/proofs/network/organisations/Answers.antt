use Rattle.std.proofs.Common.{◌≡◌, ◌+◌, ap, ◌∙◌, arith}
use Rattle.fbas_model.specs.Lists.{inner_entries}
use Rattle.trial_network.proofs.InOrder.{sets_from, set_more, sets_are}
use Rattle.trial_network.proofs.network.organisations.Goals as goal

pub loop-at-preserved : goal.loop-at-preserved
loop-at-preserved c =
    let more : c.push.new.self.items ≡ sets_from 0 (c.loop-at.at + 1) =
    rw c.in_ok-push.ensures.items (set_more c.loop-at.sets.items c.loop-at.at c.in_ok-organisation.field-0 c.loop-at.invariant.0 c.in_ok-organisation.ensures) in
    (more, omega (arith, c.loop-at-test.true))

pub returns : goal.returns
returns c =
    let all : c.loop-at.at ≡ c.args.n = omega (arith, c.loop-at-test.false, c.loop-at.invariant.1) in
    ap inner_entries (c.loop-at.invariant.0 ∙ ap (sets_from 0) all) ∙ sets_are 0 c.args.n
