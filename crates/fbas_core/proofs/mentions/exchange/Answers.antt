use Rattle.std.proofs.Common.{◌≡◌, ap, ◌∙◌}
use Rattle.fbas_model.specs.Nodes.{Table, members, ◌∖◌}
use Rattle.fbas_core.proofs.WhoMentions.{exchanged, taken_back}
use Rattle.fbas_core.proofs.mentions.exchange.Goals as goal

pub returns-in-Err-clause-unchanged : goal.returns-in-Err-clause-unchanged
returns-in-Err-clause-unchanged c =
    let come_is : members c.minus.new.self ≡ (members c.args.after.now ∖ members c.args.before.now) = c.minus.ensures.left ∙ ap (λ (t : Table). members t ∖ members c.args.before.now) c.copy-come.ensures in
    let p = c.in-Err.ensures.partly in
    taken_back c.args.w (members c.args.before.now) (members c.args.after.now) (members c.minus.new.self) c.args.lists.now c.add.new.lists c.requires.was come_is p.0 c.forget.new.lists p.1 p.2 c.forget.ensures

pub returns-clause-exchanged : goal.returns-clause-exchanged
returns-clause-exchanged c =
    let come_is : members c.minus.new.self ≡ (members c.args.after.now ∖ members c.args.before.now) = c.minus.ensures.left ∙ ap (λ (t : Table). members t ∖ members c.args.before.now) c.copy-come.ensures in
    let gone_is : members c.minus-2.new.self ≡ (members c.args.before.now ∖ members c.args.after.now) = c.minus-2.ensures.left ∙ ap (λ (t : Table). members t ∖ members c.args.after.now) c.copy-gone.ensures in
    exchanged c.args.w (members c.args.before.now) (members c.args.after.now) (members c.minus.new.self) c.args.lists.now c.add.new.lists c.requires.was come_is (members c.minus-2.new.self) c.forget-2.new.lists gone_is c.in_default.ensures.added c.forget-2.ensures
