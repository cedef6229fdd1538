use Rattle.std.proofs.Common.{◌≡◌, ℕ, nat_lt, ◌∙◌, subst}
use Rattle.fbas_model.specs.Nodes.{members}
use Rattle.node_json.proofs.GroupLoops.{loose_first, loose_more, loose_whole}
use Rattle.node_json.proofs.groups.loose.Goals as goal

pub loop-group-init : goal.loop-group-init
loop-group-init c = loose_first c.args.n c.fill.new.self (c.fill.ensures.size ∙ c.new-nodes.ensures.size) (subst (λ (k : ℕ). members c.fill.new.self ≡ (λ v. nat_lt v k)) c.new-nodes.ensures.size c.fill.ensures.all)

pub loop-group-preserved : goal.loop-group-preserved
loop-group-preserved c =
    loose_more c.args.n c.args.groups.now c.loop-group.group-index c.group-item.result c.loop-group.nodes c.minus.new.self c.loop-group-test.true c.group-item.is c.minus.ensures.size c.minus.ensures.left c.loop-group.invariant

pub returns : goal.returns
returns c = loose_whole c.args.n c.args.groups.now c.loop-group.group-index c.loop-group.nodes c.loop-group-test.false c.loop-group.invariant
