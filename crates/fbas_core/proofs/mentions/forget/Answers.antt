use Rattle.std.proofs.Common.{◌≡◌, ℕ, List, length, arith}
use Rattle.fbas_model.specs.Nodes.{Nodes}
use Rattle.fbas_core.specs.Mentioning.{IsForgotten}
use Rattle.fbas_core.proofs.WhoMentions.{walk_below, walk_more, walk_over, forgot_more, forgot_last}
use Rattle.fbas_core.proofs.mentions.forget.Goals as goal

pub drop_node-requires : goal.drop_node-requires
drop_node-requires c = omega (arith, walk_below c.args.places.now c.loop-v.yielded c.loop-v.v-iterator c.loop-v.invariant.0 c.next.new.self c.in-Some.v c.in-Some.ensures.steps, c.requires, c.loop-v.invariant.1.many)

pub loop-v-preserved : goal.loop-v-preserved
loop-v-preserved c =
    let many : length c.args.places.now ≡ length c.loop-v.lists = omega (arith, c.requires, c.loop-v.invariant.1.many) in
    walk_more c.args.places.now c.loop-v.yielded c.loop-v.v-iterator c.loop-v.invariant.0 (λ (ns : Nodes) (lists : List (List ℕ)). IsForgotten c.args.w ns c.args.lists.now lists) c.next.new.self c.in-Some.v c.loop-v.lists _ c.drop_node.new.self c.in-Some.ensures.steps many c.drop_node.ensures (λ low. forgot_more c.loop-v.lists c.in-Some.v c.args.w low c.args.lists.now c.loop-v.yielded c.loop-v.invariant.1)

pub returns : goal.returns
returns c = forgot_last c.args.w c.args.lists.now c.loop-v.lists c.loop-v.yielded c.args.places.now (walk_over c.args.places.now c.loop-v.yielded c.loop-v.v-iterator c.loop-v.invariant.0 c.in-None.ensures.steps.0) c.loop-v.invariant.1
