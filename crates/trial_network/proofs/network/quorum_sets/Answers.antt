use Rattle.std.proofs.Common.{◌≡◌, ◌+◌, ◌*◌, Some, replicate, ap, ◌∙◌, arith}
use Rattle.trial_network.specs.Trial.{trial_set}
use Rattle.trial_network.proofs.InOrder.{once_more}
use Rattle.trial_network.proofs.network.quorum_sets.Goals as goal

pub loop-node-preserved : goal.loop-node-preserved
loop-node-preserved c =
    let set = Some (trial_set c.args.n) in
    let more : c.push.new.self.items ≡ replicate (c.loop-node._node + 1) set =
    rw c.in_ok-push.ensures.items (once_more c.loop-node.sets.items c.loop-node._node (Some c.in_ok-set.set) set c.loop-node.invariant.0 (ap Some c.in_ok-set.ensures)) in
    (more, omega (arith, c.loop-node-test.true))

pub returns : goal.returns
returns c =
    let all : c.loop-node._node ≡ 3 * c.args.n = omega (arith, c.loop-node-test.false, c.loop-node.invariant.1) in
    c.loop-node.invariant.0 ∙ ap (λ k. replicate k (Some (trial_set c.args.n))) all
