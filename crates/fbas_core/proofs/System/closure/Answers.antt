use Rattle.std.proofs.Common.{sym, ◌∙◌, subst}
use Rattle.fbas_model.specs.Nodes.{Table}
use Rattle.fbas_model.proofs.Closure.{system_mentions_nodes, closure_of-unique}
use Rattle.fbas_core.proofs.Closing.{Closing, closing_first, closing_last, closing_next, closing_skip, fewer}
use Rattle.fbas_core.proofs.System.closure.Goals as goal

pub loop-node-init : goal.loop-node-init
loop-node-init c =
    subst (λ (none : Table). Closing c.args.self.now.sets c.args.v c.put.new.self none) (sym c.copy-visited.ensures)
    (closing_first c.args.self.now.sets c.args.v c.new-reached.result c.put.new.self (c.new-reached.ensures.size ∙ c.len.ensures.sets) c.new-reached.ensures.empty c.put.ensures.size c.put.ensures.added)

pub loop-node-smaller-in-Some-quorum_set : goal.loop-node-smaller-in-Some-quorum_set
loop-node-smaller-in-Some-quorum_set c = fewer c.args.self.now.sets c.args.v c.loop-node.reached c.loop-node.visited c.put-in-Some.new.self c.in-Some.node c.loop-node.invariant c.in-Some.ensures.0 c.put-in-Some.ensures.size c.put-in-Some.ensures.added

pub loop-node-preserved-in-Some-quorum_set : goal.loop-node-preserved-in-Some-quorum_set
loop-node-preserved-in-Some-quorum_set c = closing_next c.args.self.now.sets c.args.v c.loop-node.reached c.loop-node.visited c.put-in-Some.new.self c.in-Some.node c.loop-node.invariant c.in-Some.ensures.0 c.put-in-Some.ensures.size c.put-in-Some.ensures.added c.in-Some-quorum_set.quorum_set.now c.mentions.new.into c.in-Some-quorum_set.ensures.set c.mentions.ensures.same_n c.mentions.ensures.added

pub loop-node-smaller : goal.loop-node-smaller
loop-node-smaller c = fewer c.args.self.now.sets c.args.v c.loop-node.reached c.loop-node.visited c.put-in-Some.new.self c.in-Some.node c.loop-node.invariant c.in-Some.ensures.0 c.put-in-Some.ensures.size c.put-in-Some.ensures.added

pub loop-node-preserved : goal.loop-node-preserved
loop-node-preserved c = closing_skip c.args.self.now.sets c.args.v c.loop-node.reached c.loop-node.visited c.put-in-Some.new.self c.in-Some.node c.loop-node.invariant c.in-Some.ensures.0 c.put-in-Some.ensures.size c.put-in-Some.ensures.added c.in_default-quorum_set.ensures.set

pub returns-clause-table : goal.returns-clause-table
returns-clause-table c =
    closure_of-unique c.args.self.now.sets c.args.v c.loop-node.reached c.requires (system_mentions_nodes c.args.self.now.names c.args.self.now.sets c.len.ensures.system) c.loop-node.invariant.same_n
    (closing_last c.args.self.now.sets c.args.v c.loop-node.reached c.loop-node.visited c.loop-node.invariant c.in_default.ensures)

pub returns-clause-least : goal.returns-clause-least
returns-clause-least c = closing_last c.args.self.now.sets c.args.v c.loop-node.reached c.loop-node.visited c.loop-node.invariant c.in_default.ensures
