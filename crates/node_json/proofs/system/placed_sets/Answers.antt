use Rattle.std.proofs.Common.{◌<◌, length, ap, ◌∙◌, arith}
use Rattle.std.proofs.lemmas.List.{take_all}
use Rattle.node_json.proofs.Placing.{sets_by, placed, unplaced}
use Rattle.node_json.proofs.system.placed_sets.Goals as goal
use Rattle.node_json.proofs.system.placed_sets.Goals.{in-Some+in-Some-1, in-Some+in-None-1, in_default+in-Some-1, in_default+in-None-1}

pub loop-node-init : goal.loop-node-init
loop-node-init c = c.in_ok-sets.ensures

pub returns : goal.returns
returns c = c.loop-node.invariant ∙ ap (sets_by c.args.names.now) (take_all c.loop-node.node-index c.args.nodes.now (omega arith))

pub loop-node-preserved : goal.loop-node-preserved
loop-node-preserved c =
    let names = c.args.names.now in
    let nodes = c.args.nodes.now in
    let i = c.loop-node.node-index in
    let n = c.node-item.result in
    let inside : i < length nodes = omega arith in
    let here = c.as_bytes.ensures.value in
    elim c.match-find.branch [
      | in-Some+in-Some-1 w ↦
          placed names nodes i n inside c.node-item.is c.loop-node.sets.items _ c.in_ok-set.set w.in-Some.at c.requires (rw (← here) w.in-Some.ensures.found) c.in_ok-set.ensures c.loop-node.invariant (ap (λ v. v.items) w.sets-is)
      | in-Some+in-None-1 w ↦
          placed names nodes i n inside c.node-item.is c.loop-node.sets.items _ c.in_ok-set.set w.in-Some.at c.requires (rw (← here) w.in-Some.ensures.found) c.in_ok-set.ensures c.loop-node.invariant (ap (λ v. v.items) w.sets-is)
      | in_default+in-Some-1 w ↦ ap (λ v. v.items) w.sets-is ∙ unplaced names nodes i n inside c.node-item.is c.loop-node.sets.items (rw (← here) w.in_default.ensures.found) c.loop-node.invariant
      | in_default+in-None-1 w ↦ ap (λ v. v.items) w.sets-is ∙ unplaced names nodes i n inside c.node-item.is c.loop-node.sets.items (rw (← here) w.in_default.ensures.found) c.loop-node.invariant
    ]
