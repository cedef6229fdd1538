use Rattle.std.proofs.Common.{◌≡◌, ◌<◌, length, Ok, Err, arith, rules, sym, ◌∙◌, inl, inr}
use Rattle.node_json.specs.Tree.{view}
use Rattle.node_json.specs.Reading.{node_of}
use Rattle.node_json.specs.View.{names_view, node_view}
use Rattle.node_json.proofs.NodeReading.{keys_of, nodes_loop, node_of-seen, nodes_fault, seen_loop}
use Rattle.node_json.proofs.Gathering.{nodes_gathered}
use Rattle.node_json.proofs.nodes.read_items.Goals as goal

pub loop-i-preserved : goal.loop-i-preserved
loop-i-preserved c =
    let xs = c.args.items.now in
    let i = c.loop-i.i in
    let v = c.index-items-i.result in
    let done = c.loop-i.nodes.items in
    let inside : i < length xs = omega arith in
    let n = c.in_ok-read_item.field-0 in
    let read : node_of i (keys_of done) (view v) ≡ Ok (node_view n) = sym (node_of-seen i _ (keys_of done) (view v) c.loop-i.invariant.1) ∙ c.in_ok-read_item.ensures.ok in (
      nodes_loop _ done c.push.new.self.items n xs i v inside c.index-items-i.is read c.in_ok-push.ensures.items c.loop-i.invariant.0,
      seen_loop _ (names_view c.read_item.new.keys.keys) done c.push.new.self.items n c.in_ok-push.ensures.items c.in_ok-read_item.ensures.seen c.loop-i.invariant.1,
      nodes_gathered _ c.loop-i.names c.read_item.new.names done c.push.new.self.items n c.in_ok-push.ensures.items c.in_ok-read_item.ensures.gathered c.loop-i.invariant.2,
    )

pub returns-in_err-read_item-clause-err : goal.returns-in_err-read_item-clause-err
returns-in_err-read_item-clause-err c =
    let xs = c.args.items.now in
    let i = c.loop-i.i in
    let v = c.index-items-i.result in
    let done = c.loop-i.nodes.items in
    let inside : i < length xs = omega arith in
    let r : c.from_residual.result ≡ Err c.in_err-read_item.field-0.0 = search rules in
    rw r (elim c.in_err-read_item.ensures.err [
      | inl m ↦ inl m
      | inr f ↦ inr (nodes_fault _ done xs i v _ inside c.index-items-i.is (sym (node_of-seen i _ (keys_of done) (view v) c.loop-i.invariant.1) ∙ f) c.loop-i.invariant.0)
    ])
