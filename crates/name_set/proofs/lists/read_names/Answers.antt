use Rattle.std.proofs.Common.{◌==◌, ◌∙◌, sym, refl, arith, rules, tests, length, Ok}
use Rattle.std.proofs.lemmas.List.{length_push}
use Rattle.std.proofs.lemmas.Result.{err_from_is_err_and}
use Rattle.std.proofs.lemmas.Iterator.Consumers.{YieldsList-at, YieldsList-turn, YieldsList-end}
use Rattle.std.proofs.lemmas.Iterator.Splits.{YieldsList-from_slice_split}
use Rattle.name_set.proofs.ListLaws.{parts, item_here, marked_more, known_more, faulty_here, read-nothing, read-parts, read_all}
use Rattle.fbas_model.specs.Names.{marks}
use Rattle.fbas_model.proofs.Marks.{marks-none}
use Rattle.name_set.proofs.lists.read_names.Goals as goal

pub returns-then-is_empty-clause-ok : goal.returns-then-is_empty-clause-ok
returns-then-is_empty-clause-ok c =
    read-nothing c.args.text.now c.args.names.now c.new-nodes.result (sym c.is_empty.ensures ∙ c.if-is_empty.true) (marks-none c.args.names.now c.new-nodes.result (c.new-nodes.ensures.size ∙ c.len.ensures) c.new-nodes.ensures.empty)

pub loop-item-init : goal.loop-item-init
loop-item-init c = record {
  counted = refl;
  size = c.new-nodes.ensures.size ∙ c.len.ensures;
  known = refl;
  marked = marks-none c.args.names.now c.new-nodes.result (c.new-nodes.ensures.size ∙ c.len.ensures) c.new-nodes.ensures.empty;
}

pub returns-in_err-node_at-clause-err : goal.returns-in_err-node_at-clause-err
returns-in_err-node_at-clause-err c =
    let here = item_here (parts c.args.text.now) c.loop-item.place (length c.loop-item.yielded) c.in-Some.item.now c.loop-item.invariant.counted (YieldsList-turn (YieldsList-at c.into_iter-item-iterator.ensures.into_iter_gives (YieldsList-from_slice_split _ (λ b. b == 44) c.args.text.now c.split-item-items.ensures.rest c.split-item-items.ensures.done c.split-item-items.ensures.closure (λ x r q k. search (rules, tests)))) c.loop-item.yielded _ c.loop-item.yielded_by _ _ c.in-Some.item c.in-Some.is c.next.ensures.steps) in
    let items = parts c.args.text.now in
    let names = c.args.names.now in
    let p = err_from_is_err_and c.from_residual.result c.from_residual.ensures.1 in
    rw (p.1, p.2) (read-parts c.args.text.now names (sym c.is_empty.ensures ∙ c.if-is_empty.false) ∙ c.loop-item.invariant.known ∙ faulty_here names items (Ok (marks names items)) c.loop-item.place c.in-Some.item.now here.0 here.1 c.in_err-node_at.field-0.0 (sym c.in_err-node_at.ensures.value))

pub loop-item-preserved : goal.loop-item-preserved
loop-item-preserved c =
    let here = item_here (parts c.args.text.now) c.loop-item.place (length c.loop-item.yielded) c.in-Some.item.now c.loop-item.invariant.counted (YieldsList-turn (YieldsList-at c.into_iter-item-iterator.ensures.into_iter_gives (YieldsList-from_slice_split _ (λ b. b == 44) c.args.text.now c.split-item-items.ensures.rest c.split-item-items.ensures.done c.split-item-items.ensures.closure (λ x r q k. search (rules, tests)))) c.loop-item.yielded _ c.loop-item.yielded_by _ _ c.in-Some.item c.in-Some.is c.next.ensures.steps) in
    let items = parts c.args.text.now in
    let names = c.args.names.now in
    let v = c.in_ok-node_at.field-0 in
    record {
      counted = omega (arith, c.loop-item.invariant.counted, length_push c.loop-item.yielded c.in-Some.item);
      size = c.put.ensures.size ∙ c.loop-item.invariant.size;
      known = c.loop-item.invariant.known ∙ known_more names items (Ok (marks names items)) c.loop-item.place c.in-Some.item.now here.0 here.1 v (sym c.in_ok-node_at.ensures.value);
      marked = marked_more names c.loop-item.nodes c.put.new.self items c.loop-item.place v c.in-Some.item.now here.0 here.1 c.in_ok-node_at.ensures.at c.in_ok-node_at.ensures.only (c.put.ensures.size ∙ c.loop-item.invariant.size) c.put.ensures.added c.loop-item.invariant.marked;
    }

pub returns-clause-ok : goal.returns-clause-ok
returns-clause-ok c =
    let end = YieldsList-end (YieldsList-at c.into_iter-item-iterator.ensures.into_iter_gives (YieldsList-from_slice_split _ (λ b. b == 44) c.args.text.now c.split-item-items.ensures.rest c.split-item-items.ensures.done c.split-item-items.ensures.closure (λ x r q k. search (rules, tests)))) c.loop-item.yielded _ c.loop-item.yielded_by _ _ c.in-None.is c.next.ensures.steps in
    read_all c.args.text.now c.args.names.now c.loop-item.nodes c.loop-item.place (sym c.is_empty.ensures ∙ c.if-is_empty.false) (c.loop-item.invariant.counted ∙ end.1) c.loop-item.invariant.known c.loop-item.invariant.marked
