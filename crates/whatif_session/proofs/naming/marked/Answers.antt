use Rattle.std.proofs.Common.{◌≡◌, ℕ, ◌+◌, ◌==◌, ◌∙◌, sym, refl, ap, arith, rules, tests, length, take}
use Rattle.std.proofs.lemmas.List.{length_push, take_all}
use Rattle.std.proofs.lemmas.Iterator.Consumers.{YieldsList-at, YieldsList-turn, YieldsList-end}
use Rattle.std.proofs.lemmas.Iterator.Splits.{YieldsList-from_slice_split}
use Rattle.fbas_model.specs.Names.{marks}
use Rattle.fbas_model.proofs.Marks.{marks-none}
use Rattle.name_set.proofs.ListLaws.{parts, items-parts}
use Rattle.whatif_session.proofs.NewNames.{no_items, item_more}
use Rattle.whatif_session.proofs.naming.marked.Goals as goal

pub returns-then-is_empty : goal.returns-then-is_empty
returns-then-is_empty c =
    marks-none c.args.names.now c.new-nodes.result (c.new-nodes.ensures.size ∙ c.len.ensures) c.new-nodes.ensures.empty ∙ ap (marks c.args.names.now) (sym (no_items c.args.text.now (sym c.is_empty.ensures ∙ c.if-is_empty.true)))

pub loop-item-init : goal.loop-item-init
loop-item-init c = record {
  size = c.new-nodes.ensures.size ∙ c.len.ensures;
  marked = marks-none c.args.names.now c.new-nodes.result (c.new-nodes.ensures.size ∙ c.len.ensures) c.new-nodes.ensures.empty;
}

pub loop-item-preserved : goal.loop-item-preserved
loop-item-preserved c =
    let turn = YieldsList-turn (YieldsList-at c.into_iter-item-iterator.ensures.into_iter_gives (YieldsList-from_slice_split _ (λ b. b == 44) c.args.text.now c.split-item-items.ensures.rest c.split-item-items.ensures.done c.split-item-items.ensures.closure (λ x r q k. search (rules, tests)))) c.loop-item.yielded _ c.loop-item.yielded_by _ _ c.in-Some.item c.in-Some.is c.next.ensures.steps in
    let items = parts c.args.text.now in
    let i = length c.loop-item.yielded in
    let item = c.in-Some.item.now in
    let next : i + 1 ≡ length (c.loop-item.yielded) + 1 = refl in
    record {
      size = c.mark.ensures.size ∙ c.loop-item.invariant.size;
      marked = c.mark.ensures.marked (take i items) c.loop-item.invariant.marked
          ∙ ap (marks c.args.names.now) (item_more items i item turn.0 turn.1 ∙ ap (λ (n : ℕ). take n items) (sym (length_push c.loop-item.yielded c.in-Some.item)));
    }

pub returns : goal.returns
returns c =
    let end = YieldsList-end (YieldsList-at c.into_iter-item-iterator.ensures.into_iter_gives (YieldsList-from_slice_split _ (λ b. b == 44) c.args.text.now c.split-item-items.ensures.rest c.split-item-items.ensures.done c.split-item-items.ensures.closure (λ x r q k. search (rules, tests)))) c.loop-item.yielded _ c.loop-item.yielded_by _ _ c.in-None.is c.next.ensures.steps in
    let items = parts c.args.text.now in
    c.loop-item.invariant.marked
    ∙ ap (λ (n : ℕ). marks c.args.names.now (take n items)) end.1
    ∙ ap (marks c.args.names.now) (take_all (length items) items (omega arith) ∙ sym (items-parts c.args.text.now (sym c.is_empty.ensures ∙ c.if-is_empty.false)))
