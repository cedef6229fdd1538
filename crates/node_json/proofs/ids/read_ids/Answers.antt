use Rattle.std.proofs.Common.{◌==◌, ◌∙◌, sym, refl, ap, arith, rules, tests, lit<, length}
use Rattle.std.proofs.lemmas.List.{length_push}
use Rattle.std.proofs.lemmas.Result.{err_from_is_err_and}
use Rattle.std.proofs.lemmas.Iterator.Consumers.{YieldsList-at, YieldsList-turn, YieldsList-end}
use Rattle.std.proofs.lemmas.Iterator.Splits.{YieldsList-from_slice_split}
use Rattle.fbas_model.specs.Nodes.{Nodes}
use Rattle.node_json.specs.Organisations.{ids_of}
use Rattle.node_json.proofs.OrgPlaces.{under-sized}
use Rattle.name_set.proofs.ListLaws.{parts, item_here, known_more, faulty_here}
use Rattle.node_json.proofs.IdReading.{united, members-more, read-nothing, read-parts, read_all}
use Rattle.node_json.proofs.ids.read_ids.Goals as goal

pub returns-then-is_empty-clause-ok : goal.returns-then-is_empty-clause-ok
returns-then-is_empty-clause-ok c = read-nothing c.args.text.now c.args.orgs.now c.args.n c.new-nodes.result (sym c.is_empty.ensures ∙ c.if-is_empty.true) c.new-nodes.ensures.size c.new-nodes.ensures.empty

pub loop-item-init : goal.loop-item-init
loop-item-init c = record {
  counted = refl;
  size = c.new-nodes.ensures.size;
  known = refl;
  united = λ v less. ap (λ (s : Nodes). s v) c.new-nodes.ensures.empty;
}

pub returns-in_err-others-clause-err : goal.returns-in_err-others-clause-err
returns-in_err-others-clause-err c =
    let items = parts c.args.text.now in
    let orgs = c.args.orgs.now in
    let here = item_here items c.loop-item.place (length c.loop-item.yielded) c.in-Some.item.now c.loop-item.invariant.counted (YieldsList-turn (YieldsList-at c.into_iter-item-iterator.ensures.into_iter_gives (YieldsList-from_slice_split _ (λ b. b == 44) c.args.text.now c.split-item-items.ensures.rest c.split-item-items.ensures.done c.split-item-items.ensures.closure (λ x r q k. search (rules, tests)))) c.loop-item.yielded _ c.loop-item.yielded_by _ _ c.in-Some.item c.in-Some.is c.next.ensures.steps) in
    let p = err_from_is_err_and c.from_residual.result c.from_residual.ensures.1 in
    rw (p.1, p.2) (read-parts c.args.text.now orgs c.args.n (sym c.is_empty.ensures ∙ c.if-is_empty.false) ∙ c.loop-item.invariant.known ∙ faulty_here (ids_of orgs) items (united orgs c.args.n items) c.loop-item.place c.in-Some.item.now here.0 here.1 c.in_err-others.field-0.0 c.in_err-others.ensures.fault)

pub join-requires : goal.join-requires
join-requires c = (lit< tt, c.loop-item.invariant.size ∙ sym (under-sized c.args.orgs.now c.args.n c.in-Some.item.now c.in_ok-others.others.now c.requires.sized c.in_ok-others.ensures.members))

pub loop-item-preserved : goal.loop-item-preserved
loop-item-preserved c =
    let items = parts c.args.text.now in
    let orgs = c.args.orgs.now in
    let at = c.in_ok-others.ensures.known in
    let here = item_here items c.loop-item.place (length c.loop-item.yielded) c.in-Some.item.now c.loop-item.invariant.counted (YieldsList-turn (YieldsList-at c.into_iter-item-iterator.ensures.into_iter_gives (YieldsList-from_slice_split _ (λ b. b == 44) c.args.text.now c.split-item-items.ensures.rest c.split-item-items.ensures.done c.split-item-items.ensures.closure (λ x r q k. search (rules, tests)))) c.loop-item.yielded _ c.loop-item.yielded_by _ _ c.in-Some.item c.in-Some.is c.next.ensures.steps) in
    record {
      counted = omega (arith, c.loop-item.invariant.counted, length_push c.loop-item.yielded c.in-Some.item);
      size = c.join.ensures.size ∙ c.loop-item.invariant.size;
      known = c.loop-item.invariant.known ∙ known_more (ids_of orgs) items (united orgs c.args.n items) c.loop-item.place c.in-Some.item.now here.0 here.1 at.0 at.1;
      united = members-more orgs items c.loop-item.place c.args.n c.in-Some.item.now c.in_ok-others.others.now c.loop-item.nodes c.join.new.self here.0 here.1 c.in_ok-others.ensures.members (λ v. ap (λ (s : Nodes). s v) c.join.ensures.joined) c.loop-item.invariant.united;
    }

pub returns-clause-ok : goal.returns-clause-ok
returns-clause-ok c =
    let end = YieldsList-end (YieldsList-at c.into_iter-item-iterator.ensures.into_iter_gives (YieldsList-from_slice_split _ (λ b. b == 44) c.args.text.now c.split-item-items.ensures.rest c.split-item-items.ensures.done c.split-item-items.ensures.closure (λ x r q k. search (rules, tests)))) c.loop-item.yielded _ c.loop-item.yielded_by _ _ c.in-None.is c.next.ensures.steps in
    read_all c.args.text.now c.args.orgs.now c.args.n c.loop-item.nodes c.loop-item.place (sym c.is_empty.ensures ∙ c.if-is_empty.false) (c.loop-item.invariant.counted ∙ end.1) c.loop-item.invariant.known c.loop-item.invariant.size c.loop-item.invariant.united
