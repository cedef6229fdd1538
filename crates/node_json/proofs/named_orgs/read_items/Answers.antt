use Rattle.std.proofs.Common.{◌≡◌, Err, arith, rules, refl, inl, inr}
use Rattle.node_json.specs.Tree.{items_view}
use Rattle.node_json.proofs.OrgReading.{orgs_loop, orgs_fault, then-none, apart-none}
use Rattle.node_json.proofs.named_orgs.read_items.Goals as goal

pub loop-i-init : goal.loop-i-init
loop-i-init c = (
  then-none (items_view c.args.items.now) c.new-orgs.result.items c.new-orgs.ensures.items,
  record {
    seen = rw (c.new-seen.ensures.empty, c.new-orgs.ensures.items) refl;
    apart = rw c.new-orgs.ensures.items apart-none;
  },
)

pub returns-in_err-add_item-clause-err : goal.returns-in_err-add_item-clause-err
returns-in_err-add_item-clause-err c =
    let r : c.from_residual.result ≡ Err c.in_err-add_item.field-0.0 = search rules in
    rw r (elim c.in_err-add_item.ensures.err [
      | inl m ↦ inl m
      | inr f ↦ inr (orgs_fault _ c.loop-i.orgs.items c.args.items.now c.loop-i.i c.index-items-i.result (omega arith) c.index-items-i.is c.loop-i.invariant.0 _ f)
    ])

pub loop-i-preserved : goal.loop-i-preserved
loop-i-preserved c =
    let one = c.in_ok-add_item.ensures.ok in (
      orgs_loop _ c.loop-i.orgs.items c.args.items.now c.loop-i.i c.index-items-i.result (omega arith) c.index-items-i.is c.loop-i.invariant.0 c.add_item.new.orgs.items one.org one.read one.behind,
      c.in_ok-add_item.ensures.apart,
    )
