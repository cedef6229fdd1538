use Rattle.std.proofs.Common.{◌≡◌, length, Ok, Err, map, inl, inr, rules, sym, ap, ◌∙◌, arith}
use Rattle.std.proofs.lemmas.List.{length-map}
use Rattle.node_json.specs.Tree.{view}
use Rattle.node_json.specs.Organisations.{among_nodes}
use Rattle.node_json.specs.OrgsView.{named_org_view, named_orgs_view}
use Rattle.node_json.proofs.OrgReading.{orgs_in-fault, too_many_orgs, few_orgs, all_sized}
use Rattle.node_json.proofs.organisations.orgs_in_tree.Goals as goal

pub returns-in_err-orgs-clause-err : goal.returns-in_err-orgs-clause-err
returns-in_err-orgs-clause-err c =
    let r : c.from_residual.result ≡ Err c.in_err-orgs.field-0.0 = search rules in
    rw r (elim c.in_err-orgs.ensures.err [
      | inl m ↦ inl m
      | inr f ↦ inr (orgs_in-fault c.args.names.now (view c.args.tree.now) _ f)
    ])

pub returns-then-n-gt-MOST_ORGS-clause-err : goal.returns-then-n-gt-MOST_ORGS-clause-err
returns-then-n-gt-MOST_ORGS-clause-err c =
    let orgs = c.in_ok-orgs.orgs.items in
    let counted : c.len-n.result ≡ length (named_orgs_view orgs) = omega (arith, c.len-n.ensures, c.in_ok-orgs.orgs.ok.0, length-map orgs named_org_view) in
    inr (too_many_orgs c.args.names.now (view c.args.tree.now) (named_orgs_view orgs) c.len-n.result c.in_ok-orgs.ensures.ok counted c.if-n-gt-MOST_ORGS.true)

pub returns-clause-ok : goal.returns-clause-ok
returns-clause-ok c =
    let names = c.args.names.now in
    let orgs = c.in_ok-orgs.orgs.items in
    let counted : c.len-n.result ≡ length (named_orgs_view orgs) = omega (arith, c.len-n.ensures, c.in_ok-orgs.orgs.ok.0, length-map orgs named_org_view) in
    let made : c.in_ok-owned_orgs.field-0 ≡ map (among_nodes names) (named_orgs_view orgs) = rw (← c.deref.ensures.value) c.in_ok-owned_orgs.ensures in
    few_orgs names (view c.args.tree.now) (named_orgs_view orgs) c.len-n.result c.in_ok-orgs.ensures.ok counted (omega arith) ∙ ap Ok (sym made)

pub returns-clause-sized : goal.returns-clause-sized
returns-clause-sized c =
    let names = c.args.names.now in
    let orgs = c.in_ok-orgs.orgs.items in
    let made : c.in_ok-owned_orgs.field-0 ≡ map (among_nodes names) (named_orgs_view orgs) = rw (← c.deref.ensures.value) c.in_ok-owned_orgs.ensures in
    rw made (all_sized names (named_orgs_view orgs))
