use Rattle.std.proofs.Common.{◌≡◌, Err, true, false, not, rules, sym, ◌∙◌, inl, inr}
use Rattle.node_json.specs.Tree.{view}
use Rattle.fbas_model.specs.Names.{is_among}
use Rattle.node_json.specs.declared.named_orgs.NamedOrg.{NamedOrg}
use Rattle.node_json.specs.OrgsView.{named_ids}
use Rattle.node_json.specs.View.{names_view}
use Rattle.node_json.proofs.OrgReading.{is_new, org_of-read, org_of-no_id, org_of-known, org_of-no_validators, seen_loop, apart_loop}
use Rattle.node_json.proofs.named_orgs.add_item.Goals as goal

pub returns-in_err-id-clause-err : goal.returns-in_err-id-clause-err
returns-in_err-id-clause-err c =
    let r : c.from_residual.result ≡ Err c.in_err-id.field-0.0 = search rules in
    rw r (inr (org_of-no_id c.args.at (named_ids c.args.orgs.now.items) (view c.args.item.now) _ c.in_err-id.ensures))

pub returns-then-not-branch-clause-err : goal.returns-then-not-branch-clause-err
returns-then-not-branch-clause-err c =
    let done = named_ids c.args.orgs.now.items in
    let id = c.in_ok-id.id.now in
    let known : c.in_ok-add_name.field-0 ≡ false = search rules in
    let old : not (is_among id done) ≡ false = sym (is_new _ done id c.in_ok-add_name.field-0 c.in_ok-add_name.ensures.new c.requires.seen) ∙ known in
    inr (org_of-known c.args.at done (view c.args.item.now) id c.in_ok-id.ensures old)

pub returns-in_err-validators-clause-err : goal.returns-in_err-validators-clause-err
returns-in_err-validators-clause-err c =
    let done = named_ids c.args.orgs.now.items in
    let id = c.in_ok-id.id.now in
    let fresh : c.in_ok-add_name.field-0 ≡ true = search rules in
    let new : not (is_among id done) ≡ true = sym (is_new _ done id c.in_ok-add_name.field-0 c.in_ok-add_name.ensures.new c.requires.seen) ∙ fresh in
    let r : c.from_residual-in_err-validators.result ≡ Err c.in_err-validators.field-0.0 = search rules in
    rw r (elim c.in_err-validators.ensures.err [
      | inl m ↦ inl m
      | inr f ↦ inr (org_of-no_validators c.args.at done (view c.args.item.now) id _ c.in_ok-id.ensures new f)
    ])

pub returns-clause-ok : goal.returns-clause-ok
returns-clause-ok c =
    let done = named_ids c.args.orgs.now.items in
    let id = c.in_ok-id.id.now in
    let fresh : c.in_ok-add_name.field-0 ≡ true = search rules in
    let new : not (is_among id done) ≡ true = sym (is_new _ done id c.in_ok-add_name.field-0 c.in_ok-add_name.ensures.new c.requires.seen) ∙ fresh in
    record {
      org = record { id = c.in_ok-id.id; validators = c.in_ok-validators.validators };
      read = org_of-read c.args.at done (view c.args.item.now) id _ c.in_ok-id.ensures new c.in_ok-validators.ensures.ok;
      behind = c.in_ok-push.ensures.items;
    }

pub returns-clause-apart : goal.returns-clause-apart
returns-clause-apart c =
    let done = c.args.orgs.now.items in
    let then = c.push.new.self.items in
    let id = c.in_ok-id.id.now in
    let org : NamedOrg = record { id = c.in_ok-id.id; validators = c.in_ok-validators.validators } in
    let fresh : c.in_ok-add_name.field-0 ≡ true = search rules in
    let new : not (is_among id (named_ids done)) ≡ true = sym (is_new _ (named_ids done) id c.in_ok-add_name.field-0 c.in_ok-add_name.ensures.new c.requires.seen) ∙ fresh in
    record {
      seen = seen_loop _ (names_view c.add_name.new.names.keys) done then org c.in_ok-push.ensures.items c.in_ok-add_name.ensures.added c.requires.seen;
      apart = apart_loop done then org c.in_ok-push.ensures.items new c.requires.apart;
    }
