use Rattle.std.proofs.Common.{◌≡◌, List, Err, true, false, not, rules, sym, ap, ◌∙◌, inl, inr, option_map}
use Rattle.fbas_model.specs.Names.{Name, is_among}
use Rattle.node_json.specs.Configuration.{names_if_any}
use Rattle.node_json.specs.NamesInOrder.{with_names}
use Rattle.node_json.specs.Tree.{view}
use Rattle.node_json.specs.View.{names_view, set_view}
use Rattle.node_json.proofs.NodeReading.{node_of-key_fault, node_of-known, node_of-read, node_of-set_fault}
use Rattle.node_json.proofs.nodes.read_item.Goals as goal

pub returns-in_err-key-clause-err : goal.returns-in_err-key-clause-err
returns-in_err-key-clause-err c =
    let r : c.from_residual.result ≡ Err c.in_err-key.field-0.0 = search rules in
    rw r (inr (node_of-key_fault c.args.at (names_view c.args.keys.now.keys) (view c.args.item.now) _ c.in_err-key.ensures))

pub returns-then-not-branch-clause-err : goal.returns-then-not-branch-clause-err
returns-then-not-branch-clause-err c =
    let known : c.in_ok-add_name.field-0 ≡ false = search rules in
    inr (node_of-known c.args.at (names_view c.args.keys.now.keys) (view c.args.item.now) c.in_ok-key.key.now c.in_ok-key.ensures (sym c.in_ok-add_name.ensures.new ∙ known))

pub returns-in_err-quorum_set-clause-err : goal.returns-in_err-quorum_set-clause-err
returns-in_err-quorum_set-clause-err c =
    let seen = names_view c.args.keys.now.keys in
    let fresh : c.in_ok-add_name.field-0 ≡ true = search rules in
    let new : not (is_among c.in_ok-key.key.now seen) ≡ true = sym c.in_ok-add_name.ensures.new ∙ fresh in
    let r : c.from_residual-in_err-quorum_set.result ≡ Err c.in_err-quorum_set.field-0.0 = search rules in
    rw r (elim c.in_err-quorum_set.ensures.err [
      | inl m ↦ inl m
      | inr f ↦ inr (node_of-set_fault c.args.at seen (view c.args.item.now) c.in_ok-key.key.now _ c.in_ok-key.ensures new f)
    ])

pub returns-clause-ok : goal.returns-clause-ok
returns-clause-ok c =
    let seen = names_view c.args.keys.now.keys in
    let fresh : c.in_ok-add_name.field-0 ≡ true = search rules in
    let new : not (is_among c.in_ok-key.key.now seen) ≡ true = sym c.in_ok-add_name.ensures.new ∙ fresh in
    node_of-read c.args.at seen (view c.args.item.now) c.in_ok-key.key.now _ c.in_ok-key.ensures new c.in_ok-quorum_set.ensures.ok

pub returns-clause-seen : goal.returns-clause-seen
returns-clause-seen c = c.in_ok-add_name.ensures.added

pub returns-clause-gathered : goal.returns-clause-gathered
returns-clause-gathered c = c.in_ok-quorum_set.ensures.gathered ∙ ap (λ (ns : List Name). with_names ns (names_if_any (option_map set_view c.in_ok-quorum_set.quorum_set))) c.in_ok-add.ensures
