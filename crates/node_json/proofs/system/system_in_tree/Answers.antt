use Rattle.std.proofs.Common.{◌≡◌, List, Ok, Err, inl, inr, rules, ap, sym, ◌∙◌}
use Rattle.std.proofs.lemmas.Result.{IfOk-weaker}
use Rattle.node_json.specs.Tree.{view}
use Rattle.fbas_model.specs.Names.{Name}
use Rattle.node_json.specs.Configuration.{all_names, system_with}
use Rattle.node_json.specs.Named.{NamedNode}
use Rattle.node_json.specs.NamesInOrder.{with_names}
use Rattle.node_json.specs.Reading.{nodes_in}
use Rattle.node_json.specs.SystemOf.{IsSystemOf}
use Rattle.node_json.proofs.Laws.{system_with-is}
use Rattle.node_json.specs.View.{nodes_view}
use Rattle.node_json.proofs.Soundness.{nodes_in-sound}
use Rattle.node_json.proofs.Limits.{nodes_in-then}
use Rattle.node_json.proofs.system.system_in_tree.Goals as goal

pub returns-in_err-nodes-clause-err : goal.returns-in_err-nodes-clause-err
returns-in_err-nodes-clause-err c =
    let r : c.from_residual-in_err-nodes.result ≡ Err c.in_err-nodes.field-0.0 = search rules in
    rw r (elim c.in_err-nodes.ensures.err [
      | inl m ↦ inl m
      | inr f ↦ inr (nodes_in-then (view c.args.tree.now) (Err _) f)
    ])

pub system-requires-clause-sound : goal.system-requires-clause-sound
system-requires-clause-sound c = rw c.deref.ensures.value (nodes_in-sound (view c.args.tree.now) (nodes_view c.in_ok-nodes.nodes.items) c.in_ok-nodes.ensures.ok)

pub system-requires-clause-names : goal.system-requires-clause-names
system-requires-clause-names c = rw c.deref.ensures.value (c.in_order.ensures ∙ c.in_ok-nodes.ensures.gathered ∙ ap (λ (ns : List Name). with_names ns (all_names (nodes_view c.in_ok-nodes.nodes.items))) c.in_ok-names.ensures)

pub returns-clause-ok : goal.returns-clause-ok
returns-clause-ok c = rw (nodes_in-then (view c.args.tree.now) (Ok _) c.in_ok-nodes.ensures.ok, ← c.deref.ensures.value) c.system.ensures.ok

pub returns-clause-err : goal.returns-clause-err
returns-clause-err c = rw (nodes_in-then (view c.args.tree.now) (Ok _) c.in_ok-nodes.ensures.ok, ← c.deref.ensures.value) c.system.ensures.err

pub returns-clause-means : goal.returns-clause-means
returns-clause-means c =
    let nodes = nodes_view c.in_ok-nodes.nodes.items in
    let sound = nodes_in-sound (view c.args.tree.now) nodes c.in_ok-nodes.ensures.ok in
    IfOk-weaker c.system.result (λ s. system_with (nodes_view c.deref.result.now) ≡ Ok s) (λ s. (ns : List NamedNode) × (nodes_in (view c.args.tree.now) ≡ Ok ns) × IsSystemOf ns s)
    (λ s made. (nodes, c.in_ok-nodes.ensures.ok, system_with-is nodes s sound.apart (ap (λ ns. system_with (nodes_view ns)) (sym c.deref.ensures.value) ∙ made))) c.system.ensures.ok
