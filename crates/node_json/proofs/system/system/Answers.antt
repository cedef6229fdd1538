use Rattle.std.proofs.Common.{◌≡◌, length, inr, sym, ◌∙◌, arith, rules}
use Rattle.fbas_model.specs.Systems.{entries_in}
use Rattle.std.proofs.lemmas.List.{length-map}
use Rattle.node_json.specs.View.{names_view, nodes_view}
use Rattle.node_json.proofs.Limits.{too_many_nodes, few_nodes, too_many_entries, few_entries, owned_names, is_system}
use Rattle.node_json.proofs.system.system.Goals as goal

pub returns-then-n-gt-MOST_NODES-clause-err : goal.returns-then-n-gt-MOST_NODES-clause-err
returns-then-n-gt-MOST_NODES-clause-err c =
    let found = c.args.found.keys in
    let counted : c.len-n.result ≡ length (names_view found) = c.len-n.ensures.len ∙ sym (length-map found (λ name. name.now)) in
    inr (too_many_nodes (nodes_view c.args.nodes.now) (names_view found) c.len-n.result c.requires.names counted c.if-n-gt-MOST_NODES.true)

pub returns-then-entries-gt-MOST_ENTRIES-clause-err : goal.returns-then-entries-gt-MOST_ENTRIES-clause-err
returns-then-entries-gt-MOST_ENTRIES-clause-err c =
    let nodes = nodes_view c.args.nodes.now in
    let known = owned_names nodes c.args.found.keys c.in_ok-names.names c.len-n.result c.requires.names c.in_ok-names.ensures c.len-n.ensures.len c.if-n-gt-MOST_NODES.false in
    let counted : c.in_ok-entries.entries ≡ entries_in c.in_ok-sets.sets.items = search rules in
    inr (few_nodes nodes c.in_ok-names.names known.0 known.1 ∙ too_many_entries nodes c.in_ok-names.names c.in_ok-sets.sets.items c.in_ok-entries.entries c.in_ok-sets.ensures counted c.if-entries-gt-MOST_ENTRIES.true)

pub of-requires : goal.of-requires
of-requires c =
    let nodes = nodes_view c.args.nodes.now in
    let known = owned_names nodes c.args.found.keys c.in_ok-names.names c.len-n.result c.requires.names c.in_ok-names.ensures c.len-n.ensures.len c.if-n-gt-MOST_NODES.false in
    let counted : c.in_ok-entries.entries ≡ entries_in c.in_ok-sets.sets.items = search rules in
    is_system nodes c.in_ok-names.names c.in_ok-sets.sets.items c.requires.sound known.0 c.in_ok-sets.ensures known.1 (omega arith)

pub returns-clause-ok : goal.returns-clause-ok
returns-clause-ok c =
    let nodes = nodes_view c.args.nodes.now in
    let known = owned_names nodes c.args.found.keys c.in_ok-names.names c.len-n.result c.requires.names c.in_ok-names.ensures c.len-n.ensures.len c.if-n-gt-MOST_NODES.false in
    let counted : c.in_ok-entries.entries ≡ entries_in c.in_ok-sets.sets.items = search rules in
    few_nodes nodes c.in_ok-names.names known.0 known.1 ∙ few_entries nodes c.in_ok-names.names c.in_ok-sets.sets.items c.in_ok-system.system c.in_ok-system.ensures.names c.in_ok-system.ensures.sets c.in_ok-sets.ensures (omega arith)
