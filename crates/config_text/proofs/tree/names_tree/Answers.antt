use Rattle.std.proofs.Common.{◌≡◌, map, ap, ◌∙◌, take_all, rules}
use Rattle.serde_json.specs.Data.{array}
use Rattle.serde_json.specs.View.{view, items_of, items_view}
use Rattle.serde_json.specs.declared.value.Value.{the_lemmas}
use Rattle.serde_json.specs.declared.value.Value.TheVariants.{Array}
use Rattle.config_text.proofs.Trees.{tree_of_name, items-strings}
use Rattle.config_text.proofs.tree.names_tree.Goals as goal

pub returns : goal.returns
returns c =
    let listed : view (Array c.loop-node.texts) ≡ array (items_view c.loop-node.texts.items) = search (rules, the_lemmas) in
    let all = take_all c.loop-node.node-index c.args.nodes.now c.loop-node-test.false in
    listed ∙ ap array (ap items_of (c.loop-node.invariant ∙ ap (map (tree_of_name c.args.names.now)) all) ∙ items-strings c.args.names.now c.args.nodes.now)
