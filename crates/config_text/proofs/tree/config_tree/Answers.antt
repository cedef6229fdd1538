use Rattle.std.proofs.Common.{◌≡◌, ◌+◌, ◌<◌, ◌≤◌, length, map, sym, ap, subst, arith, ◌∙◌, take_all, rules}
use Rattle.std.specs.Prelude.{All, IfSome}
use Rattle.serde_json.specs.Data.{array, Items}
use Rattle.serde_json.specs.View.{view, items_view}
use Rattle.serde_json.specs.declared.value.Value.{the_lemmas}
use Rattle.serde_json.specs.declared.value.Value.TheVariants.{Array}
use Rattle.fbas_model.specs.Fbas.{Fbas}
use Rattle.config_text.specs.Written.{IsListed}
use Rattle.config_text.proofs.Items.{onto, onto_more, onto_all}
use Rattle.config_text.proofs.Trees.{nodes_after, node_next, nodes_end, all_listed_more}
use Rattle.config_text.proofs.tree.config_tree.Goals as goal

pub loop-v-preserved : goal.loop-v-preserved
loop-v-preserved c =
    let s = c.args.system.now in
    let v = c.loop-v.v in
    let name_low : v < length s.names = omega (arith, c.loop-v-test.true, c.len-n.ensures.names) in
    let set_low : v < length s.sets = omega (arith, c.loop-v-test.true, c.len-n.ensures.sets) in
    let made = c.in_ok-node_tree.ensures in (
      rw c.in_ok-push.ensures.items (onto_more c.loop-v.nodes.items c.in_ok-node_tree.field-0 _ (nodes_after s (v + 1)) made.is ∙ ap (λ (rest : Items). onto (map view c.loop-v.nodes.items) rest) (sym (node_next s v name_low set_low)) ∙ c.loop-v.invariant.0),
      all_listed_more s.sets v set_low c.loop-v.invariant.1 made.listed,
    )

pub returns-clause-tree : goal.returns-clause-tree
returns-clause-tree c =
    let s = c.args.system.now in
    let v = c.loop-v.v in
    let past : length s.names ≤ v = omega (arith, c.loop-v-test.false, c.len-n.ensures.names) in
    let listed : view (Array c.loop-v.nodes) ≡ array (items_view c.loop-v.nodes.items) = search (rules, the_lemmas) in
    listed ∙ ap array (sym (onto_all c.loop-v.nodes.items) ∙ ap (λ (rest : Items). onto (map view c.loop-v.nodes.items) rest) (sym (nodes_end s v past)) ∙ c.loop-v.invariant.0)

pub returns-clause-listed : goal.returns-clause-listed
returns-clause-listed c =
    let s = c.args.system.now in
    let past : length s.sets ≤ c.loop-v.v = omega (arith, c.loop-v-test.false, c.len-n.ensures.sets) in
    subst (λ (xs : Fbas). All (λ o. IfSome o IsListed) xs) (take_all c.loop-v.v s.sets past) c.loop-v.invariant.1
