use Rattle.std.proofs.Common.{◌≡◌, ◌+◌, ◌≤◌, ℕ, not, List, length, sym, ap, ◌∙◌, subst, arith}
use Rattle.std.specs.Prelude.{All}
use Rattle.std.specs.List.Sorted.{IsStrictlySortedBy}
use Rattle.std.proofs.lemmas.List.{length-map}
use Rattle.fbas_model.specs.Names.{name_cmp}
use Rattle.fbas_model.proofs.Tables.{length-table_from}
use Rattle.node_json.specs.Groups as spec
use Rattle.node_json.specs.Groups.{org_groups, grouped, groups_of, texts_of, CoverNodes}
use Rattle.node_json.specs.GroupsView.{group_view, groups_view}
use Rattle.node_json.specs.NamesInOrder.{in_order}
use Rattle.node_json.specs.Organisations.{ids_of}
use Rattle.node_json.proofs.GroupLoops.{sized_back, named_made, all_groups}
use Rattle.node_json.proofs.GroupTexts.{texts_rise}
use Rattle.node_json.proofs.GroupNodes.{nodes_covered, org_sized, groups_sized, few_groups}
use Rattle.node_json.proofs.groups.groups_of.Goals as goal

pub loose-nodes-requires-clause-sized : goal.loose-nodes-requires-clause-sized
loose-nodes-requires-clause-sized c =
    let wn = c.args.whole.now.names in
    let kn = c.args.kept.now.names in
    let orgs = c.args.orgs.now in
    let named = named_made wn kn c.names.result.now c.names-2.result.now orgs c.in_ok-ids.ids (groups_view c.in_ok-named.named.items) c.in_ok-named.ensures c.names.ensures.names c.names-2.ensures.names c.in_ok-ids.ensures.ids in
    let all = subst (λ (n : ℕ). All (λ (g : spec.Group). length g.members ≡ n) (org_groups wn kn orgs)) (sym c.len.ensures.names) (org_sized wn kn orgs (in_order (ids_of orgs))) in
    sized_back c.deref.result.now (org_groups wn kn orgs) c.len.result (ap groups_view c.deref.ensures.value ∙ named) all

pub node_groups-requires-clause-same_n : goal.node_groups-requires-clause-same_n
node_groups-requires-clause-same_n c =
    ap length c.loose-nodes.ensures ∙ length-table_from 0 c.len.result (λ v. not (grouped (groups_view c.deref.result.now) v)) ∙ c.len.ensures.names ∙ sym (ap length c.names-3.ensures.names)

pub invariant_of-result : goal.invariant_of-result
invariant_of-result c =
    let is = all_groups c.args.whole.now.names c.args.kept.now.names c.names.result.now c.names-2.result.now c.names-3.result.now c.args.orgs.now c.in_ok-ids.ids c.len.result c.loose-nodes.result c.in_ok-named.named.items c.deref.result.now c.in_ok-list.list.items c.append.new.self.items c.in_ok-named.ensures c.names.ensures.names c.names-2.ensures.names c.in_ok-ids.ensures.ids c.loose-nodes.ensures c.deref.ensures.value c.len.ensures.names c.in_ok-list.ensures c.names-3.ensures.names c.in_ok-append.ensures.items in
    let counted : length (groups_view c.append.new.self.items) ≤ length c.args.kept.now.names + length c.args.orgs.now = subst (λ (gs : List spec.Group). length gs ≤ length c.args.kept.now.names + length c.args.orgs.now) (sym is) (few_groups c.args.whole.now.names c.args.kept.now.names c.args.orgs.now) in
    omega (arith, counted, length-map c.append.new.self.items group_view, c.len.ensures.few, c.len.ensures.names, c.in_ok-ids.ensures.few)

pub returns-clause-groups : goal.returns-clause-groups
unfolding groups_of
returns-clause-groups c = all_groups c.args.whole.now.names c.args.kept.now.names c.names.result.now c.names-2.result.now c.names-3.result.now c.args.orgs.now c.in_ok-ids.ids c.len.result c.loose-nodes.result c.in_ok-named.named.items c.deref.result.now c.in_ok-list.list.items c.append.new.self.items c.in_ok-named.ensures c.names.ensures.names c.names-2.ensures.names c.in_ok-ids.ensures.ids c.loose-nodes.ensures c.deref.ensures.value c.len.ensures.names c.in_ok-list.ensures c.names-3.ensures.names c.in_ok-append.ensures.items

pub returns-clause-rising : goal.returns-clause-rising
returns-clause-rising c =
    let is = all_groups c.args.whole.now.names c.args.kept.now.names c.names.result.now c.names-2.result.now c.names-3.result.now c.args.orgs.now c.in_ok-ids.ids c.len.result c.loose-nodes.result c.in_ok-named.named.items c.deref.result.now c.in_ok-list.list.items c.append.new.self.items c.in_ok-named.ensures c.names.ensures.names c.names-2.ensures.names c.in_ok-ids.ensures.ids c.loose-nodes.ensures c.deref.ensures.value c.len.ensures.names c.in_ok-list.ensures c.names-3.ensures.names c.in_ok-append.ensures.items in
    subst (λ (gs : List spec.Group). IsStrictlySortedBy name_cmp (texts_of gs)) (sym is) (texts_rise c.args.whole.now.names c.args.kept.now.names c.args.orgs.now c.len.ensures.sorted)

pub returns-clause-cover : goal.returns-clause-cover
returns-clause-cover c =
    let is = all_groups c.args.whole.now.names c.args.kept.now.names c.names.result.now c.names-2.result.now c.names-3.result.now c.args.orgs.now c.in_ok-ids.ids c.len.result c.loose-nodes.result c.in_ok-named.named.items c.deref.result.now c.in_ok-list.list.items c.append.new.self.items c.in_ok-named.ensures c.names.ensures.names c.names-2.ensures.names c.in_ok-ids.ensures.ids c.loose-nodes.ensures c.deref.ensures.value c.len.ensures.names c.in_ok-list.ensures c.names-3.ensures.names c.in_ok-append.ensures.items in
    subst (λ (gs : List spec.Group). CoverNodes (length c.args.kept.now.names) gs) (sym is) (nodes_covered c.args.kept.now.names (org_groups c.args.whole.now.names c.args.kept.now.names c.args.orgs.now))

pub returns-clause-sized : goal.returns-clause-sized
returns-clause-sized c =
    let is = all_groups c.args.whole.now.names c.args.kept.now.names c.names.result.now c.names-2.result.now c.names-3.result.now c.args.orgs.now c.in_ok-ids.ids c.len.result c.loose-nodes.result c.in_ok-named.named.items c.deref.result.now c.in_ok-list.list.items c.append.new.self.items c.in_ok-named.ensures c.names.ensures.names c.names-2.ensures.names c.in_ok-ids.ensures.ids c.loose-nodes.ensures c.deref.ensures.value c.len.ensures.names c.in_ok-list.ensures c.names-3.ensures.names c.in_ok-append.ensures.items in
    subst (λ (gs : List spec.Group). All (λ (g : spec.Group). length g.members ≡ length c.args.kept.now.names) gs) (sym is) (groups_sized c.args.whole.now.names c.args.kept.now.names c.args.orgs.now)
