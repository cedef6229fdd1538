use Rattle.std.proofs.Common.{◌≡◌, [], drop}
use Rattle.node_json.specs.Tree.{items_view}
use Rattle.node_json.specs.Organisations.{orgs_from}
use Rattle.node_json.specs.OrgsView.{AreApart}
use Rattle.node_json.specs.View.{names_view}
use Rattle.node_json.proofs.OrgReading.{then_more}
use Rattle.node_json.proofs.named_orgs.read_items.Given as goal

abbrev pub invariant-loop-i : goal.invariant-loop-i
invariant-loop-i l =
    (orgs_from 0 [] (items_view l.items) ≡ then_more l.orgs.items l.i (items_view (drop l.i l.items)))
    × AreApart (names_view l.seen.keys) l.orgs.items
