use Rattle.std.proofs.Common.{◌≡◌, drop, length}
use Rattle.json.specs.Tree.{json_tokens, items_tokens, members_tokens}
use Rattle.json.specs.Value.{value_view, items_view, members_view}
use Rattle.node_json.specs.Tree.{items_in_range, members_in_range}
use Rattle.node_json.proofs.tree.+range.Given as goal

abbrev pub decreases-in_range : goal.decreases-in_range
decreases-in_range l = length (json_tokens (value_view l.tree.now))

abbrev pub decreases-all_in_range : goal.decreases-all_in_range
decreases-all_in_range l = length (items_tokens (items_view l.items.now.items))

abbrev pub decreases-each_in_range : goal.decreases-each_in_range
decreases-each_in_range l = length (members_tokens (members_view l.members.now.items))

abbrev pub invariant-all_in_range-loop-item : goal.invariant-all_in_range-loop-item
invariant-all_in_range-loop-item l = items_in_range (items_view l.item-items) ≡ items_in_range (items_view (drop l.item-index l.item-items))

abbrev pub invariant-each_in_range-loop-member : goal.invariant-each_in_range-loop-member
invariant-each_in_range-loop-member l = members_in_range (members_view l.member-items) ≡ members_in_range (members_view (drop l.member-index l.member-items))
