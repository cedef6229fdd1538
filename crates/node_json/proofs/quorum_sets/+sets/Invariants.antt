use Rattle.std.proofs.Common.{◌≡◌, ◌+◌, ◌*◌, drop}
use Rattle.node_json.specs.Tree.{items_view}
use Rattle.node_json.specs.Configuration.{names_in_sets}
use Rattle.node_json.specs.NamesInOrder.{with_names}
use Rattle.node_json.specs.View.{sets_view}
use Rattle.node_json.specs.Reading.{sets_by, set_of, after}
use Rattle.node_json.proofs.SetReading.{sets_before}
use Rattle.node_json.proofs.quorum_sets.+sets.Given as goal

abbrev pub decreases-read_set : goal.decreases-read_set
decreases-read_set l = 3 * l.levels

abbrev pub decreases-read_sets : goal.decreases-read_sets
decreases-read_sets l = 3 * l.levels + 1

abbrev pub decreases-read_inner : goal.decreases-read_inner
decreases-read_inner l = 3 * l.levels + 2

abbrev pub invariant-read_sets-loop-item : goal.invariant-read_sets-loop-item
invariant-read_sets-loop-item l =
    (sets_by (set_of l.at l.levels) (items_view l.items.items) ≡ after (sets_before l.sets.items) (sets_by (set_of l.at l.levels) (items_view (drop l.item-index l.items.items))))
    × (l.names ≡ with_names l.initial.names (names_in_sets (sets_view l.sets.items)))
