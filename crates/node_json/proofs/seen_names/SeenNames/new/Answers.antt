use Rattle.node_json.proofs.SeenNames.{none_only, none_seen}
use Rattle.node_json.proofs.seen_names.SeenNames.new.Goals as goal

pub invariant_of-result : goal.invariant_of-result
invariant_of-result c = rw (c.new.ensures.empty, c.in_ok-vec.ensures.items_if_clones_equal (none_only _ (λ x h. h))) (none_seen _ c.slots_for.ensures)
