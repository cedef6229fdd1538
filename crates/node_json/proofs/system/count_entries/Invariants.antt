use Rattle.std.proofs.Common.{◌≡◌, ◌+◌, drop}
use Rattle.fbas_model.specs.Systems.{entries_in}
use Rattle.node_json.proofs.system.count_entries.Given as goal

abbrev pub invariant-loop-set : goal.invariant-loop-set
invariant-loop-set l = entries_in l.sets ≡ l.n + entries_in (drop l.set-index l.sets)
