use Rattle.std.proofs.Common.{◌≡◌, ◌+◌, drop}
use Rattle.fbas_model.specs.QuorumSets.{all_entries_of}
use Rattle.fbas_model.specs.Lists.{inner_entries}
use Rattle.node_json.proofs.system.+entries.Given as goal

abbrev pub invariant-loop-inner : goal.invariant-loop-inner
invariant-loop-inner l = l.initial.n + all_entries_of (inner_entries l.inner-items) ≡ l.n + all_entries_of (inner_entries (drop l.inner-index l.inner-items))
