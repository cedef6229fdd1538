use Rattle.std.proofs.Common.{◌≡◌, length}
use Rattle.expanded_search.proofs.searching.values_of.Given as goal

abbrev pub invariant-loop-before : goal.invariant-loop-before
invariant-loop-before l = length l.values.items ≡ l.before
