use Rattle.std.proofs.Common.{◌≡◌, []}
use Rattle.expanded_search.proofs.hints.Hints.begin.Given as goal

abbrev pub invariant-loop-l : goal.invariant-loop-l
invariant-loop-l l = l.self.ids.items ≡ []
