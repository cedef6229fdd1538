use Rattle.expanded_search.specs.Named.{AreNamed}
use Rattle.expanded_search.proofs.hints.Hints.fall.Given as goal

abbrev pub invariant-loop-row : goal.invariant-loop-row
invariant-loop-row l = AreNamed l.checker.database.held l.self.ids.items

abbrev pub decreases-loop-row : goal.decreases-loop-row
decreases-loop-row l = l.row
