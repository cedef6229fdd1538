use Rattle.expanded_search.specs.Named.{AreNamed}
use Rattle.expanded_search.proofs.hints.Hints.rise_in.Given as goal

abbrev pub invariant-loop-column : goal.invariant-loop-column
invariant-loop-column l = AreNamed l.checker.database.held l.self.ids.items
