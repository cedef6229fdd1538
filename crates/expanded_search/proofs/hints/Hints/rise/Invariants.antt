use Rattle.expanded_search.specs.Named.{AreNamed}
use Rattle.expanded_search.proofs.hints.Hints.rise.Given as goal

abbrev pub invariant-loop-input : goal.invariant-loop-input
invariant-loop-input l = AreNamed l.checker.database.held l.self.ids.items
