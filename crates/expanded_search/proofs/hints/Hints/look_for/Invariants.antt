use Rattle.expanded_search.specs.Named.{AreNamed}
use Rattle.expanded_search.proofs.hints.Hints.look_for.Given as goal

abbrev pub invariant-loop-place : goal.invariant-loop-place
invariant-loop-place l = AreNamed l.checker.database.held l.self.ids.items
