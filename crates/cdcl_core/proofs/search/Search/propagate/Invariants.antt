use Rattle.std.proofs.Common.{◌≤◌}
use Rattle.cdcl_core.specs.Searching.{HasSame, IsSearching}
use Rattle.search_heuristics.specs.Open.{open_count}
use Rattle.cdcl_core.proofs.search.Search.propagate.Given as goal

abbrev pub invariant-rounds : goal.invariant-rounds
invariant-rounds l = record {
  same : HasSame l.initial.self l.self;
  searching : IsSearching l.self.clauses l.self;
  fewer : open_count l.self.assignment.trues l.self.vars ≤ open_count l.initial.self.assignment.trues l.initial.self.vars;
}

abbrev pub decreases-rounds : goal.decreases-rounds
decreases-rounds l = open_count l.self.assignment.trues l.self.vars
