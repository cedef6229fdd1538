use Rattle.std.proofs.Common.{suc, ◌+◌, ◌*◌}
use Rattle.cdcl_core.specs.Searching.{HasSame, IsSearching}
use Rattle.search_heuristics.specs.Open.{open_count}
use Rattle.cdcl_core.proofs.search.Search.descend.Given as goal

abbrev pub invariant-turns : goal.invariant-turns
invariant-turns l = record {
  same : HasSame l.initial.self l.self;
  searching : IsSearching l.self.clauses l.self;
}

abbrev pub decreases-turns : goal.decreases-turns
decreases-turns l = l.cuts * suc l.self.vars + open_count l.self.assignment.trues l.self.vars
