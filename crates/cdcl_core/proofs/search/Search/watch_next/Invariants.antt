use Rattle.std.proofs.Common.{◌≡◌, ◌-◌, length, take}
use Rattle.cdcl_core.specs.Searching.{HasSame, IsSearching}
use Rattle.cdcl_core.proofs.search.Search.watch_next.Given as goal

abbrev pub invariant-loop-place : goal.invariant-loop-place
invariant-loop-place l = record {
  same : HasSame l.initial.self l.self;
  at : l.place ≡ length l.self.pairs.items;
  searching : IsSearching (take l.place l.self.clauses) l.self;
}

abbrev pub decreases-loop-place : goal.decreases-loop-place
decreases-loop-place l = length l.self.clauses - l.place
