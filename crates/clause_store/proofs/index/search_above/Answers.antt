use Rattle.std.proofs.Common.{rules, of_calls, leb}
use Rattle.std.proofs.lemmas.Bool.{leb-true, leb-false}
use Rattle.std.proofs.lemmas.List.Sorted.{IsPartitionPoint-from_clause, IsPartitionedBy-leb}
use Rattle.clause_store.proofs.EntryLaws.{non_decreasing}
use Rattle.clause_store.proofs.index.search_above.Goals as goal

pub returns-clause-below : goal.returns-clause-below
returns-clause-below c =
    let point = IsPartitionPoint-from_clause (λ e. leb e.id c.args.id) c.args.entries.now c.partition_point.result c.partition_point.ensures.partitioned (IsPartitionedBy-leb (λ e. e.id) c.args.entries.now c.args.id (non_decreasing c.args.entries.now c.requires)) (λ a r f k. search (rules, of_calls)) in
    λ k d low high. leb-true _ _ (point.0 k d low high)

pub returns-clause-above : goal.returns-clause-above
returns-clause-above c =
    let point = IsPartitionPoint-from_clause (λ e. leb e.id c.args.id) c.args.entries.now c.partition_point.result c.partition_point.ensures.partitioned (IsPartitionedBy-leb (λ e. e.id) c.args.entries.now c.args.id (non_decreasing c.args.entries.now c.requires)) (λ a r f k. search (rules, of_calls)) in
    λ k d low high. leb-false _ _ (point.1 k d low high)
