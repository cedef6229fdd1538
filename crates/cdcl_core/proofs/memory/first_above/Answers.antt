use Rattle.std.proofs.Common.{ℕ, rules, of_calls, leb}
use Rattle.std.proofs.lemmas.Bool.{leb-true, leb-false}
use Rattle.std.proofs.lemmas.List.Sorted.{IsPartitionPoint-from_clause, IsPartitionedBy-leb}
use Rattle.cdcl_core.proofs.memory.first_above.Goals as goal

pub returns-clause-below : goal.returns-clause-below
returns-clause-below c =
    let point = IsPartitionPoint-from_clause (λ (k : ℕ). leb k c.args.id) c.args.ids.now c.partition_point.result c.partition_point.ensures.partitioned (IsPartitionedBy-leb (λ (k : ℕ). k) c.args.ids.now c.args.id c.requires) (λ a r f k. search (rules, of_calls)) in
    λ k d low high. leb-true _ _ (point.0 k d low high)

pub returns-clause-above : goal.returns-clause-above
returns-clause-above c =
    let point = IsPartitionPoint-from_clause (λ (k : ℕ). leb k c.args.id) c.args.ids.now c.partition_point.result c.partition_point.ensures.partitioned (IsPartitionedBy-leb (λ (k : ℕ). k) c.args.ids.now c.args.id c.requires) (λ a r f k. search (rules, of_calls)) in
    λ k d low high. leb-false _ _ (point.1 k d low high)
