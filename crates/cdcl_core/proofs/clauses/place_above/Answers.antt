use Rattle.std.proofs.Common.{rules, of_calls, leb}
use Rattle.std.proofs.lemmas.Bool.{leb-true, leb-false}
use Rattle.std.proofs.lemmas.List.Sorted.{IsPartitionPoint-from_clause, IsPartitionedBy-leb}
use Rattle.cdcl_core.specs.declared.clauses.Place.{Place}
use Rattle.cdcl_core.proofs.Arenas.{ids_do_not_fall}
use Rattle.cdcl_core.proofs.clauses.place_above.Goals as goal

pub returns-clause-below : goal.returns-clause-below
returns-clause-below c =
    let point = IsPartitionPoint-from_clause (λ (p : Place). leb p.id c.args.id) c.args.places.now c.partition_point.result c.partition_point.ensures.partitioned (IsPartitionedBy-leb (λ (p : Place). p.id) c.args.places.now c.args.id (ids_do_not_fall c.args.places.now c.requires)) (λ a r f k. search (rules, of_calls)) in
    λ k d low high. leb-true _ _ (point.0 k d low high)

pub returns-clause-above : goal.returns-clause-above
returns-clause-above c =
    let point = IsPartitionPoint-from_clause (λ (p : Place). leb p.id c.args.id) c.args.places.now c.partition_point.result c.partition_point.ensures.partitioned (IsPartitionedBy-leb (λ (p : Place). p.id) c.args.places.now c.args.id (ids_do_not_fall c.args.places.now c.requires)) (λ a r f k. search (rules, of_calls)) in
    λ k d low high. leb-false _ _ (point.1 k d low high)
