use Rattle.std.proofs.Common.{◌≡◌, ℕ, length, sym, ap, ◌∙◌, subst, arith}
use Rattle.std.specs.Prelude.{All}
use Rattle.std.proofs.lemmas.List.{length-map}
use Rattle.fbas_model.specs.Nodes.{Table}
use Rattle.fbas_model.proofs.Closure.{size_le_length}
use Rattle.node_json.specs.Groups.{Group, tables_of}
use Rattle.group_journal.proofs.Touched.{length-touching}
use Rattle.reach_kinds.proofs.GroupTaken.{grouped_part_of}
use Rattle.reach_kinds.proofs.group_kinds.grouped_part.Goals as goal

pub touching-touched-requires : goal.touching-touched-requires
touching-touched-requires c = record {
  sized = subst (λ (n : ℕ). All (λ (group : Group). length group.members ≡ n) c.in-Ok.groups) (sym c.len-nodes.ensures.names ∙ c.len-nodes.ensures.sets ∙ sym c.requires.places) c.in-Ok.ensures.sized;
}

pub returns-in-Ok-clause-over : goal.returns-in-Ok-clause-over
returns-in-Ok-clause-over c = grouped_part_of c.args.part c.in-Ok.groups _ c.touching-touched.result c.in-Ok.ensures.groups c.touching-touched.ensures

pub returns-in-Ok-clause-few : goal.returns-in-Ok-clause-few
returns-in-Ok-clause-few c =
    let gs = tables_of c.in-Ok.groups in
    omega (arith, size_le_length c.touching-touched.result, ap (λ (t : Table). length t) c.touching-touched.ensures, length-touching gs c.args.part.greatest, length-map c.in-Ok.groups (λ (group : Group). group.members), c.len-groups.ensures.count, c.len-groups.ensures.few)

pub returns-in-Ok-clause-sized : goal.returns-in-Ok-clause-sized
returns-in-Ok-clause-sized c =
    subst (λ (n : ℕ). All (λ (group : Group). length group.members ≡ n) c.in-Ok.groups) (sym c.len-nodes.ensures.names ∙ c.len-nodes.ensures.sets) c.in-Ok.ensures.sized
