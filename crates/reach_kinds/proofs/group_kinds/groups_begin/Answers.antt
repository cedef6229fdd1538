use Rattle.std.proofs.Common.{◌≡◌, length, refl, sym, ap, ◌∙◌, subst}
use Rattle.std.specs.Prelude.{All}
use Rattle.node_json.specs.Groups.{Group, tables_of}
use Rattle.group_journal.specs.Groups.{touching}
use Rattle.reach_kinds.specs.Known.{IsListOver}
use Rattle.reach_kinds.specs.declared.places.ListPart.{ListPart}
use Rattle.reach_kinds.specs.declared.places.GroupPart.{GroupPart}
use Rattle.reach_kinds.proofs.ListShown.{part_greatest}
use Rattle.reach_kinds.proofs.GroupKnown.{over_starts}
use Rattle.reach_kinds.proofs.group_kinds.groups_begin.Goals as goal

pub grouped_part-requires-clause-places : goal.grouped_part-requires-clause-places
grouped_part-requires-clause-places c =
    subst (λ (p : ListPart). length p.greatest ≡ length p.system.sets) (sym c.in_ok-part.ensures.part) (part_greatest c.args.scope.now.system.now c.args.scope.now.nodes.now c.args.scope.now.faulty.now c.requires.part).places

pub returns-clause-known : goal.returns-clause-known
returns-clause-known c =
    let f = c.args.scope.now.system.now in
    let nodes = c.args.scope.now.nodes.now in
    let gone = c.args.scope.now.faulty.now in
    let over : GroupPart = c.in_ok-over.over in
    let over_is = c.in_ok-over.ensures.over in
    let part_is : over.part ≡ c.in_ok-part.part = ap (λ (p : GroupPart). p.part) over_is in
    subst (IsListOver f nodes gone) (sym c.in_ok-listing.ensures) (over_starts f nodes gone c.args.kind over c.requires.part (record {
      part = part_is ∙ c.in_ok-part.ensures.part;
      rising = c.in_ok-over.ensures.rising;
      sized = subst (λ (p : ListPart). All (λ (group : Group). length group.members ≡ length p.system.sets) over.groups) (sym part_is) c.in_ok-over.ensures.sized;
      touched = subst (λ (p : GroupPart). p.touched ≡ touching (tables_of p.groups) p.part.greatest) (sym over_is) refl;
    }))
