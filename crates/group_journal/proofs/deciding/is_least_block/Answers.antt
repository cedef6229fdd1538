use Rattle.std.proofs.Common.{◌≡◌, List, length, sym, subst, ap, ◌∙◌}
use Rattle.std.specs.Prelude.{All}
use Rattle.std.proofs.lemmas.List.{length-map}
use Rattle.std.proofs.lemmas.List.Elements.{All-map}
use Rattle.fbas_model.specs.Nodes.{Table, members, ◌⊆◌}
use Rattle.node_json.specs.Groups as spec
use Rattle.node_json.specs.Groups.{tables_of}
use Rattle.group_journal.specs.Groups.{IsLeastBlock}
use Rattle.group_journal.proofs.Decided.{least_is}
use Rattle.group_journal.proofs.deciding.is_least_block.Goals as goal

pub returns-clause-least : goal.returns-clause-least
returns-clause-least c =
    let f = c.args.system.now.sets in
    let b = c.args.faulty.now in
    let groups = c.args.groups.now in
    let gs = tables_of groups in
    let set = c.args.set.now in
    let left = c.minimal_groups.new.marked.marks in
    let count = length-map groups (λ (g : spec.Group). g.members) in
    let places : length set ≡ length gs = c.requires.places ∙ sym count in
    let groups_are = c.minimal_groups.ensures.groups ∙ c.mark_all.ensures.groups ∙ c.in_ok-marked.ensures.groups in
    let sized = All-map (λ (t : Table). length t ≡ length f) (λ (g : spec.Group). g.members) groups c.requires.sized in
    least_is f b gs c.requires.same_faulty sized set left c.same.result places
    (c.minimal_groups.ensures.places ∙ ap (λ (t : Table). length t) c.mark_all.ensures.marks ∙ places)
    (subst (λ (t : Table). members left ⊆ members t) c.mark_all.ensures.marks c.minimal_groups.ensures.within)
    (subst (λ (xs : List Table). IsLeastBlock f (members b) xs left) groups_are c.minimal_groups.ensures.least)
    (λ h. sym c.marks.ensures ∙ c.same.ensures.0 h)
    (λ e. c.same.ensures.1 (c.marks.ensures ∙ e))
