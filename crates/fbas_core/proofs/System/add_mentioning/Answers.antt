use Rattle.std.proofs.Common.{◌≡◌, ◌<◌, ℕ, List, length, ◌∙◌, ap, sym, subst}
use Rattle.std.specs.Prelude.{All}
use Rattle.fbas_model.specs.Nodes.{Nodes, members, ◌∪◌}
use Rattle.fbas_model.specs.Lists.{among}
use Rattle.fbas_core.specs.Mentioning.{list_at}
use Rattle.fbas_core.proofs.WhoMentions.{mentioning_whole, mentioning_below}
use Rattle.fbas_core.proofs.System.add_mentioning.Goals as goal

pub list-requires : goal.list-requires
list-requires c = let many = c.self.invariant.1.many in rw (many) (rw (← c.self.view_is) at c.requires.node)

pub put_all-requires : goal.put_all-requires
put_all-requires c =
    let size : length c.self.inside.sets.items ≡ length c.args.into.now = sym (rw (← c.self.view_is) at c.requires.same_n) in
    let below = subst (λ (n : ℕ). All (λ w. w < n) (list_at c.self.inside.mentioning c.args.v)) size (mentioning_below c.self.inside.sets.items c.self.inside.mentioning c.args.v c.self.invariant.1) in
    subst (λ (ws : List ℕ). All (λ w. w < length c.args.into.now) ws) (sym c.list.ensures) below

pub returns-clause-added : goal.returns-clause-added
returns-clause-added c =
    rw (← c.self.view_is) (
    c.put_all.ensures.added
    ∙ ap (λ (ws : List ℕ). members c.args.into.now ∪ among ws) c.list.ensures
    ∙ ap (λ (s : Nodes). members c.args.into.now ∪ s) (mentioning_whole c.self.inside.sets.items c.self.inside.mentioning c.args.v c.self.invariant.1)
    )
