use Rattle.std.proofs.Common.{refl, sym, ◌∙◌, ap, Some}
use Rattle.fbas_model.specs.Nodes.{members}
use Rattle.fbas_model.proofs.Slices.{blocks_none, blocks_iff, at_place}
use Rattle.fbas_core.proofs.System.v_blocks.Goals as goal

pub returns-else-has : goal.returns-else-has
returns-else-has c =
    let sets = c.self.inside.sets.items in
    let place = at_place sets c.args.v c.index.result.now (rw (← c.self.view_is) at c.requires.node) c.index.ensures ∙ ap Some c.in-Some.is in
    rw (← c.self.view_is) (blocks_iff sets c.args.s.now c.args.v c.in-Some.quorum_set c.avoids.result place c.avoids.ensures (sym c.has.ensures ∙ c.if-has.false))

pub returns-in-None : goal.returns-in-None
returns-in-None c =
    let sets = c.self.inside.sets.items in
    let place = at_place sets c.args.v c.index.result.now (rw (← c.self.view_is) at c.requires.node) c.index.ensures ∙ ap Some c.in-None.is in
    rw (← c.self.view_is) (λ t. blocks_none sets (members c.args.s.now) c.args.v place, λ h. refl)
