use Rattle.std.proofs.Common.{sym, ◌∙◌, ap, Some}
use Rattle.std.proofs.lemmas.Bool.{or_left, or_right, false≢true}
use Rattle.fbas_model.specs.Nodes.{members, ◌∈◌, ◌∪◌}
use Rattle.fbas_model.proofs.Slices.{no_slice, slice_iff, at_place}
use Rattle.fbas_core.proofs.System.slice_in.Goals as goal
use Rattle.fbas_core.proofs.System.slice_in.Goals.{then-has, else-has}

pub returns-then-has-2 : goal.returns-then-has-2
returns-then-has-2 c =
    let sets = c.self.inside.sets.items in
    let u = members c.args.u.now in
    let b = members c.args.faulty.now in
    let here : c.args.v ∈ (u ∪ b) = elim c.if-has.branch [
      | then-has w ↦ or_left (u c.args.v) (b c.args.v) (sym c.has.ensures ∙ w.if-has.true)
      | else-has w ↦ or_right (u c.args.v) (b c.args.v) (sym w.has-else-has.ensures ∙ (sym w.value-is ∙ c.if-has-2.true))
    ] in
    let place = at_place sets c.args.v c.index.result.now (rw (← c.self.view_is) at c.requires.node) c.index.ensures ∙ ap Some c.in-Some.is in
    let law = slice_iff sets b u c.args.v c.in-Some.quorum_set place here in
    rw (← c.self.view_is) (λ t. law.0 (c.satisfied_in.ensures.0 t), λ h. c.satisfied_in.ensures.1 (law.1 h))

pub returns-in-None : goal.returns-in-None
returns-in-None c =
    let sets = c.self.inside.sets.items in
    let place = at_place sets c.args.v c.index.result.now (rw (← c.self.view_is) at c.requires.node) c.index.ensures ∙ ap Some c.in-None.is in
    rw (← c.self.view_is) (λ t. absurd (false≢true t), λ h. absurd (no_slice sets (members c.args.faulty.now) (members c.args.u.now) c.args.v place h))
