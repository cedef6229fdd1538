use Rattle.std.proofs.Common.{sym, ◌∙◌, ap, Some}
use Rattle.std.proofs.lemmas.Bool.{false≢true}
use Rattle.fbas_model.specs.Nodes.{members}
use Rattle.fbas_model.proofs.Slices.{no_slice, slice_iff, at_place}
use Rattle.fbas_plain.proofs.has_slice_within.Goals as goal

pub returns-then-in_either : goal.returns-then-in_either
returns-then-in_either c =
    let place = at_place c.args.sets.now c.args.v c.index-sets-v.result c.requires.node c.index-sets-v.is ∙ ap Some c.in-Some.is in
    let law = slice_iff c.args.sets.now (members c.args.faulty.now) (members c.args.u.now) c.args.v c.in-Some.set place (sym c.in_either.ensures ∙ c.if-in_either.true) in
    (λ h. law.0 (c.has_choice_within_either.ensures.0 h), λ h. c.has_choice_within_either.ensures.1 (law.1 h))

pub returns-in-None : goal.returns-in-None
returns-in-None c =
    let place = at_place c.args.sets.now c.args.v c.index-sets-v.result c.requires.node c.index-sets-v.is ∙ ap Some c.in-None.is in
    (λ t. absurd (false≢true t), λ h. absurd (no_slice c.args.sets.now (members c.args.faulty.now) (members c.args.u.now) c.args.v place h))
