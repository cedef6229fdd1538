use Rattle.std.proofs.Common.{◌<◌, ℕ, Option, length, sym, ◌∙◌, ap, subst, Some, IfSome}
use Rattle.fbas_model.specs.Nodes.{members}
use Rattle.fbas_model.specs.Trees.{QuorumSet}
use Rattle.fbas_model.specs.QuorumSets.{IsBelow}
use Rattle.fbas_model.specs.Systems.{IsWithin}
use Rattle.fbas_model.proofs.Slices.{at_place}
use Rattle.fbas_model.proofs.Mentioned.{slice_outside_iff}
use Rattle.fbas_core.proofs.System.slice_outside.Goals as goal

pub returns-then-not-has : goal.returns-then-not-has
returns-then-not-has c =
    let sets = c.self.inside.sets.items in
    let low : c.args.v < length sets = rw (← c.self.view_is) at c.requires.node in
    let place = at_place sets c.args.v c.index.result.now low c.index.ensures ∙ ap Some c.in-Some.is in
    let within = c.self.invariant.0.within c.args.v c.index.result.now low in
    let here : IfSome (Some c.in-Some.quorum_set) (IsWithin (length c.self.inside.names)) = subst (λ (o : Option QuorumSet). IfSome o (IsWithin (length c.self.inside.names))) (sym c.index.ensures ∙ c.in-Some.is) within in
    let below = subst (λ (n : ℕ). IsBelow n c.in-Some.quorum_set) (sym c.self.invariant.0.places) here.below in
    let law = slice_outside_iff sets (members c.args.s.now) c.args.v c.in-Some.quorum_set place below low (sym c.has.ensures ∙ c.if-not-has.true) in
    rw (← c.self.view_is) (λ t. law.0 (c.avoids.ensures.0 t), λ h. c.avoids.ensures.1 (law.1 h))
