use Rattle.std.proofs.Common.{◌≡◌, ◌++◌, ◌∷◌, [], ◌-◌, ◌+◌, ◌∙◌, ℕ, arith, ap, subst, sym, take, set}
use Rattle.std.proofs.lemmas.List.{take_more, length-set}
use Rattle.lrat_model.specs.Literal.{Literal, variable_of}
use Rattle.assignment_trail.specs.declared.assignment.Value.TheVariants.{Unassigned}
use Rattle.assignment_trail.specs.Values.{IsAssignment}
use Rattle.assignment_trail.proofs.ValueLaws.{sound_less}
use Rattle.assignment_trail.proofs.assignment.undo.Goals as goal

pub loop-left-preserved : goal.loop-left-preserved
loop-left-preserved c =
    let s = c.loop-left in
    let inv = s.invariant in
    let trail = c.args.trail.now in
    let t = c.index-trail-left.result in
    let k : ℕ = s.left - 1 in
    let back : k + 1 ≡ s.left = omega (arith, c.loop-left-test.true) in
    let more : take s.left trail ≡ take k trail ++ t ∷ [] = ap (λ n. take n trail) (sym back) ∙ take_more trail k t (omega (arith, inv.within, c.loop-left-test.true)) ∙ ap (λ (x : Literal). take k trail ++ x ∷ []) (sym c.index-trail-left.is) in
    let long_is = length-set s.values.items c.variable.result Unassigned in
    record {
      above = omega (arith, c.loop-left-test.true);
      within = omega (arith, inv.within);
      long = long_is ∙ inv.long;
      sound = λ room start.
          let old : IsAssignment s.values.items (take k trail ++ t ∷ []) room = subst (λ ls. IsAssignment s.values.items ls room) more (inv.sound room start) in
          subst (λ x. IsAssignment (set s.values.items x Unassigned) (take k trail) room) (sym c.variable.ensures.value)
          (sound_less s.values.items (take k trail) t room old (λ m h e. c.requires.apart k t m (omega (arith, inv.within, c.loop-left-test.true)) h (e ∙ ap variable_of c.index-trail-left.is)));
    }
