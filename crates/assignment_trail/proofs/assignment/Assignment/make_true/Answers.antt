use Rattle.std.proofs.Common.{◌≡◌, ◌+◌, List, set, ◌≤◌, ◌++◌, ◌∷◌, [], false, length, sym, subst, ap, ◌∙◌, arith}
use Rattle.std.specs.Prelude.{is_ok, if◌then◌else◌, vec_capacity}
use Rattle.std.proofs.lemmas.List.{length-set}
use Rattle.lrat_model.specs.Literal.{Literal, variable_of, negated, has}
use Rattle.assignment_trail.specs.Assigned.{Assigned}
use Rattle.assignment_trail.specs.Values.{ArePlaces}
use Rattle.assignment_trail.proofs.ValueLaws.{room_left, sound_more, placed_more}
use Rattle.assignment_trail.proofs.assignment.Assignment.make_true.Goals as goal

pub unwrap-requires : goal.unwrap-requires
unwrap-requires c =
    let inside = c.self.inside in
    let l = c.args.l in
    let within : variable_of l + 1 ≤ length inside.values.items = omega (arith, c.requires.range, ap (λ (a : Assigned). a.vars) c.self.view_is, c.self.invariant.assigned.some_place) in
    let open_l : has inside.trail.items l ≡ false = subst (λ (a : Assigned). has a.trues l ≡ false) (sym c.self.view_is) c.requires.open in
    let open_negated : has inside.trail.items (negated l) ≡ false = subst (λ (a : Assigned). has a.trues (negated l) ≡ false) (sym c.self.view_is) c.requires.consistent in
    c.push.ensures.succeeds (omega (arith, inside.trail.ok.0, room_left inside.values.items inside.trail.items (vec_capacity inside.trail) c.self.invariant.assigned l within open_l open_negated))

pub invariant_of-self : goal.invariant_of-self
invariant_of-self c =
    let inside = c.self.inside in
    let l = c.args.l in
    let within : variable_of l + 1 ≤ length inside.values.items = omega (arith, c.requires.range, ap (λ (a : Assigned). a.vars) c.self.view_is, c.self.invariant.assigned.some_place) in
    let open_l : has inside.trail.items l ≡ false = subst (λ (a : Assigned). has a.trues l ≡ false) (sym c.self.view_is) c.requires.open in
    let open_negated : has inside.trail.items (negated l) ≡ false = subst (λ (a : Assigned). has a.trues (negated l) ≡ false) (sym c.self.view_is) c.requires.consistent in
    let pushed : c.push.new.self.items ≡ inside.trail.items ++ l ∷ [] = c.push.ensures.items ∙ ap (λ r. if is_ok r then inside.trail.items ++ l ∷ [] else inside.trail.items) c.unwrap.ensures in
    record {
      assigned = rw (c.variable-x.ensures.value, c.value_of.ensures, pushed) (sound_more inside.values.items inside.trail.items (vec_capacity inside.trail) c.self.invariant.assigned l within open_l open_negated (vec_capacity c.push.new.self) c.push.ensures.capacity);
      places_long = omega (arith, c.self.invariant.places_long, length-set inside.places.items c.variable-x.result c.len.result, length-set inside.values.items c.variable-x.result c.value_of.result);
      placed = subst (λ (ls : List Literal). ArePlaces ls (set inside.places.items c.variable-x.result c.len.result)) (sym pushed)
          (placed_more inside.trail.items inside.places.items l c.variable-x.result c.len.result c.self.invariant.placed c.variable-x.ensures.value (omega (arith, within, c.variable-x.ensures.value, c.self.invariant.places_long)) (omega (arith, c.len.ensures, inside.trail.ok.0)) open_l open_negated);
    }
