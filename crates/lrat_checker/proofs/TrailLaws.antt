-- Trails, whose literals have places.
use Rattle.std.proofs.Common.{◌≡◌, ◌≢◌, ℕ, ◌<◌, true, List, length, get_or, take, sym, ap, ◌∙◌, arith}
use Rattle.std.proofs.lemmas.List.{length-take-le, get_or-take, take-append-le, take_all}
use Rattle.std.specs.Prelude.{slice_index}
use Rattle.lrat_model.specs.Literal.{Literal, variable_of, has}
use Rattle.assignment_trail.specs.Assigned.{Assigned}
use Rattle.assignment_trail.specs.Values.{ArePlaces}
use Rattle.lrat_checker.specs.Extends.{Extends}
use Rattle.lrat_checker.proofs.SubsetLaws.{has-place}

-- no two literals of a trail have one variable
pub apart_by_places : (trail : List Literal) (places : List ℕ) → ArePlaces trail places → (place : ℕ) (d m : Literal) → place < length trail → has (take place trail) m ≡ true → variable_of m ≢ variable_of (get_or trail place d)
apart_by_places trail places placed place d m within there one =
    let at : (i : ℕ) × (i < length (take place trail)) × (get_or (take place trail) i m ≡ m) = has-place (take place trail) m there in
    let low : at.0 < place = omega (arith, at.1, length-take-le place trail (omega (arith, within))) in
    let is : get_or trail at.0 m ≡ m = sym (get_or-take place trail at.0 m low) ∙ at.2 in
    let first : slice_index places (variable_of m) ≡ at.0 = ap (λ (l : Literal). slice_index places (variable_of l)) (sym is) ∙ placed at.0 m (omega (arith, low, within)) in
    let second : slice_index places (variable_of m) ≡ place = ap (slice_index places) one ∙ placed place d within in
    absurd (omega (arith, first, second, low))

-- an assignment whose trail grew, and was cut to as many literals as it had
module _ (old grown : Assigned) (grows : Extends old.trues grown.trues) where
  pub restored : (new : Assigned) (count : ℕ) → count ≡ length old.trues → new.trues ≡ take count grown.trues → new.vars ≡ old.vars → new ≡ old
  restored new count is trues vars =
      let same : new.trues ≡ old.trues =
      trues ∙ ap (λ (ls : List Literal). take count ls) grows.1 ∙ take-append-le count old.trues grows.0 (omega (arith, is)) ∙ take_all count old.trues (omega (arith, is)) in
      ap (λ (ls : List Literal). record { vars = new.vars; trues = ls }) same ∙ ap (λ n. record { vars = n; trues = old.trues }) vars
