use Rattle.std.proofs.Common.{◌≡◌, ◌≤◌, ◌++◌, [], ◌∷◌, List, ℤ, cond, true, false, sym, ap, ◌∙◌, subst, refl, arith, is_ok, w64, to_z, of_z, rules}
use mir.Val.{SFits}
use Rattle.std.proofs.lemmas.Int.{to_z-of_z}
use Rattle.rat_candidates.specs.Kept.{IsHighest}
use Rattle.rat_candidates.proofs.KeptLaws.{highest_more}
use Rattle.rat_candidates.proofs.kept.KeptHints.keep.Goals as goal

pub invariant_of-self : goal.invariant_of-self
invariant_of-self c =
    let items = c.self.inside.hints.items in
    let hint = c.args.hint in
    let new = c.max-self-inside.result in
    let fits : SFits w64 hint = search rules in
    let same : to_z w64 (of_z w64 hint) ≡ hint = simp to_z-of_z refl in
    let up : c.self.inside.highest ≤ new = search rules in
    let here : c.args.id ≤ new = search rules in
    let longer : IsHighest (items ++ hint ∷ []) new = highest_more items hint c.args.id c.self.inside.highest new c.requires.names up here c.self.invariant in
    let pushed : c.push.new.self.items ≡ cond (is_ok c.push.result) (items ++ hint ∷ []) items = c.push.ensures.items ∙ ap (λ (z : ℤ). cond (is_ok c.push.result) (items ++ z ∷ []) items) same in
    subst (λ (hs : List ℤ). IsHighest hs new) (sym pushed)
    (elim (is_ok c.push.result) as (λ b. IsHighest (cond b (items ++ hint ∷ []) items) new) [
      | true ↦ longer
      | false ↦ λ k there. omega (arith, c.self.invariant k there, up)
    ])
