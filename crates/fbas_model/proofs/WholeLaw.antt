-- The restriction of a system to all of its nodes is the system.
use Rattle.std.proofs.Common.{◌≡◌, ℕ, zero, suc, ◌≤◌, true, List, [], ◌∷◌, length, map, take, refl, sym, ◌∙◌, ap, ap₂, subst, arith, Option, Some, None}
use Rattle.std.specs.Prelude.{All, IfSome}
use Rattle.std.specs.Option.{option_map}
use Rattle.std.proofs.lemmas.List.Elements.{All-head, All-tail}
use Rattle.fbas_model.specs.Trees.{QuorumSet, quorum_set, Entries, none, node, inner}
use Rattle.fbas_model.specs.QuorumSets.{IsBelow, AreBelow}
use Rattle.fbas_model.specs.Fbas.{Fbas}
use Rattle.fbas_model.specs.Names.{Name}
use Rattle.fbas_model.specs.Systems.{System, IsSystem, IsWithin}
use Rattle.fbas_model.specs.Restriction.{everyone, kept, rank, renumbered, renumbered_all, restricted_sets, restricted}
use Rattle.fbas_model.proofs.Sizes.{size-cons}

-- every node keeps its number
rank-everyone : (sets : Fbas) (v : ℕ) → v ≤ length sets → rank (everyone sets) v ≡ v
rank-everyone sets zero h = refl
rank-everyone [] (suc v) h = absurd (omega arith)
rank-everyone (o ∷ sets) (suc v) h = omega (arith, size-cons true (take v (everyone sets)), rank-everyone sets v (omega arith))

-- every item is kept
pub kept-everyone : {A : Type 0} (sets : Fbas) (xs : List A) → length xs ≡ length sets → kept (everyone sets) xs ≡ xs
kept-everyone [] [] e = refl
kept-everyone [] (x ∷ xs) e = absurd (omega arith)
kept-everyone (o ∷ sets) [] e = absurd (omega arith)
kept-everyone (o ∷ sets) (x ∷ xs) e = ap (λ ys. x ∷ ys) (kept-everyone sets xs (omega arith))

module _ (sets : Fbas) where
  mutual
    renumbered-everyone : (q : QuorumSet) → IsBelow (length sets) q → renumbered (everyone sets) q ≡ q
    renumbered-everyone (quorum_set k entries) h = ap (quorum_set k) (renumbered_all-everyone entries h)

    renumbered_all-everyone : (e : Entries) → AreBelow (length sets) e → renumbered_all (everyone sets) e ≡ e
    renumbered_all-everyone none h = refl
    renumbered_all-everyone (node w rest) h = let low : w ≤ length sets = omega (arith, h.0) in ap₂ node (rank-everyone sets w low) (renumbered_all-everyone rest h.1)
    renumbered_all-everyone (inner q rest) h = ap₂ inner (renumbered-everyone q h.0) (renumbered_all-everyone rest h.1)

  set-everyone : (o : Option QuorumSet) → IfSome o (IsWithin (length sets)) → option_map (renumbered (everyone sets)) o ≡ o
  set-everyone None h = refl
  set-everyone (Some q) h = ap Some (renumbered-everyone q h.below)

  sets-everyone : (os : Fbas) → All (λ o. IfSome o (IsWithin (length sets))) os → map (option_map (renumbered (everyone sets))) os ≡ os
  sets-everyone [] h = refl
  sets-everyone (o ∷ os) h = ap₂ (λ (x : Option QuorumSet) (xs : Fbas). x ∷ xs) (set-everyone o (All-head (λ o. IfSome o (IsWithin (length sets))) o os h)) (sets-everyone os (All-tail (λ o. IfSome o (IsWithin (length sets))) o os h))

pub restricted_to_everyone : (s : System) → IsSystem s.names s.sets → restricted (everyone s.sets) s ≡ s
restricted_to_everyone s is = whole (kept-everyone s.sets s.names (sym is.places)) (ap (kept (everyone s.sets)) (sets-everyone s.sets s.sets (within is)) ∙ kept-everyone s.sets s.sets refl)
  where
    within : IsSystem s.names s.sets → All (λ o. IfSome o (IsWithin (length s.sets))) s.sets
    within is = subst (λ (n : ℕ). All (λ o. IfSome o (IsWithin n)) s.sets) (sym is.places) is.within

    whole : kept (everyone s.sets) s.names ≡ s.names → restricted_sets (everyone s.sets) s.sets ≡ s.sets → restricted (everyone s.sets) s ≡ s
    whole d e = ap₂ (λ (names : List Name) (sets : Fbas). let made : System = record { names = names; sets = sets } in made) d e
