-- A quorum set's two lists, once its nodes are named by their ranks.
use Rattle.std.proofs.Common.{◌≡◌, ℕ, ◌<◌, List, [], ◌∷◌, length, map, refl, sym, ◌∙◌, ap, subst}
use Rattle.std.specs.Prelude.{All, slice_index}
use Rattle.std.proofs.lemmas.List.Elements.{All-head, All-tail}
use Rattle.fbas_model.specs.Nodes.{Table}
use Rattle.fbas_model.specs.Trees.{QuorumSet, node, inner}
use Rattle.fbas_model.specs.Restriction.{renumbered, renumbered_all}
use Rattle.fbas_model.specs.Lists.{inner_entries, entries_of}
use Rattle.fbas_core.specs.Ranks.{AreRanks}

renumbered-inner : (t : Table) (qs : List QuorumSet) → renumbered_all t (inner_entries qs) ≡ inner_entries (map (renumbered t) qs)
renumbered-inner t [] = refl
renumbered-inner t (q ∷ qs) = ap (inner (renumbered t q)) (renumbered-inner t qs)

pub renumbered-lists : (t : Table) (ranks ws : List ℕ) (qs : List QuorumSet) → AreRanks t ranks → All (λ w. w < length ranks) ws → renumbered_all t (entries_of ws qs) ≡ entries_of (map (slice_index ranks) ws) (map (renumbered t) qs)
renumbered-lists t ranks [] qs are h = renumbered-inner t qs
renumbered-lists t ranks (w ∷ ws) qs are h =
    let low : w < length t = subst (λ (n : ℕ). w < n) are.same_n (All-head (λ w. w < length ranks) w ws h) in
    ap (λ (r : ℕ). node r (renumbered_all t (entries_of ws qs))) (sym (are.each w low)) ∙ ap (node (slice_index ranks w)) (renumbered-lists t ranks ws qs are (All-tail (λ w. w < length ranks) w ws h))
