-- A system that is restricted to a closed set of its nodes is a system within the same limits.
use Rattle.std.proofs.Common.{◌≡◌, ℕ, ◌+◌, ◌≤◌, ◌==◌, true, false, List, [], ◌∷◌, length, map, refl, sym, ◌∙◌, ap, ap₂, subst, arith, Option, Some, None}
use Rattle.std.specs.Prelude.{IfSome, IsTrue, option_map, max}
use Rattle.std.proofs.lemmas.Bool.{or_left, or_right, eq-eqb}
use Rattle.std.proofs.lemmas.List.{length-map}
use Rattle.std.proofs.lemmas.Option.{slice_get_within, get_or_from_slice_get}
use Rattle.fbas_model.specs.Nodes.{◌⊆◌, Table, members, size}
use Rattle.fbas_model.specs.Trees.{QuorumSet, quorum_set, Entries, none, node, inner}
use Rattle.fbas_model.specs.QuorumSets.{mentioned, mentioned_by, IsBelow, AreBelow, depth, depth_of, all_entries, all_entries_of}
use Rattle.fbas_model.specs.Names.{Name, is_key}
use Rattle.fbas_model.specs.Fbas.{Fbas, IsClosed}
use Rattle.fbas_model.specs.Systems.{entries_in, IsWithin, IsSystem}
use Rattle.fbas_model.specs.Restriction.{kept, renumbered, renumbered_all, restricted_sets}
use Rattle.fbas_model.proofs.Kept.{length-kept, kept_le, rank_lt, All-kept, kept_all}

mutual
  -- the ranks of marked nodes are below the number of marks
  pub renumbered_below : (t : Table) (q : QuorumSet) → mentioned q ⊆ members t → IsBelow (size t) (renumbered t q)
  renumbered_below t (quorum_set k entries) h = renumbered_all_below t entries h

  pub renumbered_all_below : (t : Table) (entries : Entries) → mentioned_by entries ⊆ members t → AreBelow (size t) (renumbered_all t entries)
  renumbered_all_below t none h = tt
  renumbered_all_below t (node w rest) h = (
    rank_lt t w (h w (or_left (w == w) (mentioned_by rest w) (eq-eqb w w refl))),
    renumbered_all_below t rest (λ x at. h x (or_right (x == w) (mentioned_by rest x) at)),
  )
  renumbered_all_below t (inner q rest) h = (
    renumbered_below t q (λ x at. h x (or_left (mentioned q x) (mentioned_by rest x) at)),
    renumbered_all_below t rest (λ x at. h x (or_right (mentioned q x) (mentioned_by rest x) at)),
  )

mutual
  pub depth-renumbered : (t : Table) (q : QuorumSet) → depth (renumbered t q) ≡ depth q
  depth-renumbered t (quorum_set k entries) = ap {B = ℕ} (λ (n : ℕ). 1 + n) (depth_of-renumbered t entries)

  pub depth_of-renumbered : (t : Table) (entries : Entries) → depth_of (renumbered_all t entries) ≡ depth_of entries
  depth_of-renumbered t none = refl
  depth_of-renumbered t (node w rest) = depth_of-renumbered t rest
  depth_of-renumbered t (inner q rest) = ap₂ max (depth-renumbered t q) (depth_of-renumbered t rest)

mutual
  pub all_entries-renumbered : (t : Table) (q : QuorumSet) → all_entries (renumbered t q) ≡ all_entries q
  all_entries-renumbered t (quorum_set k entries) = all_entries_of-renumbered t entries

  pub all_entries_of-renumbered : (t : Table) (entries : Entries) → all_entries_of (renumbered_all t entries) ≡ all_entries_of entries
  all_entries_of-renumbered t none = refl
  all_entries_of-renumbered t (node w rest) = omega (arith, all_entries_of-renumbered t rest)
  all_entries_of-renumbered t (inner q rest) = omega (arith, all_entries-renumbered t q, all_entries_of-renumbered t rest)

fewer_entries : (t ms : Table) (f : Fbas) → entries_in (kept ms (map (option_map (renumbered t)) f)) ≤ entries_in f
fewer_entries t [] f = omega arith
fewer_entries t (m ∷ ms) [] = omega arith
fewer_entries t (true ∷ ms) (None ∷ f) = fewer_entries t ms f
fewer_entries t (true ∷ ms) (Some q ∷ f) = omega (arith, all_entries-renumbered t q, fewer_entries t ms f)
fewer_entries t (false ∷ ms) (None ∷ f) = fewer_entries t ms f
fewer_entries t (false ∷ ms) (Some q ∷ f) = omega (arith, fewer_entries t ms f)

-- as many quorum sets as marks
pub length-restricted_sets : (t : Table) (f : Fbas) → length t ≡ length f → length (restricted_sets t f) ≡ size t
length-restricted_sets t f e = length-kept t (map (option_map (renumbered t)) f) (e ∙ sym (length-map f (option_map (renumbered t))))

within_there : (t : Table) (n m : ℕ) (o : Option QuorumSet) → m ≡ size t → ((d : QuorumSet) → o ≡ Some d → mentioned d ⊆ members t) → IfSome o (IsWithin n) → IfSome (option_map (renumbered t) o) (IsWithin m)
within_there t n m None e closed h = tt
within_there t n m (Some d) e closed h = record {
  below = subst (λ (k : ℕ). IsBelow k (renumbered t d)) (sym e) (renumbered_below t d (closed d refl));
  shallow = omega (arith, depth-renumbered t d, h.shallow);
}

pub restricted_system : (t : Table) (names : List Name) (f : Fbas) → length t ≡ length f → IsClosed f (members t) → IsSystem names f → IsSystem (kept t names) (restricted_sets t f)
restricted_system t names f e closed s =
    let n : length (kept t names) ≡ size t = length-kept t names (e ∙ s.places) in
    record {
      places = length-restricted_sets t f e ∙ sym n;
      keys = All-kept (λ (name : Name). IsTrue (is_key name)) t names s.keys;
      few = omega (arith, kept_le t names, s.few);
      within =
          kept_all (option_map (renumbered t)) (λ o. IfSome o (IsWithin (length (kept t names)))) t f (λ v o here at.
          within_there t (length names) (length (kept t names)) o n
          (λ d is. closed v d here (at ∙ ap Some is)) (subst (λ (x : Option QuorumSet). IfSome x (IsWithin (length names))) (get_or_from_slice_get f v o o at) (s.within v o (slice_get_within f v o at))));
      entries = omega (arith, fewer_entries t t f, s.entries);
    }
