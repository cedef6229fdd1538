-- The quorums by counting are the quorums.
use Rattle.std.proofs.Common.{◌≡◌, ℕ, zero, suc, ◌<◌, [], ◌∷◌, length, true, false, not, ◌&&◌, Some, None, slice_get, slice_index_or, refl, subst, arith}
use Rattle.std.proofs.lemmas.Bool.{and_parts, and_from, or_left, not_from_false, lt-ltb, ltb-true, not-true}
use Rattle.fbas_model.specs.Nodes.{Nodes, ◌∪◌, Table, members, IsInhabited}
use Rattle.fbas_model.specs.Trees.{QuorumSet}
use Rattle.fbas_model.specs.Fbas.{Fbas, all_nodes, Quorum}
use Rattle.fbas_model.proofs.Counting.{choice_satisfied, satisfied_choice}
use Rattle.fbas_model.proofs.Slices.{slice_iff}
use Rattle.fbas_model.specs.Counting.{is_satisfied, each_satisfied, is_inhabited, is_quorum}

-- a member's place
record Met (within : Nodes) (bs : Table) (ds : Fbas) (v : ℕ) : Type 0 where
  left : slice_index_or bs v false ≡ false
  below : v < length ds
  set : QuorumSet
  has : slice_get ds v ≡ Some (Some set)
  met : is_satisfied within set ≡ true

each-at : (w : Nodes) (us bs : Table) (ds : Fbas) → each_satisfied w us bs ds ≡ true → (v : ℕ) → slice_index_or us v false ≡ true → Met w bs ds v
each-at w [] bs ds h zero m = absurd cc
each-at w [] bs ds h (suc v) m = absurd cc
each-at w (u ∷ us) [] ds h v m = absurd cc
each-at w (u ∷ us) (b ∷ bs) [] h v m = absurd cc
each-at w (false ∷ us) (b ∷ bs) (d ∷ ds) h zero m = absurd cc
each-at w (false ∷ us) (b ∷ bs) (d ∷ ds) h (suc v) m =
    let r = each-at w us bs ds h v m in record { left = r.left; below = omega (arith, r.below); set = r.set; has = r.has; met = r.met }
each-at w (true ∷ us) (b ∷ bs) (None ∷ ds) h v m = let p = and_parts (not b) false h in absurd cc
each-at w (true ∷ us) (b ∷ bs) (Some d ∷ ds) h zero m =
    let p = and_parts (not b) (is_satisfied w d && each_satisfied w us bs ds) h in
    let q = and_parts (is_satisfied w d) (each_satisfied w us bs ds) p.1 in
    record { left = not-true b p.0; below = omega arith; set = d; has = refl; met = q.0 }
each-at w (true ∷ us) (b ∷ bs) (Some d ∷ ds) h (suc v) m =
    let p = and_parts (not b) (is_satisfied w d && each_satisfied w us bs ds) h in
    let q = and_parts (is_satisfied w d) (each_satisfied w us bs ds) p.1 in
    let r = each-at w us bs ds q.1 v m in record { left = r.left; below = omega (arith, r.below); set = r.set; has = r.has; met = r.met }

each-from : (w : Nodes) (us bs : Table) (ds : Fbas) → length bs ≡ length us → length ds ≡ length us → ((v : ℕ) → slice_index_or us v false ≡ true → Met w bs ds v) → each_satisfied w us bs ds ≡ true
each-from w [] bs ds p q all = refl
each-from w (u ∷ us) [] ds p q all = absurd (omega arith)
each-from w (u ∷ us) (b ∷ bs) [] p q all = absurd (omega arith)
each-from w (false ∷ us) (b ∷ bs) (d ∷ ds) p q all = each-from w us bs ds (omega arith) (omega arith) (λ v m. let r = all (suc v) m in record { left = r.left; below = omega (arith, r.below); set = r.set; has = r.has; met = r.met })
each-from w (true ∷ us) (b ∷ bs) (None ∷ ds) p q all = let r = all zero refl in let e = r.has in absurd cc
each-from w (true ∷ us) (b ∷ bs) (Some d ∷ ds) p q all =
    let r = all zero refl in
    let same : r.set ≡ d = let e = r.has in cc in
    let later = each-from w us bs ds (omega arith) (omega arith) (λ v m. let t = all (suc v) m in record { left = t.left; below = omega (arith, t.below); set = t.set; has = t.has; met = t.met }) in
    and_from (not b) (is_satisfied w d && each_satisfied w us bs ds) (not_from_false b r.left) (and_from (is_satisfied w d) (each_satisfied w us bs ds) (subst (λ (x : QuorumSet). is_satisfied w x ≡ true) same r.met) later)

inhabited-to : (u : Table) → is_inhabited u ≡ true → IsInhabited (members u)
inhabited-to [] h = absurd cc
inhabited-to (true ∷ us) h = (0, refl)
inhabited-to (false ∷ us) h = let r = inhabited-to us h in (suc r.0, r.1)

inhabited-from : (u : Table) (v : ℕ) → members u v ≡ true → is_inhabited u ≡ true
inhabited-from [] zero h = absurd cc
inhabited-from [] (suc v) h = absurd cc
inhabited-from (true ∷ us) v h = refl
inhabited-from (false ∷ us) zero h = absurd cc
inhabited-from (false ∷ us) (suc v) h = inhabited-from us v h

pub quorum-to : (f : Fbas) (b u : Table) → is_quorum f b u ≡ true → Quorum f (members b) (members u)
quorum-to f b u h =
    let w = members u ∪ members b in
    let p = and_parts (is_inhabited u) (each_satisfied w u b f) h in
    record {
      inhabited = inhabited-to u p.0;
      left = λ v m. let r = each-at w u b f p.1 v m in and_from (all_nodes f v) (not (members b v)) (lt-ltb v (length f) r.below) (not_from_false (members b v) r.left);
      slices = λ v m. let r = each-at w u b f p.1 v m in (slice_iff f (members b) (members u) v r.set r.has (or_left (members u v) (members b v) m)).0 (satisfied_choice w r.set r.met);
    }

pub quorum-from : (f : Fbas) (b u : Table) → length b ≡ length u → length f ≡ length u → Quorum f (members b) (members u) → is_quorum f b u ≡ true
quorum-from f b u p q quorum =
    let w = members u ∪ members b in
    and_from (is_inhabited u) (each_satisfied w u b f) (inhabited-from u quorum.inhabited.0 quorum.inhabited.1) (each-from w u b f p q (λ v m.
    let l = and_parts (all_nodes f v) (not (members b v)) (quorum.left v m) in
    let slice = (quorum.slices v m) in
    let d = slice.1.0 in
    let choice = (slice_iff f (members b) (members u) v d slice.1.1 (or_left (members u v) (members b v) m)).1 slice in
    record {
      left = not-true (members b v) l.1;
      below = ltb-true v (length f) l.0;
      set = d;
      has = slice.1.1;
      met = choice_satisfied w choice.1 choice.2;
    }))
