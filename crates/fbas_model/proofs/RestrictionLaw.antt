-- The quorums of a system that is restricted to a closed set are the quorums of the whole system that lie in that set.
use Rattle.std.proofs.Common.{◌≡◌, ℕ, ◌+◌, ◌<◌, ◌==◌, ◌↔◌, inl, inr, Bool, false, not, ◌&&◌, ◌||◌, cond, length, map, refl, sym, ◌∙◌, ap, ap₂, subst, arith, leb, Option, Some, None, slice_get, zero-add}
use Rattle.std.specs.Prelude.{option_map}
use Rattle.std.proofs.lemmas.Bool.{cases_Bool, both_ways, or_left, or_right, eq-eqb, and_parts, and_from, lt-ltb, ltb-true, false_from_ne_true}
use Rattle.std.proofs.lemmas.Option.{slice_get-map, slice_get-get_or, get_or_from_slice_get}
use mathlib.Core.Path.{fun_ext}
use Rattle.fbas_model.specs.Nodes.{Nodes, ◌∈◌, ◌⊆◌, ◌∪◌, Table, members, size}
use Rattle.fbas_model.specs.Trees.{QuorumSet, quorum_set, Entries, none, node, inner}
use Rattle.fbas_model.specs.QuorumSets.{HasChoiceWithin, mentioned, mentioned_by}
use Rattle.fbas_model.specs.Counting.{is_satisfied, count_met}
use Rattle.fbas_model.specs.Fbas.{Fbas, HasQuorumSet, HasSliceWithin, Quorum, IsClosed, all_nodes}
use Rattle.fbas_model.specs.Restriction.{table_from, kept, rank, renumbered, renumbered_all, restricted_sets, raised}
use Rattle.fbas_model.proofs.Counting.{choice_satisfied, satisfied_choice}
use Rattle.fbas_model.proofs.Slices.{slice_iff, slice_self}
use Rattle.fbas_model.proofs.Sizes.{member_lt}
use Rattle.fbas_model.proofs.Kept.{length-kept, kept_at, ranked}
use Rattle.fbas_model.proofs.Tables.{length-table_from, members-table_from}
use Rattle.fbas_model.proofs.Renumbered.{length-restricted_sets}

-- on the nodes of `among`, u says of a node what s says of its rank
abbrev Says : Table → Nodes → Nodes → Nodes → Type 0
Says t among u s = (x : ℕ) → x ∈ among → u x ≡ s (rank t x)

mutual
  satisfied-renumbered : (t : Table) (u s : Nodes) (q : QuorumSet) → Says t (mentioned q) u s → is_satisfied s (renumbered t q) ≡ is_satisfied u q
  satisfied-renumbered t u s (quorum_set k entries) h = ap (λ (n : ℕ). leb 1 k && leb k n) (met-renumbered t u s entries h)

  met-renumbered : (t : Table) (u s : Nodes) (entries : Entries) → Says t (mentioned_by entries) u s → count_met s (renumbered_all t entries) ≡ count_met u entries
  met-renumbered t u s none h = refl
  met-renumbered t u s (node w rest) h =
      ap₂ {C = ℕ} (λ (b : Bool) (n : ℕ). cond b 1 0 + n) (sym (h w (or_left (w == w) (mentioned_by rest w) (eq-eqb w w refl)))) (met-renumbered t u s rest (λ x at. h x (or_right (x == w) (mentioned_by rest x) at)))
  met-renumbered t u s (inner q rest) h =
      ap₂ {C = ℕ} (λ (b : Bool) (n : ℕ). cond b 1 0 + n) (satisfied-renumbered t u s q (λ x at. h x (or_left (mentioned q x) (mentioned_by rest x) at))) (met-renumbered t u s rest (λ x at. h x (or_right (mentioned q x) (mentioned_by rest x) at)))

pub choice-renumbered : (t : Table) (u s : Nodes) (q : QuorumSet) → ((x : ℕ) → x ∈ mentioned q → u x ≡ s (rank t x)) → HasChoiceWithin (renumbered t q) s ↔ HasChoiceWithin q u
choice-renumbered t u s q h =
    let e = satisfied-renumbered t u s q h in (
      λ c. satisfied_choice u q (sym e ∙ choice_satisfied s c.1 c.2),
      λ c. satisfied_choice s (renumbered t q) (e ∙ choice_satisfied u c.1 c.2),
    )

-- ---- the sets that stand for one another

-- a marked node is in the raised set where its rank is in the set
pub raised_at : (t : Table) (w : Nodes) (v : ℕ) → v ∈ members t → raised t w v ≡ w (rank t v)
raised_at t w v h = ap (λ (b : Bool). b && w (rank t v)) h

pub raised_within : (t : Table) (w : Nodes) → raised t w ⊆ members t
raised_within t w v h = (and_parts (members t v) (w (rank t v)) h).0

-- a marked node is in a set where its rank is in what is kept of it
pub members-kept : (t b : Table) (v : ℕ) → length b ≡ length t → v ∈ members t → members (kept t b) (rank t v) ≡ members b v
members-kept t b v e h =
    let low : v < length b = omega (arith, member_lt t v h) in
    let here = slice_get-get_or b v false low in
    get_or_from_slice_get (kept t b) (rank t v) (members b v) false (kept_at t b v h ∙ here)

pub set_there : (t : Table) (f : Fbas) (v : ℕ) (d : QuorumSet) → v ∈ members t → HasQuorumSet f v d → HasQuorumSet (restricted_sets t f) (rank t v) (renumbered t d)
set_there t f v d h has = kept_at t (map (option_map (renumbered t)) f) v h ∙ (slice_get-map (option_map (renumbered t)) f v ∙ ap (option_map (option_map (renumbered t))) has)

of_some : (t : Table) (o : Option (Option QuorumSet)) (d : QuorumSet) → option_map (option_map (renumbered t)) o ≡ Some (Some d) → (whole : QuorumSet) × (o ≡ Some (Some whole))
of_some t None d e = absurd cc
of_some t (Some None) d e = absurd cc
of_some t (Some (Some whole)) d e = (whole, refl)

-- the quorum set that a kept node has in the part is the one that it has in the whole, with the ranks of its nodes
set_of : (t : Table) (f : Fbas) (v : ℕ) (d : QuorumSet) → v ∈ members t → HasQuorumSet (restricted_sets t f) (rank t v) d → (whole : QuorumSet) × HasQuorumSet f v whole
set_of t f v d h has = of_some t (slice_get f v) d (sym (slice_get-map (option_map (renumbered t)) f v) ∙ (sym (kept_at t (map (option_map (renumbered t)) f) v h) ∙ has))

-- in a slice of the part, as in one of the whole
one_side : (t b : Table) (w : Nodes) (v : ℕ) → length b ≡ length t → v ∈ members t → (raised t w ∪ members b) v ≡ (w ∪ members (kept t b)) (rank t v)
one_side t b w v e h = ap₂ (λ (x y : Bool). x || y) (raised_at t w v h) (sym (members-kept t b v e h))

pub slice-restricted : (t b : Table) (f : Fbas) (w : Nodes) (v : ℕ) → length t ≡ length f → length b ≡ length f → IsClosed f (members t) → v ∈ members t → HasSliceWithin (restricted_sets t f) (members (kept t b)) (rank t v) w ↔ HasSliceWithin f (members b) v (raised t w)
slice-restricted t b f w v e g closed here =
    let part = restricted_sets t f in
    let same = one_side t b w v (g ∙ sym e) here in (
      λ h.
          let set = set_of t f v h.1.0 here h.1.1 in
          let law = choice-renumbered t (raised t w ∪ members b) (w ∪ members (kept t b)) set.0 (λ x at. one_side t b w x (g ∙ sym e) (closed v set.0 here set.1 x at)) in
          let inside = slice_self part (members (kept t b)) w (rank t v) h in
          let there = slice_iff part (members (kept t b)) w (rank t v) (renumbered t set.0) (set_there t f v set.0 here set.1) inside in
          (slice_iff f (members b) (raised t w) v set.0 set.1 (same ∙ inside)).0 (law.0 (there.1 h)),
      λ h.
          let d = h.1.0 in
          let law = choice-renumbered t (raised t w ∪ members b) (w ∪ members (kept t b)) d (λ x at. one_side t b w x (g ∙ sym e) (closed v d here h.1.1 x at)) in
          let inside = slice_self f (members b) (raised t w) v h in
          let whole = slice_iff f (members b) (raised t w) v d h.1.1 inside in
          (slice_iff part (members (kept t b)) w (rank t v) (renumbered t d) (set_there t f v d here h.1.1) (sym same ∙ inside)).0 (law.1 (whole.1 h)),
    )

pub quorum-restricted : (t b : Table) (f : Fbas) (w : Nodes) → length t ≡ length f → length b ≡ length f → IsClosed f (members t) → w ⊆ all_nodes (restricted_sets t f) → Quorum (restricted_sets t f) (members (kept t b)) w ↔ Quorum f (members b) (raised t w)
quorum-restricted t b f w e g closed within =
    let part = restricted_sets t f in
    let n = length-restricted_sets t f e in
    let low : (y : ℕ) → y ∈ w → y < size t = λ y at. subst (λ (k : ℕ). y < k) n (ltb-true y (length part) (within y at)) in (
      λ q. record {
        inhabited =
            let r = ranked t q.inhabited.0 (low q.inhabited.0 q.inhabited.1) in
            (r.0, raised_at t w r.0 r.1 ∙ (ap w r.2 ∙ q.inhabited.1));
        left = λ v at.
            let here = raised_within t w v at in
            let there = and_parts (all_nodes part (rank t v)) (not (members (kept t b) (rank t v))) (q.left (rank t v) (sym (raised_at t w v here) ∙ at)) in
            and_from (all_nodes f v) (not (members b v)) (lt-ltb v (length f) (subst (λ (k : ℕ). v < k) e (member_lt t v here))) (ap not (sym (members-kept t b v (g ∙ sym e) here)) ∙ there.1);
        slices = λ v at.
            let here = raised_within t w v at in
            (slice-restricted t b f w v e g closed here).0 (q.slices (rank t v) (sym (raised_at t w v here) ∙ at));
      },
      λ q. record {
        inhabited =
            let v = q.inhabited.0 in
            let here = raised_within t w v q.inhabited.1 in
            (rank t v, sym (raised_at t w v here) ∙ q.inhabited.1);
        left = λ y at.
            let r = ranked t y (low y at) in
            let up : r.0 ∈ raised t w = raised_at t w r.0 r.1 ∙ (ap w r.2 ∙ at) in
            let out = and_parts (all_nodes f r.0) (not (members b r.0)) (q.left r.0 up) in
            and_from (all_nodes part y) (not (members (kept t b) y)) (within y at) (ap (λ (k : ℕ). not (members (kept t b) k)) (sym r.2) ∙ (ap not (members-kept t b r.0 (g ∙ sym e) r.1) ∙ out.1));
        slices = λ y at.
            let r = ranked t y (low y at) in
            let up : r.0 ∈ raised t w = raised_at t w r.0 r.1 ∙ (ap w r.2 ∙ at) in
            subst (λ (k : ℕ). HasSliceWithin part (members (kept t b)) k w) r.2 ((slice-restricted t b f w r.0 e g closed r.1).1 (q.slices r.0 up));
      },
    )

-- ---- each set of marked nodes is a raised one

pub raised-onto : (t : Table) (f : Fbas) (u : Nodes) → length t ≡ length f → u ⊆ members t → (w : Nodes) × w ⊆ all_nodes (restricted_sets t f) × (u ≡ raised t w)
raised-onto t f u e within =
    let b = table_from 0 (length t) u in
    let w = members (kept t b) in
    let n = length-table_from 0 (length t) u in (
      w,
      λ y at. lt-ltb y (length (restricted_sets t f)) (subst (λ (k : ℕ). y < k) (length-kept t b (sym n) ∙ sym (length-restricted_sets t f e)) (member_lt (kept t b) y at)),
      fun_ext (λ v. elim (cases_Bool (members t v)) [
        | inl here ↦ sym (raised_at t w v here ∙ (members-kept t b v n here ∙ (members-table_from 0 (length t) u v (member_lt t v here) ∙ ap u (zero-add v))))
        | inr out ↦ false_from_ne_true (u v) (λ at. both_ways (members t v) out (within v at)) ∙ sym (ap (λ (m : Bool). m && w (rank t v)) out)
      ]),
    )
