-- The trust closure of a node is the least closed set that holds it.
use Rattle.std.proofs.Common.{◌≡◌, ℕ, zero, suc, ◌+◌, ◌<◌, ◌≤◌, ◌⊎◌, inl, inr, Bool, true, false, ◌||◌, List, [], ◌∷◌, length, refl, sym, ◌∙◌, ap, subst, arith, Option, Some, None, zero-add}
use Rattle.std.specs.Prelude.{IfSome}
use Rattle.std.specs.Fn.{iterate}
use Rattle.std.proofs.lemmas.Bool.{false≢true, or_cases, or_left, or_right, eq-eqb, eqb-true, ltb-true}
use Rattle.std.proofs.lemmas.Option.{slice_get_within, get_or_from_slice_get}
use Rattle.std.proofs.lemmas.List.Sums.{count_by-le-length}
use Rattle.std.specs.Cmp.{both_ways}
use Rattle.fbas_model.specs.Nodes.{Nodes, ◌∈◌, ◌⊆◌, ◌∪◌, only, Table, members, size}
use Rattle.fbas_model.specs.Trees.{QuorumSet}
use Rattle.fbas_model.specs.QuorumSets.{mentioned, IsBelow}
use Rattle.fbas_model.specs.Names.{Name}
use Rattle.fbas_model.specs.Fbas.{Fbas, HasQuorumSet, IsClosed, IsClosure}
use Rattle.fbas_model.specs.Systems.{IsWithin, IsSystem}
use Rattle.fbas_model.specs.Restriction.{mentioned_from, table_from, with_mentioned, closure_of}
use Rattle.fbas_model.proofs.Sizes.{size-cons, size_le, member_lt}
use Rattle.fbas_model.proofs.Mentioned.{mentioned_below}
use Rattle.fbas_model.proofs.Tables.{table_ext, length-table_from, members-table_from}

-- ---- what the quorum sets at marked places mention

mentioned_at : (t : Table) (f : Fbas) (w : ℕ) (d : QuorumSet) → w ∈ members t → HasQuorumSet f w d → mentioned d ⊆ mentioned_from t f
mentioned_at [] f w d h has x at = absurd (false≢true h)
mentioned_at (m ∷ ms) [] w d h has x at = absurd cc
mentioned_at (false ∷ ms) (o ∷ f) zero d h has x at = absurd (false≢true h)
mentioned_at (false ∷ ms) (o ∷ f) (suc w) d h has x at = mentioned_at ms f w d h has x at
mentioned_at (true ∷ ms) (None ∷ f) zero d h has x at = absurd cc
mentioned_at (true ∷ ms) (None ∷ f) (suc w) d h has x at = mentioned_at ms f w d h has x at
mentioned_at (true ∷ ms) (Some q ∷ f) zero d h has x at = let same : d ≡ q = cc in or_left (mentioned q x) (mentioned_from ms f x) (subst (λ (e : QuorumSet). x ∈ mentioned e) same at)
mentioned_at (true ∷ ms) (Some q ∷ f) (suc w) d h has x at = or_right (mentioned q x) (mentioned_from ms f x) (mentioned_at ms f w d h has x at)

-- what a marked node's quorum set mentions is in the set
abbrev Holds : Table → Fbas → Nodes → Type 0
Holds t f s = (w : ℕ) (d : QuorumSet) → w ∈ members t → HasQuorumSet f w d → mentioned d ⊆ s

mentioned_within : (t : Table) (f : Fbas) (s : Nodes) → Holds t f s → mentioned_from t f ⊆ s
mentioned_within [] f s h x at = absurd (false≢true at)
mentioned_within (m ∷ ms) [] s h x at = elim m as (λ (b : Bool). x ∈ mentioned_from (b ∷ ms) [] → x ∈ s) [ true ↦ λ e. absurd (false≢true e) | false ↦ λ e. absurd (false≢true e) ] at
mentioned_within (false ∷ ms) (o ∷ f) s h x at = mentioned_within ms f s (λ w. h (suc w)) x at
mentioned_within (true ∷ ms) (None ∷ f) s h x at = mentioned_within ms f s (λ w. h (suc w)) x at
mentioned_within (true ∷ ms) (Some q ∷ f) s h x at = elim (or_cases (mentioned q x) (mentioned_from ms f x) at) [
  | inl e ↦ h 0 q refl refl x e
  | inr e ↦ mentioned_within ms f s (λ w. h (suc w)) x e
]

-- ---- one step

length-with : (f : Fbas) (t : Table) → length (with_mentioned f t) ≡ length f
length-with f t = length-table_from 0 (length f) (members t ∪ mentioned_from t f)

members-with : (f : Fbas) (t : Table) (x : ℕ) → x < length f → members (with_mentioned f t) x ≡ (members t x || mentioned_from t f x)
members-with f t x h = members-table_from 0 (length f) (members t ∪ mentioned_from t f) x h ∙ ap (members t ∪ mentioned_from t f) (zero-add x)

grows : (f : Fbas) (t : Table) → length t ≡ length f → members t ⊆ members (with_mentioned f t)
grows f t e x at = members-with f t x (subst (λ (k : ℕ). x < k) e (member_lt t x at)) ∙ or_left (members t x) (mentioned_from t f x) at

stays_within : (f : Fbas) (t : Table) (s : Nodes) → IsClosed f s → members t ⊆ s → members (with_mentioned f t) ⊆ s
stays_within f t s closed h x at =
    let low : x < length f = subst (λ (k : ℕ). x < k) (length-with f t) (member_lt (with_mentioned f t) x at) in
    elim (or_cases (members t x) (mentioned_from t f x) (sym (members-with f t x low) ∙ at)) [
      | inl e ↦ h x e
      | inr e ↦ mentioned_within t f s (λ w d here. closed w d (h w here)) x e
    ]

-- ---- many steps

length-iterate : (f : Fbas) (k : ℕ) (t : Table) → length t ≡ length f → length (iterate (with_mentioned f) k t) ≡ length f
length-iterate f zero t e = e
length-iterate f (suc k) t e = length-iterate f k (with_mentioned f t) (length-with f t)

iterate_grows : (f : Fbas) (k : ℕ) (t : Table) → length t ≡ length f → members t ⊆ members (iterate (with_mentioned f) k t)
iterate_grows f zero t e x at = at
iterate_grows f (suc k) t e x at = iterate_grows f k (with_mentioned f t) (length-with f t) x (grows f t e x at)

iterate_within : (f : Fbas) (k : ℕ) (t : Table) (s : Nodes) → IsClosed f s → members t ⊆ s → members (iterate (with_mentioned f) k t) ⊆ s
iterate_within f zero t s closed h = h
iterate_within f (suc k) t s closed h = iterate_within f k (with_mentioned f t) s closed (stays_within f t s closed h)

iterate_fixed : (f : Fbas) (k : ℕ) (t : Table) → with_mentioned f t ≡ t → iterate (with_mentioned f) k t ≡ t
iterate_fixed f zero t e = refl
iterate_fixed f (suc k) t e = ap (iterate (with_mentioned f) k) e ∙ iterate_fixed f k t e

-- a set is another one, or has fewer members
same_or_less : (s t : Table) → length s ≡ length t → members s ⊆ members t → (s ≡ t) ⊎ (size s < size t)
same_or_less [] [] e h = inl refl
same_or_less [] (y ∷ ys) e h = absurd (omega arith)
same_or_less (x ∷ xs) [] e h = absurd (omega arith)
same_or_less (true ∷ xs) (false ∷ ys) e h = absurd (false≢true (h 0 refl))
same_or_less (false ∷ xs) (true ∷ ys) e h = inr (omega (arith, size-cons false xs, size-cons true ys, size_le xs ys (omega arith) (λ v. h (suc v))))
same_or_less (true ∷ xs) (true ∷ ys) e h = elim (same_or_less xs ys (omega arith) (λ v. h (suc v))) [
  | inl p ↦ inl (ap (λ (ms : Table). true ∷ ms) p)
  | inr l ↦ inr (omega (arith, size-cons true xs, size-cons true ys))
]
same_or_less (false ∷ xs) (false ∷ ys) e h = elim (same_or_less xs ys (omega arith) (λ v. h (suc v))) [
  | inl p ↦ inl (ap (λ (ms : Table). false ∷ ms) p)
  | inr l ↦ inr (omega (arith, size-cons false xs, size-cons false ys))
]

-- after k steps nothing more comes, or k members came
settled_or_more : (f : Fbas) (k : ℕ) (t : Table) → length t ≡ length f → (with_mentioned f (iterate (with_mentioned f) k t) ≡ iterate (with_mentioned f) k t) ⊎ (size t + k ≤ size (iterate (with_mentioned f) k t))
settled_or_more f zero t e = inr (omega arith)
settled_or_more f (suc k) t e = elim (same_or_less t (with_mentioned f t) (e ∙ sym (length-with f t)) (grows f t e)) [
  | inl p ↦ inl (let fixed = iterate_fixed f (suc k) t (sym p) in ap (with_mentioned f) fixed ∙ (sym p ∙ sym fixed))
  | inr l ↦ elim (settled_or_more f k (with_mentioned f t) (length-with f t)) [
    | inl p ↦ inl p
    | inr m ↦ inr (omega arith)
  ]
]

-- ---- the closure

-- the nodes in quorum sets are nodes of the system
abbrev pub MentionsNodes : Fbas → Type 0
MentionsNodes f = (w : ℕ) (d : QuorumSet) → HasQuorumSet f w d → IsBelow (length f) d

pub system_mentions_nodes : (names : List Name) (f : Fbas) → IsSystem names f → MentionsNodes f
system_mentions_nodes names f s w d has =
    let within : IfSome (Some d) (IsWithin (length names)) = subst (λ (o : Option QuorumSet). IfSome o (IsWithin (length names))) (get_or_from_slice_get f w (Some d) (Some d) has) (s.within w (Some d) (slice_get_within f w (Some d) has)) in
    subst (λ (n : ℕ). IsBelow n d) (sym s.places) within.below

pub length-closure_of : (f : Fbas) (v : ℕ) → length (closure_of f v) ≡ length f
unfolding closure_of
length-closure_of f v = length-iterate f (length f) (table_from 0 (length f) (only v)) (length-table_from 0 (length f) (only v))

pub size_le_length : (t : Table) → size t ≤ length t
size_le_length t = count_by-le-length (λ (m : Bool). m) t

some_member : (t : Table) (v : ℕ) → v ∈ members t → 1 ≤ size t
some_member [] v h = absurd (false≢true h)
some_member (true ∷ ms) v h = omega (arith, size-cons true ms)
some_member (false ∷ ms) zero h = absurd (false≢true h)
some_member (false ∷ ms) (suc v) h = omega (arith, size-cons false ms, some_member ms v h)

-- where one more step brings nothing, the set is closed
settled_closed : (f : Fbas) (t : Table) → MentionsNodes f → with_mentioned f t ≡ t → IsClosed f (members t)
settled_closed f t below e w d here has x at =
    let low : x < length f = ltb-true x (length f) (mentioned_below (length f) d (below w d has) x at) in
    ap (λ (s : Table). members s x) (sym e) ∙ (members-with f t x low ∙ or_right (members t x) (mentioned_from t f x) (mentioned_at t f w d here has x at))

pub closure_of-closure : (f : Fbas) (v : ℕ) → v < length f → MentionsNodes f → IsClosure f v (members (closure_of f v))
unfolding closure_of
closure_of-closure f v low below =
    let start = table_from 0 (length f) (only v) in
    let n = length-table_from 0 (length f) (only v) in
    let last = iterate (with_mentioned f) (length f) start in
    let here : v ∈ members start = members-table_from 0 (length f) (only v) v low ∙ eq-eqb (0 + v) v (zero-add v) in
    record {
      has = iterate_grows f (length f) start n v here;
      closed = elim (settled_or_more f (length f) start n) [
        | inl e ↦ settled_closed f last below e
        | inr m ↦ absurd (omega (arith, some_member start v here, size_le_length last, length-iterate f (length f) start n))
      ];
      least = λ other v_in closed. iterate_within f (length f) start other closed (λ x at.
          let lowx : x < length f = subst (λ (k : ℕ). x < k) n (member_lt start x at) in
          let same : 0 + x ≡ v = eqb-true (0 + x) v (sym (members-table_from 0 (length f) (only v) x lowx) ∙ at) in
          subst (λ (y : ℕ). y ∈ other) (sym same ∙ zero-add x) v_in);
    }

-- two closures have the same members
pub closure_same : (f : Fbas) (v : ℕ) (s t : Nodes) → IsClosure f v s → IsClosure f v t → (x : ℕ) → s x ≡ t x
closure_same f v s t p q x = both_ways (s x) (t x) (p.least t q.has q.closed x) (q.least s p.has p.closed x)

-- a table of the least closed set is the closure
pub closure_of-unique : (f : Fbas) (v : ℕ) (t : Table) → v < length f → MentionsNodes f → length t ≡ length f → IsClosure f v (members t) → t ≡ closure_of f v
closure_of-unique f v t low below e c = table_ext t (closure_of f v) (e ∙ sym (length-closure_of f v)) (closure_same f v (members t) (members (closure_of f v)) c (closure_of-closure f v low below))
