-- Least nodes, shared nodes and the order of a pair.
use Rattle.std.proofs.Common.{◌≡◌, ℕ, zero, suc, ◌+◌, ◌≤◌, ◌↔◌, IsTrue, [], ◌∷◌, length, Bool, true, false, ◌&&◌, Option, Some, None, MatchOption, unwrap_or, cond, ltb, inl, inr, refl, sym, ◌∙◌, ap, subst, arith}
use Rattle.std.proofs.lemmas.Bool.{cases_Bool, and_from, or_cases, or_left, both_ways, false≢true, ltb-true, lt-ltb, cases_lt}
use Rattle.fbas_model.specs.Nodes.{Nodes, Table, members, ◌∈◌, ◌∪◌, ◌∩◌, ∅, IsLeast, Meets}
use Rattle.fbas_model.specs.Fbas.{Fbas, Quorum}
use Rattle.fbas_model.specs.Counting.{is_quorum}
use Rattle.fbas_model.proofs.QuorumLaw.{quorum-to, quorum-from}
use Rattle.witness_pair.specs.declared.Pair.{Pair}
use Rattle.witness_pair.specs.Pairs.{IsPair}
use Rattle.witness_pair.specs.Making.{shared, least_from, least, pair_of}

-- the least node, of a table whose first place is that of the node k
record LeastAt (k : ℕ) (u : Table) (v : ℕ) : Type 0 where
  place : ℕ
  is : v ≡ k + place
  here : members u place ≡ true
  below : (j : ℕ) → members u j ≡ true → place ≤ j

least_at : (k : ℕ) (u : Table) (v : ℕ) → least_from k u ≡ Some v → LeastAt k u v
least_at k [] v h = absurd cc
least_at k (true ∷ u) v h = let same : k ≡ v = cc in record { place = 0; is = omega arith; here = refl; below = λ j m. omega arith }
least_at k (false ∷ u) v h =
    let r = least_at (k + 1) u v h in
    record { place = suc r.place; is = omega (arith, r.is); here = r.here; below = λ j m. after r.place u j r.below m }
  where
    after : (p : ℕ) (u : Table) (j : ℕ) → ((j : ℕ) → members u j ≡ true → p ≤ j) → members (false ∷ u) j ≡ true → suc p ≤ j
    after p u zero below m = absurd cc
    after p u (suc j) below m = omega (arith, below j m)

pub least-some : (u : Table) (v : ℕ) → least u ≡ Some v → IsLeast (members u) v
least-some u v h =
    let r = least_at 0 u v h in
    let e : r.place ≡ v = omega (arith, r.is) in
    (subst (λ (x : ℕ). members u x ≡ true) e r.here, λ w m. omega (arith, r.is, r.below w m))

pub least-none : (k : ℕ) (u : Table) → least_from k u ≡ None → (v : ℕ) → members u v ≡ true → ⊥
least-none k [] h zero m = cc
least-none k [] h (suc v) m = cc
least-none k (true ∷ u) h v m = cc
least-none k (false ∷ u) h zero m = cc
least-none k (false ∷ u) h (suc v) m = least-none (k + 1) u h v m

-- whatever is the least node, or none where there is none, is `least`
pub least_is : (u : Table) (r : Option ℕ) → MatchOption r (members u ≡ ∅) (IsLeast (members u)) → r ≡ least u
least_is u None h = elim (least u) as (λ (o : Option ℕ). least u ≡ o → None ≡ o) [
  | None ↦ λ e. refl
  | Some v ↦ λ e. absurd (false≢true (sym (ap (λ (s : Nodes). s v) h) ∙ (least-some u v e).0))
] refl
least_is u (Some x) h = elim (least u) as (λ (o : Option ℕ). least u ≡ o → Some x ≡ o) [
  | None ↦ λ e. absurd (least-none 0 u e x h.0)
  | Some v ↦ λ e. let l = least-some u v e in let same : x ≡ v = omega (arith, h.1 v l.0, l.1 x h.0) in ap Some same
] refl

pub members-shared : (u w : Table) (v : ℕ) → members (shared u w) v ≡ (members u v && members w v)
members-shared [] w zero = refl
members-shared [] w (suc v) = refl
members-shared (x ∷ u) [] zero = elim x as (λ (b : Bool). false ≡ (b && false)) [ true ↦ refl | false ↦ refl ]
members-shared (x ∷ u) [] (suc v) = elim (members u v) as (λ (b : Bool). false ≡ (b && false)) [ true ↦ refl | false ↦ refl ]
members-shared (x ∷ u) (y ∷ w) zero = refl
members-shared (x ∷ u) (y ∷ w) (suc v) = members-shared u w v

-- the least node of both
pub least_of_both : (u w : Table) (v : ℕ) → least (shared u w) ≡ Some v → IsLeast (members u ∩ members w) v
least_of_both u w v h =
    let l = least-some (shared u w) v h in
    (sym (members-shared u w v) ∙ l.0, λ x m. l.1 x (members-shared u w x ∙ m))

pub none_of_both : (u w : Table) → least (shared u w) ≡ None → Meets (members u) (members w) → ⊥
none_of_both u w h m = least-none 0 (shared u w) h m.0 (members-shared u w m.0 ∙ and_from (members u m.0) (members w m.0) m.1 m.2)

has_least : (u : Table) (x : ℕ) → members u x ≡ true → (v : ℕ) × (least u ≡ Some v)
has_least u x m = elim (least u) as (λ (o : Option ℕ). least u ≡ o → (v : ℕ) × (least u ≡ Some v)) [
  | None ↦ λ e. absurd (least-none 0 u e x m)
  | Some v ↦ λ e. (v, e)
] refl

-- where the least node of t is not below that of s, the least node of both is in s
in_first : (s t : Table) (a c v : ℕ) → IsLeast (members s) a → IsLeast (members t) c → a ≤ c → IsLeast (members s ∪ members t) v → v ∈ members s
in_first s t a c v at_a at_c le l = elim (or_cases (members s v) (members t v) l.0) [
  | inl m ↦ m
  | inr m ↦
      let e : a ≡ v = omega (arith, at_c.1 v m, l.1 a (or_left (members s a) (members t a) at_a.0)) in
      subst (λ (x : ℕ). x ∈ members s) e at_a.0
]

is_pair : (f : Fbas) (b : Table) (s t : Table) → Quorum f (members b) (members s) → Quorum f (members b) (members t) → (Meets (members s) (members t) → ⊥) → unwrap_or (least s) 0 ≤ unwrap_or (least t) 0 → IsPair f (members b) (record { first = s; second = t })
is_pair f b s t q r apart le =
    let i = q.inhabited in
    let j = r.inhabited in
    let a = has_least s i.0 i.1 in
    let c = has_least t j.0 j.1 in
    let low : a.0 ≤ c.0 = rw (a.1, c.1) at le in
    record { first = q; second = r; apart = apart; order = λ v l. in_first s t a.0 c.0 v (least-some s a.0 a.1) (least-some t c.0 c.1) low l }

either_way : (f : Fbas) (b u w : Table) (t : Bool) (p : Pair) → t ≡ ltb (unwrap_or (least w) 0) (unwrap_or (least u) 0) → p ≡ cond t (record { first = w; second = u }) (record { first = u; second = w }) → Quorum f (members b) (members u) → Quorum f (members b) (members w) → (Meets (members u) (members w) → ⊥) → IsPair f (members b) p
either_way f b u w true p e is q r apart =
    let less = ltb-true (unwrap_or (least w) 0) (unwrap_or (least u) 0) (sym e) in
    subst (IsPair f (members b)) (sym is) (is_pair f b w u r q (λ m. apart (m.0, m.2, m.1)) (omega (arith, less)))
either_way f b u w false p e is q r apart =
    let more : unwrap_or (least u) 0 ≤ unwrap_or (least w) 0 = elim (cases_lt (unwrap_or (least w) 0) (unwrap_or (least u) 0)) [
      | inl less ↦ absurd (false≢true (e ∙ lt-ltb (unwrap_or (least w) 0) (unwrap_or (least u) 0) less))
      | inr le ↦ le
    ] in
    subst (IsPair f (members b)) (sym is) (is_pair f b u w q r apart more)

-- the pair of two quorums that share no node
pub pair_of_quorums : (f : Fbas) (b u w : Table) (p : Pair) → p ≡ pair_of u w → Quorum f (members b) (members u) → Quorum f (members b) (members w) → least (shared u w) ≡ None → IsPair f (members b) p
pair_of_quorums f b u w p e q r none = either_way f b u w (ltb (unwrap_or (least w) 0) (unwrap_or (least u) 0)) p refl e q r (none_of_both u w none)

-- a test by counting that fails
pub no_quorum : (f : Fbas) (b u : Table) → length b ≡ length f → length u ≡ length f → is_quorum f b u ≡ false → Quorum f (members b) (members u) → ⊥
no_quorum f b u p q e quorum = both_ways (is_quorum f b u) e (quorum-from f b u (p ∙ sym q) (sym q) quorum)

-- a test that says whether u is a quorum is the one by counting
pub by_counting : (f : Fbas) (b u : Table) (r : Bool) → length b ≡ length f → length u ≡ length f → (IsTrue r ↔ Quorum f (members b) (members u)) → r ≡ is_quorum f b u
by_counting f b u r p q h = elim (cases_Bool r) [
  | inl e ↦ e ∙ sym (quorum-from f b u (p ∙ sym q) (sym q) (h.0 e))
  | inr e ↦ elim (cases_Bool (is_quorum f b u)) [ inl k ↦ h.1 (quorum-to f b u k) ∙ sym k | inr k ↦ e ∙ sym k ]
]
