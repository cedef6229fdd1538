-- The members of a table as a list in order, and the order of sets.
use Rattle.std.proofs.Common.{◌≡◌, ℕ, zero, suc, ◌+◌, ◌-◌, ◌<◌, ◌==◌, ◌||◌, ltb, Bool, true, false, List, [], ◌∷◌, ◌++◌, length, drop, map, refl, sym, ◌∙◌, ap, ap₂, subst, arith, inl, inr, Less, Equal, Greater}
use Rattle.std.proofs.lemmas.Bool.{false≢true, false_from_ne_true, cases_lt, lt-ltb, ltb-true, eqb-true, eq-eqb, or_left}
use Rattle.std.proofs.Math.Bool.{or-false, or_assoc}
use Rattle.std.proofs.lemmas.List.{get_or-drop, drop-drop, drop_all, drop_more}
use Rattle.std.specs.Prelude.{slice_index_or}
use Rattle.std.specs.Ordering.{nat_cmp, ordering_then}
use Rattle.std.specs.declared.cmp.Ordering.{Ordering}
use Rattle.std.specs.Cmp.Lexicographic.{slice_cmp}
use Rattle.fbas_model.specs.Lists.{among}
use Rattle.fbas_model.specs.Nodes.{Table, members, HasNoneFrom, IsLeastFrom, size, listed_from, set_cmp}
use Rattle.fbas_model.specs.Restriction.{kept, rank}
use Rattle.fbas_model.proofs.Kept.{rank-cons, rank_lt}

-- a table without members
listed-none : (v : ℕ) (t : Table) → ((j : ℕ) → members t j ≡ false) → listed_from v t ≡ []
listed-none v [] none = refl
listed-none v (true ∷ t) none = absurd (false≢true (sym (none 0)))
listed-none v (false ∷ t) none = listed-none (v + 1) t (λ j. none (suc j))

-- one whose first member stands at place j
listed-first : (v : ℕ) (t : Table) (j : ℕ) → members t j ≡ true → ((i : ℕ) → i < j → members t i ≡ false) → listed_from v t ≡ (v + j) ∷ listed_from (v + j + 1) (drop (j + 1) t)
listed-first v [] j here before = absurd (false≢true here)
listed-first v (true ∷ t) zero here before = let e : v ≡ v + zero = omega arith in ap (λ (x : ℕ). x ∷ listed_from (x + 1) t) e
listed-first v (false ∷ t) zero here before = absurd (false≢true here)
listed-first v (true ∷ t) (suc j) here before = absurd (false≢true (sym (before 0 (omega arith))))
listed-first v (false ∷ t) (suc j) here before =
    let e : v + 1 + j ≡ v + suc j = omega arith in
    let f : suc j + 1 ≡ suc (j + 1) = omega arith in
    listed-first (v + 1) t j here (λ i h. before (suc i) (omega arith)) ∙ ap (λ (x : ℕ). x ∷ listed_from (x + 1) (drop (j + 1) t)) e ∙ ap (λ (k : ℕ). (v + suc j) ∷ listed_from (v + suc j + 1) (drop k (false ∷ t))) (sym f)

members-drop : (at : ℕ) (t : Table) (j : ℕ) → members (drop at t) j ≡ members t (at + j)
members-drop at t j = get_or-drop at t j false

-- the members from a number on, where there is none
pub listed_nowhere : (at : ℕ) (t : Table) → HasNoneFrom (members t) at → listed_from at (drop at t) ≡ []
listed_nowhere at t none = listed-none at (drop at t) (λ j. members-drop at t j ∙ none (at + j) (omega arith))

-- and where v is the least
pub listed_next : (at v : ℕ) (t : Table) → IsLeastFrom (members t) at v → listed_from at (drop at t) ≡ v ∷ listed_from (v + 1) (drop (v + 1) t)
listed_next at v t least =
    let j = v - at in
    let place : at + j ≡ v = omega (arith, least.0) in
    let past : at + (j + 1) ≡ v + 1 = omega (arith, least.0) in
    listed-first at (drop at t) j (members-drop at t j ∙ ap (members t) place ∙ least.1)
    (λ i h. members-drop at t i ∙ false_from_ne_true (members t (at + i)) (λ is. let le = least.2 (at + i) (omega arith) is in absurd (omega (arith, least.0))))
    ∙ ap (λ (x : ℕ). x ∷ listed_from (x + 1) (drop (j + 1) (drop at t))) place
    ∙ ap (λ (r : Table). v ∷ listed_from (v + 1) r) (drop-drop (j + 1) at t ∙ ap (λ (k : ℕ). drop k t) past)

-- ---- iterating over the members

-- a node of the list of the members has a place
listed_below : (s : ℕ) (t : Table) (before rest : List ℕ) (v : ℕ) → before ++ v ∷ rest ≡ listed_from s t → v < s + length t
listed_below s [] [] rest v e = cc
listed_below s [] (w ∷ ws) rest v e = cc
listed_below s (true ∷ t) [] rest v e = let here : v ≡ s = cc in omega (arith, here)
listed_below s (true ∷ t) (w ∷ ws) rest v e = let rest_is : ws ++ v ∷ rest ≡ listed_from (s + 1) t = cc in omega (arith, listed_below (s + 1) t ws rest v rest_is)
listed_below s (false ∷ t) before rest v e = omega (arith, listed_below (s + 1) t before rest v e)

pub iterated_below : (t : Table) (before rest : List ℕ) (v : ℕ) → before ++ v ∷ rest ≡ listed_from 0 t → v < length t
iterated_below t before rest v e = omega (arith, listed_below 0 t before rest v e)

-- it is a member, and its rank is how many of them stand before it
record Stands (s : ℕ) (t : Table) (before : List ℕ) (v j : ℕ) : Type 0 where
  place : v ≡ s + j
  here : members t j ≡ true
  rank_is : rank t j ≡ length before

listed_at : (s : ℕ) (t : Table) (before rest : List ℕ) (v : ℕ) → before ++ v ∷ rest ≡ listed_from s t → (j : ℕ) × Stands s t before v j
listed_at s [] [] rest v e = absurd cc
listed_at s [] (w ∷ ws) rest v e = absurd cc
listed_at s (true ∷ t) [] rest v e = let is : v ≡ s = cc in (0, record { place = omega (arith, is); here = refl; rank_is = refl })
listed_at s (true ∷ t) (w ∷ ws) rest v e =
    let rest_is : ws ++ v ∷ rest ≡ listed_from (s + 1) t = cc in
    let h = listed_at (s + 1) t ws rest v rest_is in
    (suc h.0, record { place = omega (arith, h.1.place); here = h.1.here; rank_is = omega (arith, rank-cons true t h.0, h.1.rank_is) })
listed_at s (false ∷ t) before rest v e =
    let h = listed_at (s + 1) t before rest v e in
    (suc h.0, record { place = omega (arith, h.1.place); here = h.1.here; rank_is = omega (arith, rank-cons false t h.0, h.1.rank_is) })

pub iterated_member : (t : Table) (before rest : List ℕ) (v : ℕ) → before ++ v ∷ rest ≡ listed_from 0 t → members t v ≡ true
iterated_member t before rest v e =
    let h = listed_at 0 t before rest v e in
    let is : h.0 ≡ v = omega (arith, h.1.place) in
    subst (λ (j : ℕ). members t j ≡ true) is h.1.here

pub iterated_rank : (t : Table) (before rest : List ℕ) (v : ℕ) → before ++ v ∷ rest ≡ listed_from 0 t → rank t v ≡ length before
iterated_rank t before rest v e =
    let h = listed_at 0 t before rest v e in
    let is : h.0 ≡ v = omega (arith, h.1.place) in
    subst (λ (j : ℕ). rank t j ≡ length before) is h.1.rank_is

-- so fewer stand before it than there are
pub iterated_few : (t : Table) (before rest : List ℕ) (v : ℕ) → before ++ v ∷ rest ≡ listed_from 0 t → length before < size t
iterated_few t before rest v e = omega (arith, iterated_rank t before rest v e, rank_lt t v (iterated_member t before rest v e))

-- what is kept of a list is what stands at the members' places
kept_from : {A : Type 0} (s : ℕ) (t : Table) (xs : List A) (d : A) → s + length t ≡ length xs → kept t (drop s xs) ≡ map (λ v. slice_index_or xs v d) (listed_from s t)
kept_from s [] xs d e = refl
kept_from s (true ∷ t) xs d e = ap (kept (true ∷ t)) (drop_more xs s d (omega arith)) ∙ ap (λ ys. slice_index_or xs s d ∷ ys) (kept_from (s + 1) t xs d (omega arith))
kept_from s (false ∷ t) xs d e = ap (kept (false ∷ t)) (drop_more xs s d (omega arith)) ∙ kept_from (s + 1) t xs d (omega arith)

pub kept_listed : {A : Type 0} (t : Table) (xs : List A) (d : A) → length t ≡ length xs → kept t xs ≡ map (λ v. slice_index_or xs v d) (listed_from 0 t)
kept_listed t xs d e = kept_from 0 t xs d (omega arith)

-- no node before the first place is in the list
listed_before : (s : ℕ) (t : Table) (k : ℕ) → k < s → among (listed_from s t) k ≡ false
listed_before s [] k low = refl
listed_before s (true ∷ t) k low =
    let apart : (k == s) ≡ false = false_from_ne_true (k == s) (λ e. absurd (let h = eqb-true k s e in omega arith)) in
    ap (λ (b : Bool). b || among (listed_from (s + 1) t) k) apart ∙ listed_before (s + 1) t k (omega arith)
listed_before s (false ∷ t) k low = listed_before (s + 1) t k (omega arith)

-- the list has the members and no others
listed_among : (s : ℕ) (t : Table) (k : ℕ) → among (listed_from s t) (s + k) ≡ members t k
listed_among s [] k = refl
listed_among s (true ∷ t) zero = or_left (s + 0 == s) (among (listed_from (s + 1) t) (s + 0)) (eq-eqb (s + 0) s (omega arith))
listed_among s (true ∷ t) (suc k) =
    let e : s + 1 + k ≡ s + suc k = omega arith in
    let apart : (s + suc k == s) ≡ false = false_from_ne_true (s + suc k == s) (λ e. absurd (let h = eqb-true (s + suc k) s e in omega arith)) in
    ap (λ (b : Bool). b || among (listed_from (s + 1) t) (s + suc k)) apart ∙ subst (λ (n : ℕ). among (listed_from (s + 1) t) n ≡ members t k) e (listed_among (s + 1) t k)
listed_among s (false ∷ t) zero = listed_before (s + 1) t (s + 0) (omega arith)
listed_among s (false ∷ t) (suc k) = let e : s + 1 + k ≡ s + suc k = omega arith in subst (λ (n : ℕ). among (listed_from (s + 1) t) n ≡ members t k) e (listed_among (s + 1) t k)

pub iterated_all : (t : Table) (ws : List ℕ) → ws ≡ listed_from 0 t → (k : ℕ) → among ws k ≡ members t k
iterated_all t ws e k = let at : 0 + k ≡ k = omega arith in rw e (subst (λ (n : ℕ). among (listed_from 0 t) n ≡ members t k) at (listed_among 0 t k))

-- one node more
pub among_more : (ws : List ℕ) (v k : ℕ) → among (ws ++ v ∷ []) k ≡ (among ws k || (k == v))
among_more [] v k = or-false (k == v)
among_more (w ∷ ws) v k = ap (λ (b : Bool). (k == w) || b) (among_more ws v k) ∙ sym (or_assoc (k == w) (among ws k) (k == v))

-- ---- the order of sets

before_itself : (v : ℕ) → nat_cmp v v ≡ Equal
before_itself v = let no : ltb v v ≡ false = false_from_ne_true (ltb v v) (λ k. let l = ltb-true v v k in absurd (omega arith)) in rw (no, eq-eqb v v refl)

same_first : (v : ℕ) (xs ys : List ℕ) → slice_cmp nat_cmp (v ∷ xs) (v ∷ ys) ≡ slice_cmp nat_cmp xs ys
same_first v xs ys = ap (λ (o : Ordering). ordering_then o (slice_cmp nat_cmp xs ys)) (before_itself v)

drop-nil : (k : ℕ) → let none : Table = [] in drop k none ≡ none
drop-nil zero = refl
drop-nil (suc k) = refl

-- places where two tables agree can be passed over
cmp-skip : (v k : ℕ) (s t : Table) → ((j : ℕ) → j < k → members s j ≡ members t j) → slice_cmp nat_cmp (listed_from v s) (listed_from v t) ≡ slice_cmp nat_cmp (listed_from (v + k) (drop k s)) (listed_from (v + k) (drop k t))
cmp-skip v zero s t same = let e : v ≡ v + zero = omega arith in ap (λ (x : ℕ). slice_cmp nat_cmp (listed_from x s) (listed_from x t)) e
cmp-skip v (suc k) [] [] same = refl
cmp-skip v (suc k) [] (true ∷ t) same = absurd (false≢true (same 0 (omega arith)))
cmp-skip v (suc k) [] (false ∷ t) same =
    let e : v + 1 + k ≡ v + suc k = omega arith in
    cmp-skip (v + 1) k [] t (λ j h. same (suc j) (omega arith)) ∙ ap₂ (λ (x : ℕ) (r : Table). slice_cmp nat_cmp (listed_from x r) (listed_from x (drop k t))) e (drop-nil k)
cmp-skip v (suc k) (true ∷ s) [] same = absurd (false≢true (sym (same 0 (omega arith))))
cmp-skip v (suc k) (false ∷ s) [] same =
    let e : v + 1 + k ≡ v + suc k = omega arith in
    cmp-skip (v + 1) k s [] (λ j h. same (suc j) (omega arith)) ∙ ap₂ (λ (x : ℕ) (r : Table). slice_cmp nat_cmp (listed_from x (drop k s)) (listed_from x r)) e (drop-nil k)
cmp-skip v (suc k) (true ∷ s) (false ∷ t) same = absurd (false≢true (sym (same 0 (omega arith))))
cmp-skip v (suc k) (false ∷ s) (true ∷ t) same = absurd (false≢true (same 0 (omega arith)))
cmp-skip v (suc k) (true ∷ s) (true ∷ t) same =
    let e : v + 1 + k ≡ v + suc k = omega arith in
    same_first v (listed_from (v + 1) s) (listed_from (v + 1) t) ∙ cmp-skip (v + 1) k s t (λ j h. same (suc j) (omega arith)) ∙ ap (λ (x : ℕ). slice_cmp nat_cmp (listed_from x (drop k s)) (listed_from x (drop k t))) e
cmp-skip v (suc k) (false ∷ s) (false ∷ t) same =
    let e : v + 1 + k ≡ v + suc k = omega arith in
    cmp-skip (v + 1) k s t (λ j h. same (suc j) (omega arith)) ∙ ap (λ (x : ℕ). slice_cmp nat_cmp (listed_from x (drop k s)) (listed_from x (drop k t))) e

-- sets that agree below a number are ordered as the rest of them is
pub set_cmp-from : (at : ℕ) (s t : Table) → ((v : ℕ) → v < at → members s v ≡ members t v) → set_cmp s t ≡ slice_cmp nat_cmp (listed_from at (drop at s)) (listed_from at (drop at t))
set_cmp-from at s t same = let e : 0 + at ≡ at = omega arith in cmp-skip 0 at s t same ∙ ap (λ (x : ℕ). slice_cmp nat_cmp (listed_from x (drop at s)) (listed_from x (drop at t))) e

-- sets with the same members are equal in it, whatever their n
pub set_cmp-same : (s t : Table) → ((v : ℕ) → members s v ≡ members t v) → set_cmp s t ≡ Equal
set_cmp-same s t same =
    let at = length s + length t in
    set_cmp-from at s t (λ v _. same v) ∙ ap₂ (λ (x y : Table). slice_cmp nat_cmp (listed_from at x) (listed_from at y)) (drop_all at s (omega arith)) (drop_all at t (omega arith))

-- lists with different first numbers are ordered as these are
pub cmp_first : (x y : ℕ) (xs ys : List ℕ) → (x ≡ y → ⊥) → slice_cmp nat_cmp (x ∷ xs) (y ∷ ys) ≡ nat_cmp x y
cmp_first x y xs ys apart = elim (cases_lt x y) [
  | inl lt ↦ let yes : nat_cmp x y ≡ Less = rw (lt-ltb x y lt) in ap (λ (o : Ordering). ordering_then o (slice_cmp nat_cmp xs ys)) yes ∙ sym yes
  | inr le ↦
      let no : ltb x y ≡ false = false_from_ne_true (ltb x y) (λ k. let l = ltb-true x y k in absurd (omega arith)) in
      let other : (x == y) ≡ false = false_from_ne_true (x == y) (λ k. apart (eqb-true x y k)) in
      let yes : nat_cmp x y ≡ Greater = rw (no, other) in ap (λ (o : Ordering). ordering_then o (slice_cmp nat_cmp xs ys)) yes ∙ sym yes
]
