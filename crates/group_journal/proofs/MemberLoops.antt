-- The members of a group, one after another.
use Rattle.std.proofs.Common.{◌≡◌, ℕ, zero, suc, ◌+◌, ◌-◌, ◌<◌, ◌≤◌, ◌==◌, ◌&&◌, ◌||◌, Bool, true, false, not, cond, List, [], ◌∷◌, ◌++◌, length, slice_index_or, set, refl, sym, ap, ap₂, ◌∙◌, subst, arith, inl, inr}
use Rattle.std.proofs.Math.Bool.{or-true, or-false}
use Rattle.std.proofs.lemmas.Bool.{cases_Bool, both_ways, false_from_ne_true, eqb-true, eq-eqb, false≢true}
use Rattle.std.proofs.lemmas.List.{get_or-set_same, get_or-set_other}
use Rattle.fbas_model.specs.Nodes.{Nodes, Table, members, listed_from, only, ◌∖◌}
use Rattle.fbas_model.specs.Lists.{among}
use Rattle.fbas_model.proofs.Listed.{among_more, iterated_all, iterated_below}
use Rattle.group_journal.proofs.Walks.{passed}

-- no member stands twice in the list of the members
listed_new : (s : ℕ) (t : Table) (before rest : List ℕ) (v : ℕ) → before ++ v ∷ rest ≡ listed_from s t → (s ≤ v) × (among before v ≡ false)
listed_new s [] [] rest v e = absurd cc
listed_new s [] (w ∷ ws) rest v e = absurd cc
listed_new s (true ∷ t) [] rest v e = let here : v ≡ s = cc in (omega (arith, here), refl)
listed_new s (true ∷ t) (w ∷ ws) rest v e =
    let first : w ≡ s = cc in
    let rest_is : ws ++ v ∷ rest ≡ listed_from (s + 1) t = cc in
    let r = listed_new (s + 1) t ws rest v rest_is in
    let apart : (v == w) ≡ false = false_from_ne_true (v == w) (λ k. absurd (let same = eqb-true v w k in omega (arith, r.0))) in
    (omega (arith, r.0), ap (λ (b : Bool). b || among ws v) apart ∙ r.1)
listed_new s (false ∷ t) before rest v e = let r = listed_new (s + 1) t before rest v e in (omega (arith, r.0), r.1)

pub iterated_new : (t : Table) (before rest : List ℕ) (v : ℕ) → before ++ v ∷ rest ≡ listed_from 0 t → among before v ≡ false
iterated_new t before rest v e = (listed_new 0 t before rest v e).1

-- where a walk of the members stands: its node has a place, and was not passed
pub at_member : (t : Table) (before left rest : List ℕ) (v : ℕ) → left ≡ v ∷ rest → before ++ left ≡ listed_from 0 t → (before ++ v ∷ rest ≡ listed_from 0 t) × (v < length t) × (among before v ≡ false)
at_member t before left rest v steps whole =
    let here : before ++ v ∷ rest ≡ listed_from 0 t = ap (λ (vs : List ℕ). before ++ vs) (sym steps) ∙ whole in
    (here, iterated_below t before rest v here, iterated_new t before rest v here)

-- ---- counts

-- the counts are one more for each of these nodes
abbrev pub AreMore : List ℕ → List ℕ → List ℕ → Type 0
AreMore ws start now = (v : ℕ) → slice_index_or now v 0 ≡ slice_index_or start v 0 + cond (among ws v) 1 0

pub more_first : (counts : List ℕ) → AreMore [] counts counts
more_first counts v = omega arith

-- a count that is written
abbrev pub IsWritten : List ℕ → List ℕ → ℕ → ℕ → Type 0
IsWritten counts next v n = (slice_index_or next v 0 ≡ n) × ((w : ℕ) → (w == v) ≡ false → slice_index_or next w 0 ≡ slice_index_or counts w 0)

-- whether a node is among some and one more
among_this : (ws : List ℕ) (v w : ℕ) → (w == v) ≡ true → among (ws ++ v ∷ []) w ≡ true
among_this ws v w e = among_more ws v w ∙ ap (λ (b : Bool). among ws w || b) e ∙ or-true (among ws w)

among_other : (ws : List ℕ) (v w : ℕ) → (w == v) ≡ false → among (ws ++ v ∷ []) w ≡ among ws w
among_other ws v w e = among_more ws v w ∙ ap (λ (b : Bool). among ws w || b) e ∙ or-false (among ws w)

pub more_next : (ws start now next : List ℕ) (v : ℕ) → among ws v ≡ false → AreMore ws start now → IsWritten now next v (slice_index_or now v 0 + 1) → AreMore (ws ++ v ∷ []) start next
more_next ws start now next v new before written w = elim (cases_Bool (w == v)) [
  | inl e ↦
      let same : v ≡ w = sym (eqb-true w v e) in
      let is = among_this ws v w e in
      let at : slice_index_or next w 0 ≡ slice_index_or now w 0 + 1 = subst (λ (x : ℕ). slice_index_or next x 0 ≡ slice_index_or now x 0 + 1) same written.0 in
      let was : slice_index_or now w 0 ≡ slice_index_or start w 0 + 0 = before w ∙ ap (λ (b : Bool). slice_index_or start w 0 + cond b 1 0) (subst (λ (x : ℕ). among ws x ≡ false) same new) in
      let goal : slice_index_or next w 0 ≡ slice_index_or start w 0 + 1 = omega (arith, at, was) in
      goal ∙ sym (ap (λ (b : Bool). slice_index_or start w 0 + cond b 1 0) is)
  | inr e ↦ written.1 w e ∙ before w ∙ sym (ap (λ (b : Bool). slice_index_or start w 0 + cond b 1 0) (among_other ws v w e))
]

pub more_all : (t : Table) (ws start now : List ℕ) → ws ≡ listed_from 0 t → AreMore ws start now → (v : ℕ) → slice_index_or now v 0 ≡ slice_index_or start v 0 + cond (members t v) 1 0
more_all t ws start now whole all v = all v ∙ ap (λ (b : Bool). slice_index_or start v 0 + cond b 1 0) (iterated_all t ws whole v)

-- one less for each
pub less_next : (ws start now next : List ℕ) (v : ℕ) → among ws v ≡ false → 0 < slice_index_or now v 0 → AreMore ws now start → IsWritten now next v (slice_index_or now v 0 - 1) → AreMore (ws ++ v ∷ []) next start
less_next ws start now next v new some before written w = elim (cases_Bool (w == v)) [
  | inl e ↦
      let same : v ≡ w = sym (eqb-true w v e) in
      let is = among_this ws v w e in
      let at : slice_index_or next w 0 ≡ slice_index_or now w 0 - 1 = subst (λ (x : ℕ). slice_index_or next x 0 ≡ slice_index_or now x 0 - 1) same written.0 in
      let positive : 0 < slice_index_or now w 0 = subst (λ (x : ℕ). 0 < slice_index_or now x 0) same some in
      let was : slice_index_or start w 0 ≡ slice_index_or now w 0 + 0 = before w ∙ ap (λ (b : Bool). slice_index_or now w 0 + cond b 1 0) (subst (λ (x : ℕ). among ws x ≡ false) same new) in
      let goal : slice_index_or start w 0 ≡ slice_index_or next w 0 + 1 = omega (arith, at, was, positive) in
      goal ∙ sym (ap (λ (b : Bool). slice_index_or next w 0 + cond b 1 0) is)
  | inr e ↦
      before w ∙ ap₂ (λ (n : ℕ) (b : Bool). n + cond b 1 0) (sym (written.1 w e)) (sym (among_other ws v w e))
]

-- ---- nodes that no group has any more

abbrev pub AreLeft : (ℕ → Bool) → List ℕ → Nodes → Nodes → Type 0
AreLeft gone ws start now = (v : ℕ) → now v ≡ (start v && not (among ws v && gone v))

pub left_first : (gone : ℕ → Bool) (start : Nodes) → AreLeft gone [] start start
left_first gone start v = sym (alone (start v))
  where
    alone : (b : Bool) → (b && true) ≡ b
    alone true = refl
    alone false = refl

module _ (gone : ℕ → Bool) (ws : List ℕ) (start now : Nodes) (v : ℕ) (before : AreLeft gone ws start now) where
  pub left_pass : gone v ≡ false → AreLeft gone (ws ++ v ∷ []) start now
  left_pass out w = before w ∙ ap (λ (b : Bool). start w && not b) (same w ∙ ap (λ (b : Bool). b && gone w) (sym (among_more ws v w)))
    where
      same : (w : ℕ) → (among ws w && gone w) ≡ ((among ws w || (w == v)) && gone w)
      same w = passed (among ws w) (w == v) (gone w) (λ e. ap gone (eqb-true w v e) ∙ out)

  pub left_take : (next : Nodes) → gone v ≡ true → next ≡ now ∖ only v → AreLeft gone (ws ++ v ∷ []) start next
  left_take next is taken w =
      ap (λ (s : Nodes). s w) taken ∙ ap (λ (b : Bool). b && not (w == v)) (before w)
      ∙ more (start w) (among ws w) (w == v) (gone w) (λ e. ap gone (eqb-true w v e) ∙ is)
      ∙ ap (λ (b : Bool). start w && not (b && gone w)) (sym (among_more ws v w))
    where
      more : (s x e k : Bool) → (e ≡ true → k ≡ true) → ((s && not (x && k)) && not e) ≡ (s && not ((x || e) && k))
      more false x e k h = refl
      more true true true true h = refl
      more true true true false h = absurd (false≢true (h refl))
      more true true false true h = refl
      more true true false false h = refl
      more true false true true h = refl
      more true false true false h = absurd (false≢true (h refl))
      more true false false k h = refl

pub left_all : (gone : ℕ → Bool) (t : Table) (ws : List ℕ) (start now : Nodes) → ws ≡ listed_from 0 t → AreLeft gone ws start now → (v : ℕ) → now v ≡ (start v && not (members t v && gone v))
left_all gone t ws start now whole all v = all v ∙ ap (λ (b : Bool). start v && not (b && gone v)) (iterated_all t ws whole v)

-- ---- a count that is written

pub written : (counts : List ℕ) (v n : ℕ) → v < length counts → IsWritten counts (set counts v n) v n
written counts v n low = (
  get_or-set_same counts v n 0 low,
  λ w other. get_or-set_other counts v w n 0 (λ same. both_ways (w == v) other (eq-eqb w v same)),
)
