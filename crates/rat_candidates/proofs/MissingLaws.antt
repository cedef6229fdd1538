-- The first clause that has a literal and is not named, where ids rise.
use Rattle.std.proofs.Common.{◌≡◌, ℕ, zero, suc, ◌<◌, ◌≤◌, Bool, true, false, not, ◌&&◌, List, [], ◌∷◌, refl, sym, ap, ◌∙◌, subst, arith, cond, Some, None, ⊎_elim, inl, inr}
use Rattle.std.specs.Prelude.{◌==◌, ◌⊎◌, nat_le, All}
use Rattle.std.proofs.lemmas.Bool.{eqb-true, eq-eqb, ne_eqb, cases_eq, leb-true, leb-false}
use Rattle.std.proofs.lemmas.List.Elements.{All-head, All-tail}
use Rattle.lrat_model.specs.Literal.{Literal, has}
use Rattle.lrat_model.specs.Clauses.{Held, clause_at, has_id}
use Rattle.lrat_model.specs.Rat.{first_without}
use Rattle.clause_store.specs.Nearest.{IsFirstAbove}
use Rattle.rat_candidates.specs.Rising.{IdsRise}

-- the clause under this id has the literal, and none of these ids is its
abbrev pub misses : Literal → List ℕ → ℕ → List Literal → Bool
misses l ids id clause = has clause l && not (has_id ids id)

pub rise-tail : (e : ℕ × List Literal) (held : Held) → IdsRise (e ∷ held) → IdsRise held
rise-tail e held up = λ i j d lt within. up (suc i) (suc j) d (omega arith) (omega arith)

rise-head : (e : ℕ × List Literal) (held : Held) → IdsRise (e ∷ held) → All (λ f. e.0 < f.0) held
rise-head e held up = λ k d within. up zero (suc k) d (omega arith) (omega arith)

found_above : (n : ℕ) (held : Held) → All (λ f. n < f.0) held → (k : ℕ) (clause : List Literal) → clause_at held k ≡ Some clause → n < k
found_above n [] above k clause at = cc
found_above n (f ∷ held) above k clause at =
    elim (f.0 == k) as (λ b. (f.0 == k) ≡ b → cond b (Some f.1) (clause_at held k) ≡ Some clause → n < k) [
      | true ↦ λ is _. subst (λ m. n < m) (eqb-true f.0 k is) (All-head (λ e. n < e.0) f held above)
      | false ↦ λ _ found. found_above n held (All-tail (λ e. n < e.0) f held above) k clause found
    ] refl at

pub found_later : (e : ℕ × List Literal) (held : Held) → IdsRise (e ∷ held) → (k : ℕ) (clause : List Literal) → clause_at held k ≡ Some clause → clause_at (e ∷ held) k ≡ Some clause
found_later e held up k clause at =
    let above : e.0 < k = found_above e.0 held (rise-head e held up) k clause at in
    ap (λ b. cond b (Some e.1) (clause_at held k)) (ne_eqb e.0 k (λ same. absurd (omega (arith, above, same)))) ∙ at

pub found_first : (e : ℕ × List Literal) (held : Held) → clause_at (e ∷ held) e.0 ≡ Some e.1
found_first e held = ap (λ b. cond b (Some e.1) (clause_at held e.0)) (eq-eqb e.0 e.0 refl)

pub none_missing : (l : Literal) (ids : List ℕ) (held : Held) → IdsRise held → ((k : ℕ) (clause : List Literal) → clause_at held k ≡ Some clause → misses l ids k clause ≡ false) → first_without held l ids ≡ None
none_missing l ids [] up none = refl
none_missing l ids (e ∷ held) up none =
    ap (λ b. cond b (Some e.0) (first_without held l ids)) (none e.0 e.1 (found_first e held))
    ∙ none_missing l ids held (rise-tail e held up) (λ k clause at. none k clause (found_later e held up k clause at))

pub first_missing : (l : Literal) (ids : List ℕ) (held : Held) → IdsRise held → (next : ℕ) (clause : List Literal) → clause_at held next ≡ Some clause → misses l ids next clause ≡ true
    → ((k : ℕ) (other : List Literal) → k < next → clause_at held k ≡ Some other → misses l ids k other ≡ false) → first_without held l ids ≡ Some next
first_missing l ids [] up next clause at is before = cc
first_missing l ids (e ∷ held) up next clause at is before =
    elim (e.0 == next) as (λ b. (e.0 == next) ≡ b → cond b (Some e.1) (clause_at held next) ≡ Some clause → first_without (e ∷ held) l ids ≡ Some next) [
      | true ↦ λ here found.
          let same_id : e.0 ≡ next = eqb-true e.0 next here in
          let same_clause : e.1 ≡ clause = cc in
          let misses_here : misses l ids e.0 e.1 ≡ true = ap (λ k. misses l ids k e.1) same_id ∙ ap (misses l ids next) same_clause ∙ is in
          ap (λ b. cond b (Some e.0) (first_without held l ids)) misses_here ∙ ap Some same_id
      | false ↦ λ _ found.
          let above : e.0 < next = found_above e.0 held (rise-head e held up) next clause found in
          ap (λ b. cond b (Some e.0) (first_without held l ids)) (before e.0 e.1 above (found_first e held))
          ∙ first_missing l ids held (rise-tail e held up) next clause found is (λ k other low there. before k other low (found_later e held up k other there))
    ] refl at

pub low_or_high : (a b : ℕ) → (a ≤ b) ⊎ (b < a)
low_or_high a b = elim (nat_le a b) as (λ t. nat_le a b ≡ t → (a ≤ b) ⊎ (b < a)) [ true ↦ λ is. inl (leb-true a b is) | false ↦ λ is. inr (leb-false a b is) ] refl

-- the clauses in the order of ids, up to the next one
module _ (l : Literal) (ids : List ℕ) (held : Held) (above next : ℕ) (clause : List Literal) (nearest : IsFirstAbove held above next clause)
    (so_far : (k : ℕ) (other : List Literal) → k ≤ above → clause_at held k ≡ Some other → misses l ids k other ≡ false) where
  pub missing_before : (k : ℕ) (other : List Literal) → k < next → clause_at held k ≡ Some other → misses l ids k other ≡ false
  missing_before k other low at =
      ⊎_elim (λ early. so_far k other early at)
      (λ late. (let none : clause_at held k ≡ None = nearest.nothing_between k late low in cc)) (low_or_high k above)

  pub missing_through : misses l ids next clause ≡ false → (k : ℕ) (other : List Literal) → k ≤ next → clause_at held k ≡ Some other → misses l ids k other ≡ false
  missing_through none k other low at =
      ⊎_elim
      (λ same.
      let found : clause_at held next ≡ Some other = subst (λ n. clause_at held n ≡ Some other) same at in
      let there : clause_at held next ≡ Some clause = nearest.there in
      let is : clause ≡ other = cc in
      ap (λ n. misses l ids n other) same ∙ sym (ap (misses l ids next) is) ∙ none)
      (λ differ. missing_before k other (omega (arith, low, differ)) at)
      (cases_eq k next)

pub misses_from : (l : Literal) (ids : List ℕ) (id : ℕ) (clause : List Literal) (h g : Bool) → has clause l ≡ h → has_id ids id ≡ g → misses l ids id clause ≡ (h && not g)
misses_from l ids id clause h g is_h is_g = ap (λ b. b && not (has_id ids id)) is_h ∙ ap (λ b. h && not b) is_g

-- where no clause is left above
pub none_left : (l : Literal) (ids : List ℕ) (held : Held) (above : ℕ) → IdsRise held → ((k : ℕ) (other : List Literal) → k ≤ above → clause_at held k ≡ Some other → misses l ids k other ≡ false)
    → ((k : ℕ) → above < k → clause_at held k ≡ None) → first_without held l ids ≡ None
none_left l ids held above up so_far none =
    none_missing l ids held up (λ k other at. ⊎_elim (λ low. so_far k other low at) (λ high. (let empty : clause_at held k ≡ None = none k high in cc)) (low_or_high k above))

-- what the list gives first is the least id
pub first_is_least : (l : Literal) (ids : List ℕ) (held : Held) (id : ℕ) → IdsRise held → first_without held l ids ≡ Some id → (k : ℕ) (clause : List Literal) → k < id → clause_at held k ≡ Some clause → misses l ids k clause ≡ false
first_is_least l ids [] id up is k clause low at = absurd cc
first_is_least l ids (e ∷ held) id up is k clause low at =
    elim (misses l ids e.0 e.1) as (λ b. misses l ids e.0 e.1 ≡ b → cond b (Some e.0) (first_without held l ids) ≡ Some id → misses l ids k clause ≡ false) [
      | true ↦ λ _ first.
          let same_id : e.0 ≡ id = cc in
          elim (e.0 == k) as (λ t. (e.0 == k) ≡ t → cond t (Some e.1) (clause_at held k) ≡ Some clause → misses l ids k clause ≡ false) [
            | true ↦ λ here _. (let one : e.0 ≡ k = eqb-true e.0 k here in absurd (omega (arith, one, same_id, low)))
            | false ↦ λ _ found. (let above : e.0 < k = found_above e.0 held (rise-head e held up) k clause found in absurd (omega (arith, above, same_id, low)))
          ] refl at
      | false ↦ λ none later. elim (e.0 == k) as (λ t. (e.0 == k) ≡ t → cond t (Some e.1) (clause_at held k) ≡ Some clause → misses l ids k clause ≡ false) [
        | true ↦ λ here found.
            let same_clause : e.1 ≡ clause = cc in
            ap (λ n. misses l ids n clause) (sym (eqb-true e.0 k here)) ∙ ap (misses l ids e.0) (sym same_clause) ∙ none
        | false ↦ λ _ found. first_is_least l ids held id (rise-tail e held up) later k clause low found
      ] refl at
    ] refl is
