-- Counts of literals when one changes.
use Rattle.std.proofs.Common.{◌≡◌, ℕ, zero, suc, ◌<◌, ◌≤◌, ◌+◌, ◌-◌, ◌*◌, true, false, List, [], ◌∷◌, ◌++◌, length, get_or, set, take, refl, sym, ap, ◌∙◌, subst, arith, cond, get_or-set_same, get_or-set_other}
use Rattle.std.proofs.lemmas.List.{take_more}
use Rattle.lrat_model.specs.Literal.{Literal, Plus, Minus, same}
use Rattle.lrat_model.specs.Clauses.{Held, clause_at}
use Rattle.lrat_model.proofs.Literals.{same-true, same-itself}
use Rattle.rat_candidates.specs.Occurrences.{times}
use Rattle.rat_candidates.specs.Counted.{place_of, count_of, IsOver, times_found, listed}

place_one : (l m : Literal) → place_of l ≡ place_of m → l ≡ m
place_one (Plus x) (Plus y) is = ap Plus (omega (arith, is))
place_one (Plus x) (Minus y) is = absurd (omega (arith, is))
place_one (Minus x) (Plus y) is = absurd (omega (arith, is))
place_one (Minus x) (Minus y) is = ap Minus (omega (arith, is))

-- one count changed
count-set : (counts : List ℕ) (l m : Literal) (v : ℕ) → place_of m < length counts → count_of (set counts (place_of m) v) l ≡ cond (same l m) v (count_of counts l)
count-set counts l m v within =
    elim (same l m) as (λ b. same l m ≡ b → count_of (set counts (place_of m) v) l ≡ cond b v (count_of counts l)) [
      | true ↦ λ is. ap (count_of (set counts (place_of m) v)) (same-true l m is) ∙ get_or-set_same counts (place_of m) v 4294967295 within
      | false ↦ λ differs. get_or-set_other counts (place_of m) (place_of l) v 4294967295 (λ one. absurd (is_same l m (place_one l m one) differs))
    ] refl where
      is_same : (l m : Literal) → l ≡ m → same l m ≡ false → ⊥
      is_same l m one differs = (let itself : same l l ≡ true = same-itself l in let here : same l m ≡ true = subst (λ k. same l k ≡ true) one itself in cc)

-- a test on a changed count, where it holds by cases
by_count : (counts : List ℕ) (l m : Literal) (v n : ℕ) → place_of m < length counts → (cond (same l m) v (count_of counts l) < 4294967295 → n ≤ cond (same l m) v (count_of counts l)) → IsOver (set counts (place_of m) v) l n
by_count counts l m v n within holds = subst (λ c. c < 4294967295 → n ≤ c) (sym (count-set counts l m v within)) holds

pub over_more : (counts : List ℕ) (l m : Literal) (n v : ℕ) → place_of m < length counts → (v < 4294967295 → v ≡ count_of counts m + 1) → IsOver counts l n → IsOver (set counts (place_of m) v) l (n + times l (m ∷ []))
over_more counts l m n v within is over = by_count counts l m v (n + times l (m ∷ [])) within
    (elim (same l m) as (λ b. same l m ≡ b → cond b v (count_of counts l) < 4294967295 → n + (cond b 1 0 + 0) ≤ cond b v (count_of counts l)) [
      | true ↦ λ one small.
          let more : v ≡ count_of counts m + 1 = is small in
          let at : count_of counts l ≡ count_of counts m = ap (count_of counts) (same-true l m one) in
          let below : n ≤ count_of counts l = over (omega (arith, more, at, small)) in omega (arith, below, at, more)
      | false ↦ λ _ small. (let below : n ≤ count_of counts l = over small in omega (arith, below))
    ] refl)

pub over_less : (counts : List ℕ) (l m : Literal) (n v : ℕ) → place_of m < length counts → count_of counts m < 4294967295 → count_of counts m ≤ v + 1
    → IsOver counts l n → IsOver (set counts (place_of m) v) l (n - times l (m ∷ []))
over_less counts l m n v within known is over = by_count counts l m v (n - times l (m ∷ [])) within
    (elim (same l m) as (λ b. same l m ≡ b → cond b v (count_of counts l) < 4294967295 → n - (cond b 1 0 + 0) ≤ cond b v (count_of counts l)) [
      | true ↦ λ one small.
          let at : count_of counts l ≡ count_of counts m = ap (count_of counts) (same-true l m one) in
          let below : n ≤ count_of counts l = over (omega (arith, at, known)) in omega (arith, below, at, is)
      | false ↦ λ _ small. (let below : n ≤ count_of counts l = over small in omega (arith, below))
    ] refl)

-- a literal whose count is not there, or says nothing
pub over_nothing : (counts : List ℕ) (l m : Literal) (n : ℕ) → 4294967295 ≤ count_of counts m → IsOver counts l n → IsOver counts l (n + times l (m ∷ []))
over_nothing counts l m n full over =
    elim (same l m) as (λ b. same l m ≡ b → IsOver counts l (n + (cond b 1 0 + 0))) [
      | true ↦ λ one small. (let at : count_of counts l ≡ count_of counts m = ap (count_of counts) (same-true l m one) in absurd (omega (arith, at, full, small)))
      | false ↦ λ _ small. (let below : n ≤ count_of counts l = over small in omega (arith, below))
    ] refl

pub over_lower : (counts : List ℕ) (l : Literal) (n k : ℕ) → k ≤ n → IsOver counts l n → IsOver counts l k
over_lower counts l n k low over small = (let below : n ≤ count_of counts l = over small in omega (arith, below, low))

-- past the end nothing is counted
pub no_count : (counts : List ℕ) (m : Literal) → length counts ≤ place_of m → count_of counts m ≡ 4294967295
no_count counts m past = past_end counts (place_of m) past where
  past_end : (xs : List ℕ) (i : ℕ) → length xs ≤ i → get_or xs i 4294967295 ≡ 4294967295
  past_end [] i past = refl
  past_end (x ∷ xs) zero past = absurd (omega arith)
  past_end (x ∷ xs) (suc i) past = past_end xs i (omega arith)

-- ---- one literal of a clause after another

times-push : (l : Literal) (ls : List Literal) (m : Literal) → times l (ls ++ m ∷ []) ≡ times l ls + times l (m ∷ [])
times-push l [] m = omega arith
times-push l (k ∷ ls) m = omega (arith, times-push l ls m)

pub times-taken : (l : Literal) (clause : List Literal) (i : ℕ) (m : Literal) → i < length clause → m ≡ get_or clause i m → times l (take (i + 1) clause) ≡ times l (take i clause) + times l (m ∷ [])
times-taken l clause i m within here = ap (times l) (take_more clause i m within ∙ ap (λ k. take i clause ++ k ∷ []) (sym here)) ∙ times-push l (take i clause) m

-- ---- one id after another

listed-push : (l : Literal) (held : Held) (ids : List ℕ) (id : ℕ) → listed l held (ids ++ id ∷ []) ≡ listed l held ids + times_found l (clause_at held id)
listed-push l held [] id = omega arith
listed-push l held (k ∷ ids) id = omega (arith, listed-push l held ids id)

pub listed-more : (l : Literal) (held : Held) (ids : List ℕ) (i d id : ℕ) → i < length ids → get_or ids i d ≡ id → listed l held (take (i + 1) ids) ≡ listed l held (take i ids) + times_found l (clause_at held id)
listed-more l held ids i d id within here = ap (listed l held) (take_more ids i d within ∙ ap (λ k. take i ids ++ k ∷ []) here) ∙ listed-push l held (take i ids) id
