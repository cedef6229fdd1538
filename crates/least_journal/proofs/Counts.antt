-- The true variables of a set's assignment are as many as its nodes.
use Rattle.std.proofs.Common.{◌≡◌, ℕ, zero, suc, ◌+◌, ◌-◌, Bool, true, false, cond, [], ◌∷◌, length, refl, sym, ap, ◌∙◌, subst, arith}
use Rattle.std.proofs.lemmas.Bool.{false≢true}
use Rattle.fbas_model.specs.Nodes.{Table, members, ◌⊆◌, size}
use Rattle.fbas_model.specs.Restriction.{kept}
use Rattle.fbas_model.proofs.Sizes.{size-cons}
use Rattle.fbas_model.proofs.Kept.{length-kept}
use Rattle.enumeration_journal.specs.Numbering.{assignment_of}
use Rattle.clause_encoder.specs.NameCounter.{true_count}

-- the first name counted before the others
front : (v : ℕ → Bool) (n : ℕ) → true_count v (suc n) ≡ cond (v 1) 1 0 + true_count (λ x. v (x + 1)) n
front v zero = elim (v 1) as (λ b. cond b 1 0 ≡ cond b 1 0 + 0) [
  | true ↦ refl
  | false ↦ refl
]
front v (suc n) = subst (λ (k : ℕ). cond (v k) (true_count v (suc n) + 1) (true_count v (suc n)) ≡ cond (v 1) 1 0 + cond (v (n + 1 + 1)) (true_count (λ x. v (x + 1)) n + 1) (true_count (λ x. v (x + 1)) n)) (next n)
    (elim (v (n + 1 + 1)) as (λ b. cond b (true_count v (suc n) + 1) (true_count v (suc n)) ≡ cond (v 1) 1 0 + cond b (true_count (λ x. v (x + 1)) n + 1) (true_count (λ x. v (x + 1)) n)) [
      | true ↦ omega (arith, front v n)
      | false ↦ omega (arith, front v n)
    ])
  where
    next : (n : ℕ) → n + 1 + 1 ≡ suc n + 1
    next n = omega arith

count_is : (t : Table) (v : ℕ → Bool) → ((i : ℕ) → v (i + 1) ≡ members t i) → true_count v (length t) ≡ size t
count_is [] v same = refl
count_is (m ∷ ms) v same =
    front v (length ms)
    ∙ ap (λ (b : Bool). cond b 1 0 + true_count (λ x. v (x + 1)) (length ms)) (same 0)
    ∙ ap (λ (n : ℕ). cond m 1 0 + n) (count_is ms (λ x. v (x + 1)) (λ i. later i))
    ∙ sym (size-cons m ms)
  where
    later : (i : ℕ) → v (i + 1 + 1) ≡ members ms i
    later i = ap v (next i) ∙ same (suc i)
      where
        next : (i : ℕ) → i + 1 + 1 ≡ suc i + 1
        next i = omega arith

-- a set inside g keeps its size in g's numbering
pub size_kept : (g s : Table) → length g ≡ length s → members s ⊆ members g → size (kept g s) ≡ size s
size_kept [] [] e within = refl
size_kept [] (x ∷ s) e within = absurd (omega arith)
size_kept (m ∷ g) [] e within = absurd (omega arith)
size_kept (true ∷ g) (x ∷ s) e within = size-cons x (kept g s) ∙ ap (λ (n : ℕ). cond x 1 0 + n) (size_kept g s (omega arith) (λ v here. within (suc v) here)) ∙ sym (size-cons x s)
size_kept (false ∷ g) (true ∷ s) e within = absurd (false≢true (within 0 refl))
size_kept (false ∷ g) (false ∷ s) e within = omega (arith, size_kept g s (omega arith) (λ v here. within (suc v) here), size-cons false s)

pub assigned_count : (g s : Table) → length g ≡ length s → members s ⊆ members g → true_count (assignment_of g s) (size g) ≡ size s
assigned_count g s e within =
    subst (λ (n : ℕ). true_count (assignment_of g s) n ≡ size s) (length-kept g s e) (count_is (kept g s) (assignment_of g s) (λ i. ap (members (kept g s)) (before i)) ∙ size_kept g s e within)
  where
    before : (i : ℕ) → i + 1 - 1 ≡ i
    before i = omega arith
