-- The bits of the literals of a list: those of a subset are among them.
use Rattle.std.proofs.Common.{◌≡◌, ℕ, true, ◌&&◌, List, [], ◌∷◌, ⊎_elim, refl, sym, ap, ◌∙◌, arith, bit_or}
use Rattle.std.specs.Prelude.{◌==◌, false}
use Rattle.std.specs.List.{list_all, fold}
use Rattle.std.proofs.lemmas.Bool.{eqb-true, and_parts}
use Rattle.std.proofs.lemmas.Nat.{or_comm}
use Rattle.std.specs.Int.Bits.{or_self, or_zero_r}
use Rattle.std.proofs.lemmas.Nat.Bits.{same_from_bits, bit_at_or}
use Rattle.lrat_model.specs.Literal.{Literal, has, IsSubset}
use Rattle.lrat_model.proofs.Literals.{has-cons}
use Rattle.lrat_checker.specs.Keys.{bit_of, signature_of}
use Rattle.lrat_checker.specs.Subsets.{is_watch_of}
use Rattle.lrat_checker.specs.declared.subsets.Watch.{Watch}

pub bits_assoc : (a b c : ℕ) → bit_or (bit_or a b) c ≡ bit_or a (bit_or b c)
bits_assoc a b c = same_from_bits (bit_or (bit_or a b) c) (bit_or a (bit_or b c)) (λ i. omega (arith, bit_at_or (bit_or a b) c i, bit_at_or a b i, bit_at_or a (bit_or b c) i, bit_at_or b c i))

-- bits that are there stay so with more
pub still_there : (a b c : ℕ) → bit_or a c ≡ a → bit_or (bit_or a b) c ≡ bit_or a b
still_there a b c there = bits_assoc a b c ∙ ap (bit_or a) (or_comm b c) ∙ sym (bits_assoc a c b) ∙ ap (λ x. bit_or x b) there

pub just_put : (a b : ℕ) → bit_or (bit_or a b) b ≡ bit_or a b
just_put a b = bits_assoc a b b ∙ ap (bit_or a) (or_self b)

fold_keeps : (ls : List Literal) (bits : ℕ) (l : Literal) → bit_or bits (bit_of l) ≡ bits → bit_or (fold (λ bits l. bit_or bits (bit_of l)) bits ls) (bit_of l) ≡ fold (λ bits l. bit_or bits (bit_of l)) bits ls
fold_keeps [] bits l there = there
fold_keeps (x ∷ ls) bits l there = fold_keeps ls (bit_or bits (bit_of x)) l (still_there bits (bit_of x) (bit_of l) there)

has_bit_from : (ls : List Literal) (bits : ℕ) (l : Literal) → has ls l ≡ true → bit_or (fold (λ bits l. bit_or bits (bit_of l)) bits ls) (bit_of l) ≡ fold (λ bits l. bit_or bits (bit_of l)) bits ls
has_bit_from [] bits l there = absurd cc
has_bit_from (x ∷ ls) bits l there =
    ⊎_elim (λ first. fold_keeps ls (bit_or bits (bit_of x)) l (ap (λ m. bit_or (bit_or bits (bit_of x)) (bit_of m)) first ∙ just_put bits (bit_of x)))
    (λ later. has_bit_from ls (bit_or bits (bit_of x)) l later) (has-cons x l ls there)

subset_bits_from : (lits clause : List Literal) (bits : ℕ) → list_all (has lits) clause ≡ true → bit_or (signature_of lits) (fold (λ bits l. bit_or bits (bit_of l)) bits clause) ≡ bit_or (signature_of lits) bits
subset_bits_from lits [] bits all = refl
subset_bits_from lits (x ∷ clause) bits all =
    let both : (has lits x ≡ true) × (list_all (has lits) clause ≡ true) = and_parts (has lits x) (list_all (has lits) clause) all in
    let q = signature_of lits in
    subset_bits_from lits clause (bit_or bits (bit_of x)) both.1
    ∙ ap (bit_or q) (or_comm bits (bit_of x)) ∙ sym (bits_assoc q (bit_of x) bits) ∙ ap (λ b. bit_or b bits) (has_bit_from lits 0 x both.0)

pub subset_signature : (lits clause : List Literal) → IsSubset clause lits → bit_or (signature_of lits) (signature_of clause) ≡ signature_of lits
subset_signature lits clause subset = subset_bits_from lits clause 0 subset ∙ or_zero_r (signature_of lits)

-- the watch of a clause with another literal
pub other_missing : (k : ℕ) (clause lits : List Literal) (w : Watch) → ¬ (bit_or (signature_of lits) w.signature ≡ signature_of lits) → IsSubset clause lits → is_watch_of k clause w ≡ false
other_missing k clause lits w missing subset =
    elim (w.signature == signature_of clause) as (λ b. (w.signature == signature_of clause) ≡ b → ((w.id == k) && b) ≡ false) [
      | true ↦ λ same. absurd (missing (ap (bit_or (signature_of lits)) (eqb-true w.signature (signature_of clause) same) ∙ subset_signature lits clause subset))
      | false ↦ λ _. elim (w.id == k) as (λ b. (b && false) ≡ false) [ true ↦ refl | false ↦ refl ]
    ] refl
