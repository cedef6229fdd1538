-- Which ids RAT hints name, and how often a literal stands in their clauses.
use Rattle.std.proofs.Common.{◌≡◌, ℕ, suc, ◌<◌, ◌≤◌, ◌+◌, true, false, List, [], ◌∷◌, ◌++◌, refl, sym, ap, ◌∙◌, arith, Some, None, ℤ, pos, negsuc, ⊎_elim}
use Rattle.std.specs.Prelude.{◌==◌, ◌||◌}
use Rattle.std.specs.List.{list_any}
use Rattle.std.proofs.lemmas.Bool.{eqb-true, or_cases, false_from_ne_true}
use Rattle.lrat_model.specs.Literal.{Literal}
use Rattle.lrat_model.specs.Clauses.{Held, has_id}
use Rattle.rat_candidates.specs.Occurrences.{occurrences_in}
use Rattle.rat_candidates.proofs.OccurrenceLaws.{in-longer, has-one_more}
use Rattle.rat_candidates.specs.Groups.{group_id, names, ids_in}
use Rattle.rat_candidates.specs.Named.{AreNamed}
use Rattle.rat_candidates.specs.declared.hints.Named.{Named}

-- whether a hint names an id
pub names-ids : (hints : List ℤ) (id : ℕ) → list_any (λ h. names h id) hints ≡ has_id (ids_in hints) id
names-ids [] id = refl
names-ids (pos k ∷ hints) id = names-ids hints id
names-ids (negsuc n ∷ hints) id = ap (λ b. (suc n == id) || b) (names-ids hints id)

pub ids_in-append : (xs ys : List ℤ) → ids_in (xs ++ ys) ≡ ids_in xs ++ ids_in ys
ids_in-append [] ys = refl
ids_in-append (pos id ∷ xs) ys = ids_in-append xs ys
ids_in-append (negsuc n ∷ xs) ys = ap (λ ids. suc n ∷ ids) (ids_in-append xs ys)

-- ---- one hint

pub no_id : (hint : ℤ) → None ≡ group_id hint → ids_in (hint ∷ []) ≡ []
no_id (pos id) is = refl
no_id (negsuc n) is = cc

pub one_id : (hint : ℤ) (id : ℕ) → Some id ≡ group_id hint → ids_in (hint ∷ []) ≡ id ∷ []
one_id (pos k) id is = cc
one_id (negsuc n) id is = (let same : id ≡ suc n = cc in ap (λ k. k ∷ []) (sym same))

pub above_new : (held : Held) (l : Literal) (ids : List ℕ) (named : Named) (id : ℕ) → AreNamed held l ids named → named.highest < id → has_id ids id ≡ false
above_new held l ids named id are above = false_from_ne_true (has_id ids id) (λ there. (let low : id ≤ named.highest = are.below id there in absurd (omega (arith, low, above))))

below_more : (ids : List ℕ) (id high : ℕ) → ((k : ℕ) → has_id ids k ≡ true → k ≤ high) → (new : ℕ) → high ≤ new → id ≤ new → (k : ℕ) → has_id (ids ++ id ∷ []) k ≡ true → k ≤ new
below_more ids id high below new up here k there =
    ⊎_elim (λ old. (let low : k ≤ high = below k old in omega (arith, low, up)))
    (λ last. (let is : id ≡ k = eqb-true id k last in omega (arith, is, here))) (or_cases (has_id ids k) (id == k) (sym (has-one_more ids id k) ∙ there))

-- an id that does not rise
pub named_again : (held : Held) (l : Literal) (ids : List ℕ) (named : Named) (id : ℕ) → id ≤ named.highest → AreNamed held l ids named → AreNamed held l (ids ++ id ∷ []) named
named_again held l ids named id low are = record {
  below = below_more ids id named.highest are.below named.highest (omega arith) low;
  count = omega (arith, are.count, in-longer l ids id held);
}

-- one that does
pub named_more : (held : Held) (l : Literal) (ids : List ℕ) (old new : Named) (id count : ℕ) → old.highest < id → new.highest ≡ id → new.count ≤ old.count + count
    → (has_id ids id ≡ false → count + occurrences_in l ids held ≤ occurrences_in l (ids ++ id ∷ []) held) → AreNamed held l ids old → AreNamed held l (ids ++ id ∷ []) new
named_more held l ids old new id count above high low adds are = record {
  below = below_more ids id old.highest are.below new.highest (omega (arith, above, high)) (omega (arith, high));
  count = omega (arith, low, are.count, adds (above_new held l ids old id are above));
}
