-- Gates that are counted along a trail, and the clauses that are sets of their inputs.
use Rattle.std.proofs.Common.{◌≡◌, ℕ, ◌+◌, ◌<◌, true, false, List, [], ◌∷◌, ◌++◌, ⊎_elim, sym, ap, ◌∙◌, subst, arith, length, length-append, refl}
use Rattle.std.proofs.Math.ListN.{get_or-append}
use Rattle.std.proofs.Math.Seq.{get_or-append_seam}
use Rattle.std.proofs.lemmas.Bool.{cases_lt, false≢true}
use Rattle.lrat_model.specs.Literal.{Literal, Plus}
use Rattle.lrat_model.specs.Clauses.{Held, with_clause}
use Rattle.cardinality_counts.specs.declared.gate.Gate.{Gate}
use Rattle.cardinality_counts.specs.Gates.{IsSet}
use Rattle.cdcl_core.specs.Search.{IsState}
use Rattle.cdcl_core.specs.declared.watches.Pair.{Pair}
use Rattle.cdcl_core.specs.Watches.{lits_at, pair_at}

-- the clauses that are counted are sets of the gates' inputs
abbrev pub AreCovered : List Gate → Held → List Pair → Type 0
AreCovered gates held pairs = (p : ℕ) → p < length held → (pair_at pairs p).is_counted ≡ true → IsSet gates (lits_at held p)

-- with one clause more
pub covered_with : (gates : List Gate) (held : Held) (pairs : List Pair) → AreCovered gates held pairs → length pairs ≡ length held → (id : ℕ) (lits : List Literal) (pair : Pair) → (pair.is_counted ≡ true → IsSet gates lits) → AreCovered gates (with_clause held id lits) (pairs ++ pair ∷ [])
covered_with gates held pairs old long id lits pair own p within counted =
    let all : p < length held + 1 = omega (arith, within, length-append held ((id, lits) ∷ [])) in
    let none : Pair = record { first = Plus 0; second = Plus 0; is_counted = false } in
    ⊎_elim
    (λ less.
    let clause : lits_at (with_clause held id lits) p ≡ lits_at held p = ap (λ (e : ℕ × List Literal). e.1) (get_or-append held ((id, lits) ∷ []) (0, []) p less) in
    let same_pair : pair_at (pairs ++ pair ∷ []) p ≡ pair_at pairs p = get_or-append pairs (pair ∷ []) none p (omega (arith, less, long)) in
    subst (λ (ls : List Literal). IsSet gates ls) (sym clause) (old p less (ap (λ (x : Pair). x.is_counted) (sym same_pair) ∙ counted)))
    (λ more.
    let is : p ≡ length held = omega (arith, all, more) in
    let clause : lits_at (with_clause held id lits) p ≡ lits = ap (λ k. lits_at (with_clause held id lits) k) is ∙ ap (λ (e : ℕ × List Literal). e.1) (get_or-append_seam held (id, lits) [] (0, [])) in
    let same_pair : pair_at (pairs ++ pair ∷ []) p ≡ pair = ap (λ k. pair_at (pairs ++ pair ∷ []) k) (is ∙ sym long) ∙ get_or-append_seam pairs pair [] none in
    subst (λ (ls : List Literal). IsSet gates ls) (sym clause) (own (ap (λ (x : Pair). x.is_counted) (sym same_pair) ∙ counted)))
    (cases_lt p (length held))

-- a search begins with an empty trail
pub state_first : (n : ℕ) (trues : List Literal) (reasons : List ℕ) → trues ≡ [] → reasons ≡ [] → IsState n [] trues reasons
state_first n trues reasons no_trues no_reasons = subst (λ ls. IsState n [] ls reasons) (sym no_trues) (subst (λ rs. IsState n [] [] rs) (sym no_reasons) (record {
  trail = record {
    long = refl;
    fresh = λ place d less. absurd (omega (arith, less));
    consistent = λ l h. absurd (false≢true h);
    derived = λ place less. absurd (omega (arith, less));
  };
  closed = λ place less. absurd (omega (arith, less));
  range = λ m h. absurd (false≢true h);
  small = λ i d less. absurd (omega (arith, less));
}))
