-- What the search's loop carries.
use Rattle.std.proofs.Common.{◌≡◌, ℕ, ◌+◌, ◌^◌, ◌<◌, ◌≤◌, true, false, cond, List, [], ◌∷◌, ◌++◌, ⊎_elim, refl, sym, ap, ◌∙◌, subst, arith, length, get_or, take, drop, Some, length-append}
use Rattle.std.specs.Prelude.{◌==◌, All, AllPairs, ℤ, pos, negsuc}
use Rattle.std.proofs.Math.Seq.{take-append_seam, get_or-append_seam}
use Rattle.std.proofs.Math.ListN.{get_or-append}
use Rattle.std.proofs.lemmas.Bool.{eqb-true, ne_eqb, cases_lt, true≢false}
use Rattle.std.proofs.lemmas.List.Elements.{All-head, All-tail, All-push, All-weaker, recursion_from_All}
use Rattle.lrat_model.specs.Steps.{ProofStep, Addition}
use Rattle.lrat_text.specs.Texts.{IsId, IsHint, HasNumbers}
use Rattle.cdcl_core.specs.Log.{NamesClause}
use Rattle.std.proofs.lemmas.List.Quantifiers.{all_pairs_push}
use Rattle.lrat_model.specs.Literal.{Literal, has}
use Rattle.lrat_model.specs.Clauses.{Held, clause_at, with_clause}
use Rattle.cdcl_core.specs.Watches.{id_at, lits_at}
use Rattle.cdcl_core.proofs.Arenas.{clause_at-place}

pub written_back : {X : Type 0} (n : ℕ) (new old : List X) → length new ≡ n → take n (new ++ drop (length new) old) ≡ new
written_back n new old e = ap (λ k. take k (new ++ drop (length new) old)) (sym e) ∙ take-append_seam new (drop (length new) old)

pub id_found : (P : ℕ → Type 0) (held : Held) → All (λ e. P e.0) held → (id : ℕ) (clause : List Literal) → clause_at held id ≡ Some clause → P id
id_found P [] all id clause at = cc
id_found P (e ∷ held) all id clause at =
    elim (e.0 == id) as (λ b. (e.0 == id) ≡ b → cond b (Some e.1) (clause_at held id) ≡ Some clause → P id) [
      | true ↦ λ same is. subst P (eqb-true e.0 id same) (All-head (λ (x : ℕ × List Literal). P x.0) e held all)
      | false ↦ λ _ is. id_found P held (All-tail (λ (x : ℕ × List Literal). P x.0) e held all) id clause is
    ] refl at

pub each_id : (held : Held) (last : ℕ) → AllPairs (λ (e f : ℕ × List Literal). e.0 < f.0) held → All (λ e. (0 < e.0) × (e.0 ≤ last)) held → last < 2 ^ 63 → (p : ℕ) → p < length held → (0 < id_at held p) × (id_at held p < 2 ^ 63) × (clause_at held (id_at held p) ≡ Some (lits_at held p))
each_id held last rise ids room p within =
    let own : (0 < id_at held p) × (id_at held p ≤ last) = ids p (0, []) within in
    (own.0, omega (arith, own.1, room), clause_at-place held rise p within)

pub ids_push : (held : Held) (last id : ℕ) (lits : List Literal) → All (λ e. (0 < e.0) × (e.0 ≤ last)) held → 0 < id → last ≤ id → All (λ e. (0 < e.0) × (e.0 ≤ id)) (with_clause held id lits)
ids_push held last id lits ids some more i d within =
    ⊎_elim
    (λ less. let own : (0 < (get_or held i d).0) × ((get_or held i d).0 ≤ last) = ids i d less in subst (λ (e : ℕ × List Literal). (0 < e.0) × (e.0 ≤ id)) (sym (get_or-append held ((id, lits) ∷ []) d i less)) (own.0, omega (arith, own.1, more)))
    (λ end. subst (λ (e : ℕ × List Literal). (0 < e.0) × (e.0 ≤ id)) (sym (ap (λ k. get_or (held ++ (id, lits) ∷ []) k d) (omega (arith, end, within, length-append held ((id, lits) ∷ []))) ∙ get_or-append_seam held (id, lits) [] d)) (some, omega arith))
    (cases_lt i (length held))

pub rise_push : (held : Held) (id : ℕ) (lits : List Literal) → AllPairs (λ (e f : ℕ × List Literal). e.0 < f.0) held → All (λ e. e.0 < id) held → AllPairs (λ (e f : ℕ × List Literal). e.0 < f.0) (with_clause held id lits)
rise_push held id lits rise below = all_pairs_push (λ (e f : ℕ × List Literal). e.0 < f.0) held (id, lits) rise (λ k d less. below k d less)

pub below_next : (held : Held) (last : ℕ) → All (λ e. (0 < e.0) × (e.0 ≤ last)) held → All (λ e. e.0 < last + 1) held
below_next held last ids k d less = omega (arith, (ids k d less).1)

pub not_empty : (ls : List Literal) → 0 < length ls → (length ls == 0) ≡ false
not_empty [] h = absurd (omega arith)
not_empty (l ∷ ls) h = ne_eqb (length (l ∷ ls)) 0 (λ e. absurd (omega (arith, e)))

pub has_some : (ls : List Literal) (l : Literal) → has ls l ≡ true → 0 < length ls
has_some [] l h = absurd (true≢false (sym h))
has_some (m ∷ ls) l h = omega arith

module _ (held : Held) (last : ℕ) (ids : All (λ e. (0 < e.0) × (e.0 ≤ last)) held) (small : last + 1 < 2 ^ 63) where
  named_in_range : (hint : ℤ) → NamesClause held hint → IsHint hint
  named_in_range (pos id) named =
      let inside = id_found (λ k. (0 < k) × (k ≤ last)) held ids id named.0 named.1 in
      (inside.0, omega (arith, inside.1, small))
  named_in_range (negsuc n) named = absurd named

  pub numbers_push : (log now : List ProofStep) (lits : List Literal) (hints : List ℤ) → All (NamesClause held) hints → All HasNumbers log → now ≡ log ++ Addition (last + 1) lits hints ∷ [] → All HasNumbers now
  numbers_push log now lits hints named numbers is =
      let own : IsId (last + 1) = (omega arith, omega (arith, small)) in
      subst (λ (steps : List ProofStep). All HasNumbers steps) (sym is)
      (All-push HasNumbers log (Addition (last + 1) lits hints) numbers (own, recursion_from_All IsHint hints (All-weaker (NamesClause held) IsHint named_in_range hints named)))
