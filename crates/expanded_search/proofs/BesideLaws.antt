-- What is held beside clauses written out, after a step over both.
use Rattle.std.proofs.Common.{◌≡◌, ◌≢◌, ◌⊎◌, ℕ, ◌+◌, ◌<◌, ◌≤◌, true, false, cond, not, ◌||◌, List, [], ◌∷◌, ⊎_elim, inl, inr, refl, sym, ap, ◌∙◌, subst, arith, map, Option, Some, None, ℤ}
use Rattle.std.specs.Prelude.{◌==◌}
use Rattle.std.proofs.lemmas.Bool.{eqb-true, eq-eqb, ne_eqb, cases_lt}
use Rattle.lrat_model.specs.Literal.{Literal, negated, has}
use Rattle.lrat_model.specs.Clauses.{Held, clause_at, with_clause, without, has_id}
use Rattle.lrat_model.specs.Steps.{Database, Addition, Deletion, after_step}
use Rattle.lrat_model.proofs.Literals.{list_all-from_has}
use Rattle.lrat_model.proofs.Runs.{clause_at-more, clause_at-filter}
use Rattle.counter_expansion.specs.Finding.{IsHeld, IsNeedless}
use Rattle.counter_expansion.specs.Gates.{Gates, AreOuter, AreWritten, IsCounted}
use Rattle.expanded_search.specs.Moved.{AreMoved}
use Rattle.expanded_search.specs.Beside.{AreBeside}
use Rattle.expanded_search.proofs.MovedLogs.{has_moved}

-- ---- one clause more, and some fewer

-- what is found among more clauses was there, or is the new one under its id
found_with : (held : Held) (k : ℕ) (lits : List Literal) (id : ℕ) (clause : List Literal) → clause_at (with_clause held k lits) id ≡ Some clause → (clause_at held id ≡ Some clause) ⊎ ((id ≡ k) × (clause ≡ lits))
found_with [] k lits id clause at =
    elim (k == id) as (λ b. (k == id) ≡ b → cond b (Some lits) None ≡ Some clause → (None ≡ Some clause) ⊎ ((id ≡ k) × (clause ≡ lits))) [
      | true ↦ λ same is. inr (sym (eqb-true k id same), cc)
      | false ↦ λ _ is. inl is
    ] refl at
found_with (e ∷ held) k lits id clause at =
    elim (e.0 == id) as (λ b. cond b (Some e.1) (clause_at (with_clause held k lits) id) ≡ Some clause → (cond b (Some e.1) (clause_at held id) ≡ Some clause) ⊎ ((id ≡ k) × (clause ≡ lits))) [
      | true ↦ λ is. inl is
      | false ↦ λ is. found_with held k lits id clause is
    ] at

-- where none was found under an id, the new clause alone may be
none_before : (held : Held) (k : ℕ) (lits : List Literal) (id : ℕ) → clause_at held id ≡ None → clause_at (with_clause held k lits) id ≡ cond (k == id) (Some lits) None
none_before [] k lits id none = refl
none_before (e ∷ held) k lits id none =
    elim (e.0 == id) as (λ b. cond b (Some e.1) (clause_at held id) ≡ None → cond b (Some e.1) (clause_at (with_clause held k lits) id) ≡ cond (k == id) (Some lits) None) [
      | true ↦ λ is. absurd cc
      | false ↦ λ is. none_before held k lits id is
    ] none

found_new : (held : Held) (k : ℕ) (lits : List Literal) → clause_at held k ≡ None → clause_at (with_clause held k lits) k ≡ Some lits
found_new held k lits none = none_before held k lits k none ∙ ap (λ b. cond b (Some lits) None) (eq-eqb k k refl)

found_none : (held : Held) (k : ℕ) (lits : List Literal) (id : ℕ) → clause_at held id ≡ None → k ≢ id → clause_at (with_clause held k lits) id ≡ None
found_none held k lits id none isnt = none_before held k lits id none ∙ ap (λ b. cond b (Some lits) None) (ne_eqb k id isnt)

-- what is found without some ids was there, and is none of them
left_without : (held : Held) (ids : List ℕ) (k : ℕ) (clause : List Literal) → clause_at (without held ids) k ≡ Some clause → (clause_at held k ≡ Some clause) × (has_id ids k ≡ false)
left_without held ids k clause at =
    elim (has_id ids k) as (λ b. cond (not b) (clause_at held k) None ≡ Some clause → (clause_at held k ≡ Some clause) × (b ≡ false)) [
      | true ↦ λ is. absurd cc
      | false ↦ λ is. (is, refl)
    ] (sym (clause_at-filter (λ j. not (has_id ids j)) held k) ∙ at)

still_without : (held : Held) (ids : List ℕ) (k : ℕ) → has_id ids k ≡ false → clause_at (without held ids) k ≡ clause_at held k
still_without held ids k stays = clause_at-filter (λ j. not (has_id ids j)) held k ∙ ap (λ b. cond (not b) (clause_at held k) None) stays

none_without : (held : Held) (ids : List ℕ) (k : ℕ) → clause_at held k ≡ None → clause_at (without held ids) k ≡ None
none_without held ids k none =
    clause_at-filter (λ j. not (has_id ids j)) held k
    ∙ ap (λ (o : Option (List Literal)). cond (not (has_id ids k)) o None) none
    ∙ elim (not (has_id ids k)) as (λ b. ◌≡◌ {A = Option (List Literal)} (cond b None None) None) [ true ↦ refl | false ↦ refl ]

-- an id up to the base is none of those that are moved
lacks_base : (from to : ℕ) (ids news : List ℕ) → AreMoved from to ids news → (k : ℕ) → k ≤ from → has_id ids k ≡ false
lacks_base from to [] [] are k low = refl
lacks_base from to [] (n ∷ news) are k low = absurd are
lacks_base from to (i ∷ ids) [] are k low = absurd are
lacks_base from to (i ∷ ids) (n ∷ news) ((past, some, is, new), are) k low =
    ap (λ b. b || has_id ids k) (ne_eqb i k (λ same. absurd (omega (arith, same, some, is, low)))) ∙ lacks_base from to ids news are k low

-- ---- steps

-- at first nothing is held past the formula, nor past what is written out
pub beside_at_first : (gates : Gates) (formula written : Database) → ((id : ℕ) → written.last < id → clause_at written.held id ≡ None) → AreBeside gates formula written formula written
beside_at_first gates formula written fresh = record {
  last = (0, omega arith, omega arith);
  lemmas = λ id clause at. inl at;
  kept = λ id clause low at. at;
  fresh = fresh;
}

module _ (gates : Gates) (formula written now beside : Database) where
  -- a lemma without literals of places is added to both
  pub beside_addition : AreBeside gates formula written now beside → (lits : List Literal) (hints more : List ℤ) → AreOuter gates lits → AreBeside gates formula written (after_step now (Addition (now.last + 1) lits more)) (after_step beside (Addition (beside.last + 1) lits hints))
  beside_addition b lits hints more outer =
      let past : ℕ = b.last.0 in
      let fresh : clause_at beside.held (beside.last + 1) ≡ None = b.fresh (beside.last + 1) (omega arith) in
      let place : beside.last + 1 ≡ written.last + (past + 1) = omega (arith, b.last.2) in record {
        last = (past + 1, omega (arith, b.last.1), omega (arith, b.last.2));
        lemmas = λ id clause at. ⊎_elim
            (λ was. ⊎_elim (λ first. inl first)
            (λ lemma. inr (lemma.0, lemma.1, lemma.2, clause_at-more beside.held (beside.last + 1) lits (written.last + lemma.0) clause lemma.3, lemma.4))
            (b.lemmas id clause was))
            (λ new. inr (
              past + 1,
              omega arith,
              omega (arith, new.0, b.last.1),
              subst (λ (k : ℕ). clause_at (with_clause beside.held (beside.last + 1) lits) k ≡ Some clause) place (found_new beside.held (beside.last + 1) lits fresh ∙ ap Some (sym new.1)),
              subst (λ (c : List Literal). AreOuter gates c) (sym new.1) outer,
            ))
            (found_with now.held (now.last + 1) lits id clause at);
        kept = λ id clause low at. clause_at-more beside.held (beside.last + 1) lits id clause (b.kept id clause low at);
        fresh = λ id above. found_none beside.held (beside.last + 1) lits id (b.fresh id (omega (arith, above))) (λ same. absurd (omega (arith, same, above)));
      }

  -- the same lemmas are deleted from both
  pub beside_deletion : AreBeside gates formula written now beside → (id new : ℕ) (ids news : List ℕ) → AreMoved written.last formula.last ids news → AreBeside gates formula written (after_step now (Deletion new news)) (after_step beside (Deletion id ids))
  beside_deletion b id new ids news moved = record {
    last = b.last;
    lemmas = λ k clause at.
        let left : (clause_at now.held k ≡ Some clause) × (has_id news k ≡ false) = left_without now.held news k clause at in
        ⊎_elim (λ first. inl first)
        (λ lemma. inr (
          lemma.0,
          lemma.1,
          lemma.2,
          still_without beside.held ids (written.last + lemma.0) (has_moved written.last formula.last ids news moved (written.last + lemma.0) k (lemma.0, lemma.1, refl, lemma.2) ∙ left.1) ∙ lemma.3,
          lemma.4,
        ))
        (b.lemmas k clause left.0);
    kept = λ k clause low at. still_without beside.held ids k (lacks_base written.last formula.last ids news moved k low) ∙ b.kept k clause low at;
    fresh = λ k above. none_without beside.held ids k (b.fresh k above);
  }

  module _ (bare : (id : ℕ) → written.last < id → clause_at written.held id ≡ None) (b : AreBeside gates formula written now beside) where
    still_held : (clause : List Literal) → IsHeld written.held clause → IsHeld beside.held clause
    still_held clause (id, at) =
        ⊎_elim
        (λ above. let none : clause_at written.held id ≡ None = bare id above in absurd cc)
        (λ low. (id, b.kept id clause (omega (arith, low)) at))
        (cases_lt written.last id)

    still_needless : (clause : List Literal) → IsNeedless written.held clause → IsNeedless beside.held clause
    still_needless clause (inl both) = inl both
    still_needless clause (inr (part, at, subset)) = inr (part, still_held part at, subset)

    -- each clause held over the formula is one of a counter, or is not needed beside those written out
    pub beside_counted : IsCounted gates formula.held written.held → IsCounted gates now.held beside.held
    beside_counted counted clause (id, at) =
        ⊎_elim
        (λ first. ⊎_elim (λ (bare_one : AreOuter gates clause × IsNeedless written.held clause). inl (bare_one.0, still_needless clause bare_one.1)) (λ of. inr of) (counted clause (id, first)))
        (λ lemma. inl (lemma.4, inr (clause, (written.last + lemma.0, lemma.3), list_all-from_has (has clause) clause (λ m h. h))))
        (b.lemmas id clause at)

    -- the sets of the inputs of each gate are still held
    pub beside_written : AreWritten gates written.held → AreWritten gates beside.held
    beside_written are g h t ps head rises long = still_needless (negated h ∷ map (gates g).x ps) (are g h t ps head rises long)
