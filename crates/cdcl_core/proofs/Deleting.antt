-- A search that deletes lemmas.
use Rattle.std.proofs.Common.{◌≡◌, ℕ, ◌+◌, ◌<◌, ◌≤◌, ◌^◌, Bool, true, false, cond, not, ◌||◌, List, [], ◌∷◌, ◌++◌, refl, sym, ap, ◌∙◌, subst, arith, length, get_or, Option, Some, None}
use Rattle.std.specs.Prelude.{All, AllPairs, filter, is_none}
use Rattle.std.proofs.lemmas.List.Elements.{All-head, All-tail, All-nil, All-push, All-filter, filter_passes, recursion_from_All}
use Rattle.std.proofs.lemmas.List.Kept.{AllPairs-filter}
use Rattle.lrat_model.specs.Literal.{Literal}
use Rattle.lrat_model.specs.Clauses.{Held, clause_at, has_id, without}
use Rattle.lrat_model.specs.Propagation.{Closes}
use Rattle.lrat_model.specs.Steps.{ProofStep, Deletion, deletion_fault, progress_of}
use Rattle.lrat_model.specs.declared.step.StepFault.TheVariants.{NoSuchClause}
use Rattle.lrat_model.specs.declared.step.Progress.TheVariants.{Going}
use Rattle.lrat_model.proofs.Runs.{clause_at-without, clause_at-filter}
use Rattle.lrat_text.specs.Texts.{IsId, HasNumbers}
use Rattle.cdcl_core.specs.declared.search.Search.{Search}
use Rattle.cdcl_core.specs.Going.{IsFurther, IsNearer}
use Rattle.cdcl_core.specs.Log.{HasNoEmptyLemma, IsBoundedLog, IsEarned, least_live, most_live, live_in, count_from}
use Rattle.cdcl_core.specs.declared.memory.TheConstants.{FEWEST_DELETED}
use Rattle.cdcl_core.specs.Remembering.{HasDeletion, IsChosen, IsRemembering}
use Rattle.cdcl_core.specs.Search.{Searched}
use Rattle.cdcl_core.specs.Searching.{IsHolding, IsLogging, IsSearching, database_in}
use Rattle.cdcl_core.specs.Trail.{InRange}
use Rattle.cdcl_core.proofs.Lives.{bounded_push, live_from-append, count_from-append, kept_filter, named_in}
use Rattle.cdcl_core.proofs.Parts.{Rises, rise_head, rise_tail, none_below}
use Rattle.cdcl_core.proofs.Runs.{id_found}
use Rattle.cdcl_core.proofs.Standing.{none_watched}

-- ids that rise and are held are deleted without a fault
deletion_none : (held : Held) (before ids : List ℕ) → Rises ids → All (λ k. All (λ j. j < k) before) ids → All (λ k. (clause : List Literal) × (clause_at held k ≡ Some clause)) ids → deletion_fault held before ids ≡ None
deletion_none held before [] rise below some = refl
deletion_none held before (id ∷ ids) rise below some =
    let found = All-head (λ k. (clause : List Literal) × (clause_at held k ≡ Some clause)) id ids some in
    let new : has_id before id ≡ false = none_below before id (All-head (λ k. All (λ j. j < k) before) id ids below) in
    let fine : (is_none (clause_at held id) || has_id before id) ≡ false = ap (λ (o : Option (List Literal)). is_none o || has_id before id) found.1 ∙ new in
    ap (λ b. cond b (Some (NoSuchClause id)) (deletion_fault held (before ++ id ∷ []) ids)) fine
    ∙ deletion_none held (before ++ id ∷ []) ids (rise_tail id ids rise)
    (λ i d within. All-push (λ j. j < get_or ids i d) before id (All-tail (λ k. All (λ j. j < k) before) id ids below i d within) (rise_head id ids rise i d within))
    (All-tail (λ k. (clause : List Literal) × (clause_at held k ≡ Some clause)) id ids some)

-- what passes a test in a filtered list passed the filter
passes : (p : ℕ → Bool) (xs : List ℕ) (k : ℕ) → has_id (filter p xs) k ≡ true → p k ≡ true
passes p xs k h = named_in (λ j. p j ≡ true) (filter p xs) k (filter_passes p xs) h

module _ (s n : Search) (needed gone : List ℕ) (made : HasDeletion s n gone) (logging : IsLogging s) (remembering : IsRemembering s) (chosen : IsChosen s.memory.ids.items needed gone) (fewest : FEWEST_DELETED ≤ length gone) (earned : least_live s.memory.deletions ≤ length s.memory.ids.items) where
  abbrev pub live : List ℕ
  live = s.memory.ids.items

  abbrev pub left : List ℕ
  left = filter (λ k. not (has_id gone k)) live

  each_held : All (λ k. (clause : List Literal) × (clause_at s.clauses k ≡ Some clause)) gone
  each_held i d within = let found = remembering.held (get_or gone i d) (chosen.named i d within) in (found.0, found.1)

  each_id : All (λ k. (0 < k) × (k ≤ s.last)) gone
  each_id i d within = let found = each_held i d within in id_found (λ k. (0 < k) × (k ≤ s.last)) s.clauses logging.holding.ids (get_or gone i d) found.0 found.1

  deletion_holding : IsHolding n
  deletion_holding = record {
    few = subst (λ k. k < 2 ^ 31) (sym made.vars) logging.holding.few;
    rise = subst (λ (h : Held). AllPairs (λ e f. e.0 < f.0) h) (sym made.clauses) (AllPairs-filter (λ (e f : ℕ × List Literal). e.0 < f.0) (λ e. not (has_id gone e.0)) s.clauses logging.holding.rise);
    ids = subst (λ k. All (λ e. (0 < e.0) × (e.0 ≤ k)) n.clauses) (sym made.last) (subst (λ (h : Held). All (λ e. (0 < e.0) × (e.0 ≤ s.last)) h) (sym made.clauses) (All-filter (λ e. not (has_id gone e.0)) (λ (e : ℕ × List Literal). (0 < e.0) × (e.0 ≤ s.last)) s.clauses logging.holding.ids));
    range = subst (λ k. InRange k n.clauses) (sym made.vars) (subst (λ (h : Held). InRange s.vars h) (sym made.clauses) (λ id clause at. logging.holding.range id clause (clause_at-without s.clauses gone id clause at)));
  }

  deletion_numbers : s.last < 2 ^ 63 → All HasNumbers n.log
  deletion_numbers small =
      let first = each_id 0 0 (omega (arith, fewest)) in
      let own : IsId s.last = (omega (arith, first.0, first.1), omega (arith, small)) in
      subst (λ (steps : List ProofStep). All HasNumbers steps) (sym made.log)
      (All-push HasNumbers s.log (Deletion s.last gone) logging.numbers (own, recursion_from_All IsId gone (λ i d within. let one = each_id i d within in (one.0, omega (arith, one.1, small)))))

  room_left : length left ≤ most_live s.vars (s.memory.deletions + 1)
  room_left = omega (arith, chosen.fewer, remembering.room)

  deletion_bounded : IsBoundedLog n.vars n.log
  deletion_bounded =
      let here : IsBoundedLog s.vars (s.log ++ Deletion s.last gone ∷ []) =
      bounded_push s.vars [] 0 s.log (Deletion s.last gone) logging.bounded
      (subst (λ (ls : List ℕ). IsEarned ls (count_from 0 s.log) gone × (length (filter (λ k. not (has_id gone k)) ls) ≤ most_live s.vars (count_from 0 s.log + 1))) remembering.live
      (subst (λ k. IsEarned live k gone × (length left ≤ most_live s.vars (k + 1))) remembering.count (
        record {
          least = fewest;
          most = chosen.most;
          named = chosen.named;
          fewer = chosen.fewer;
          earned = earned;
        },
        room_left,
      ))) in
      subst (λ k. IsBoundedLog k n.log) (sym made.vars) (subst (λ (ls : List ProofStep). IsBoundedLog s.vars ls) (sym made.log) here)

  pub deletion_logging : s.last < 2 ^ 63 → IsLogging n
  deletion_logging small = record {
    holding = deletion_holding;
    numbers = deletion_numbers small;
    bounded = deletion_bounded;
  }

  pub deletion_open : HasNoEmptyLemma s.log → HasNoEmptyLemma n.log
  deletion_open open_before = subst (λ (ls : List ProofStep). HasNoEmptyLemma ls) (sym made.log) (All-push (λ step. progress_of step ≡ Going) s.log (Deletion s.last gone) open_before refl)

  still_held : (k : ℕ) → has_id left k ≡ true → (clause : List Literal) × (clause_at n.clauses k ≡ Some clause) × (0 < length clause)
  still_held k among =
      let was = remembering.held k (kept_filter gone live k among) in
      let stays : not (has_id gone k) ≡ true = passes (λ j. not (has_id gone j)) live k among in
      (was.0, ap (λ (h : Held). clause_at h k) made.clauses ∙ clause_at-filter (λ j. not (has_id gone j)) s.clauses k ∙ ap (λ b. cond b (clause_at s.clauses k) None) stays ∙ was.1, was.2)

  pub deletion_remembering : IsRemembering n
  deletion_remembering = record {
    live = made.ids ∙ ap (λ (ls : List ℕ). filter (λ k. not (has_id gone k)) ls) remembering.live ∙ sym (live_from-append [] s.log (Deletion s.last gone ∷ [])) ∙ ap live_in (sym made.log);
    count = made.deletions ∙ ap (λ k. k + 1) remembering.count ∙ sym (count_from-append 0 s.log (Deletion s.last gone ∷ [])) ∙ ap (count_from 0) (sym made.log);
    rise = subst (λ (ls : List ℕ). Rises ls) (sym made.ids) (AllPairs-filter (λ (j k : ℕ). j < k) (λ k. not (has_id gone k)) live remembering.rise);
    held = λ k among. still_held k (subst (λ (ls : List ℕ). has_id ls k ≡ true) made.ids among);
    room = omega (arith, room_left, ap (λ (ls : List ℕ). length ls) made.ids, made.vars, made.deletions);
  }

  pub deletion_fewer : length n.memory.ids.items < length s.memory.ids.items
  deletion_fewer = omega (arith, ap (λ (ls : List ℕ). length ls) made.ids, chosen.fewer, fewest)

  pub deletion_searched : (Closes s.clauses → ⊥) → (steps : List ProofStep) × Searched s.vars (database_in s) (database_in n) s.log n.log 0 steps
  deletion_searched unclosed =
      let there : Searched s.vars (database_in s) (record { held = without s.clauses gone; last = s.last }) s.log (s.log ++ Deletion s.last gone ∷ []) 0 (Deletion s.last gone ∷ []) = record {
        log_is = refl;
        run = (deletion_none s.clauses [] gone chosen.rise (λ i d within. All-nil (λ j. j < get_or gone i d)) each_held, refl);
        lemmas = (record { own = refl; unclosed = unclosed }, tt);
        units_are = refl;
      } in (
        Deletion s.last gone ∷ [],
        subst (λ (h : Held). Searched s.vars (database_in s) (record { held = h; last = n.last }) s.log n.log 0 (Deletion s.last gone ∷ [])) (sym made.clauses)
            (subst (λ k. Searched s.vars (database_in s) (record { held = without s.clauses gone; last = k }) s.log n.log 0 (Deletion s.last gone ∷ [])) (sym made.last)
            (subst (λ (ls : List ProofStep). Searched s.vars (database_in s) (record { held = without s.clauses gone; last = s.last }) s.log ls 0 (Deletion s.last gone ∷ [])) (sym made.log) there)),
      )

  pub deletion_further : s.last < 2 ^ 63 → HasNoEmptyLemma s.log → (Closes s.clauses → ⊥) → (k : ℕ) → IsFurther s n k k
  deletion_further small open_before unclosed k = record {
    spent = record {
      vars = made.vars;
      left = omega arith;
      logging = deletion_logging small;
      searched = subst (λ j. (steps : List ProofStep) × Searched s.vars (database_in s) (database_in n) s.log n.log j steps) (omega arith) (deletion_searched unclosed);
    };
    room = ap (λ j. j + k) made.last;
    still_open = deletion_open open_before;
  }

  pub deletion_nearer : length n.pairs.items ≡ 0 → IsSearching [] n → (k : ℕ) → IsNearer s n k k
  deletion_nearer unwatched now k = record {
    remembering = deletion_remembering;
    searching = none_watched n (length n.pairs.items) unwatched now;
    smaller = omega (arith, deletion_fewer);
  }
