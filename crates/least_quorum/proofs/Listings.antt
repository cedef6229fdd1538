-- A search for a smallest quorum that begins, and goes on: by the steps of a solver, or by a line.
use Rattle.std.proofs.Common.{◌≡◌, ℕ, ◌+◌, ◌*◌, ◌^◌, ◌<◌, ◌≤◌, ◌==◌, Bool, true, false, List, [], ◌∷◌, ◌++◌, length, refl, sym, ap, ◌∙◌, subst, arith, inl, inr, ◌⊎◌, ⊎_elim, Some, None}
use Rattle.std.proofs.lemmas.Bool.{false≢true, ne_eqb, cases_lt}
use Rattle.std.proofs.lemmas.List.{append-nil}
use Rattle.std.proofs.lemmas.List.Elements.{All-nil}
use Rattle.fbas_model.specs.Nodes.{Nodes, Table, members, size}
use Rattle.fbas_model.specs.Fbas.{Fbas, Quorum, BlocksMinimally}
use Rattle.lrat_model.specs.Literal.{Literal, clause_true}
use Rattle.lrat_model.specs.Clauses.{clause_at, has_id, numbered, Satisfies}
use Rattle.lrat_model.specs.Runs.{Run, formula_database}
use Rattle.lrat_model.specs.Steps.{ProofStep, Database, progress_of}
use Rattle.lrat_model.specs.declared.step.Progress.TheVariants.{Going}
use Rattle.lrat_text.specs.Texts.{IsId}
use Rattle.cdcl_core.specs.Log.{AreLemmas, IsBoundedLog, live_in, units, HasNoEmptyLemma, EndsEmpty}
use Rattle.cdcl_core.specs.Solving.{Solving, logged}
use Rattle.clause_encoder.specs.NameCounter.{counter_vars, counter_of}
use Rattle.clause_encoder.proofs.NameCounts.{square}
use Rattle.enumeration_journal.specs.Kinds.{is_sought}
use Rattle.enumeration_journal.specs.Journals.{JournalLine, JournalRun, line_progress, IsOpen, journal_units, AreUseful, put_if}
use Rattle.enumeration_journal.specs.declared.kinds.ListKind.TheVariants.{Partial}
use Rattle.enumeration_journal.specs.declared.kinds.Listed.{Listed}
use Rattle.enumeration_journal.specs.declared.kinds.Listed.TheVariants.{Smaller, Blocking}
use Rattle.enumeration_journal.proofs.Greatest.{IsGreatest}
use Rattle.enumeration_journal.proofs.Ids.{AreBelow, below_run}
use Rattle.enumeration_journal.proofs.Runs.{AsksMore}
use Rattle.blocking_lists.specs.Lines.{ListLine, merged, AreForgetting, listed_in}
use Rattle.blocking_lists.specs.Search.{IsListed}
use Rattle.blocking_lists.proofs.Listed.{line_at, places_more, ids_more, short_more}
use Rattle.blocking_lists.proofs.Merged.{listed_append}
use Rattle.blocking_lists.proofs.Searches.{search_steps, search_refuted, empty_stays}
use Rattle.blocking_lists.proofs.Short.{short_nothing}
use Rattle.least_journal.specs.Least.{clause_in, least_of, AreSmaller}
use Rattle.least_journal.proofs.Sizing.{some_size}
use Rattle.least_quorum.specs.Search.{best_of, best_in, IsLeastListing, IsWholeLeastListing}
use Rattle.least_quorum.specs.Staying.{Stays, clause_of_size}
use Rattle.least_quorum.proofs.Falling.{best_push, falling_push}
use Rattle.least_quorum.proofs.Lines.{quorum_listed, block_listed}
use Rattle.least_quorum.proofs.StayingLaws.{stays, still_low, stays_given, given_stays, low_given, counter_given}

-- what a whole journal asks to be new is nothing
least_asks : (f : Fbas) (b : Nodes) (g : Table) → AsksMore (least_of f b g)
least_asks f b g which h = absurd (false≢true h)

-- no clause of a formula is held under an id above their number
none_above : (first id : ℕ) (clauses : List (List Literal)) → length clauses + first < id + 1 → clause_at (numbered first clauses) id ≡ None
none_above first id [] high = refl
none_above first id (clause ∷ clauses) high =
    let other : (first == id) ≡ false = ne_eqb first id (λ e. absurd (omega (arith, e))) in
    rw other (none_above (first + 1) id clauses (omega arith))

start_below : (f : Fbas) (b : Nodes) (g : Table) → AreBelow (least_of f b g).start
start_below f b g k high = none_above 1 k (counter_of (size g)) (omega arith)

-- ---- the beginning

module _ (f : Fbas) (b : Nodes) (g : Table) (total : ℕ) (solver : Solving) (vars_are : solver.vars ≡ counter_vars (size g)) (database_is : solver.database ≡ formula_database (counter_of (size g))) (log_is : solver.log ≡ []) where
  first_last : solver.database.last ≡ size g * size g
  first_last = ap (λ (d : Database). d.last) database_is ∙ square (size g) (size g)

  given_first : (id : ℕ) (clause : List Literal) → clause_at (numbered 1 (counter_of (size g))) id ≡ Some clause → Stays solver id clause
  given_first id clause at = record {
    held = subst (λ (d : Database). clause_at d.held id ≡ Some clause) (sym database_is) at;
    given = subst (λ (log : List ProofStep). has_id (live_in log) id ≡ false) (sym log_is) refl;
    low = elim (cases_lt solver.database.last id) [
      | inl high ↦ absurd (let none = none_above 1 id (counter_of (size g)) (omega (arith, high, ap (λ (d : Database). d.last) database_is)) in cc)
      | inr low ↦ low
    ];
  }

  pub least_start : IsLeastListing f b g total total [] solver
  least_start = record {
    top = size g * size g + total;
    between = omega arith;
    ids = All-nil (λ (l : ListLine). IsId l.id);
    falling = tt;
    some = omega arith;
    short = short_nothing (counter_vars (size g)) solver.log log_is;
    search = record {
      vars = vars_are;
      run = subst (λ (ls : List ProofStep). JournalRun (least_of f b g) Partial (least_of f b g).start (merged 0 [] ls) solver.database) (sym log_is) database_is;
      useful = inr (subst (λ (ls : List ProofStep). AreUseful (least_of f b g) (least_of f b g).start (merged 0 [] ls)) (sym log_is) tt);
      forgets = subst (λ (ls : List ProofStep). AreForgetting (least_of f b g) (least_of f b g).start (merged 0 [] ls)) (sym log_is) tt;
      opens = subst (λ (ls : List ProofStep). IsOpen (merged 0 [] ls)) (sym log_is) (All-nil (λ (line : JournalLine). line_progress line ≡ Going));
      log_opens = subst (λ (ls : List ProofStep). HasNoEmptyLemma ls) (sym log_is) (All-nil (λ (step : ProofStep). progress_of step ≡ Going));
      taken = subst (λ (ls : List ProofStep). journal_units (least_of f b g) (merged 0 [] ls) + total ≡ total) (sym log_is) (omega arith);
      room = omega (arith, first_last);
    };
    counter = given_first;
    bound = inl refl;
    low = λ id high. subst (λ (log : List ProofStep). has_id (live_in log) id ≡ false) (sym log_is) refl;
    limit = omega arith;
  }

-- ---- a log that goes on

module _ (f : Fbas) (b : Nodes) (g : Table) (total left left_then : ℕ) (lines : List ListLine) (old new : Solving)
    (is : IsLeastListing f b g total left lines old) (log_is : new.log ≡ old.log ++ logged old new)
    (run : Run old.vars old.database (logged old new) new.database) (lemmas : AreLemmas old.vars old.database (logged old new)) (count : left_then + units (logged old new) ≡ left)
    (vars : new.vars ≡ old.vars) (bounds : IsBoundedLog new.vars new.log) (few : length new.log ≤ 2 * units new.log + 1) where
  pub least_steps : HasNoEmptyLemma new.log → new.database.last + left_then ≡ old.database.last + left
      → ((id : ℕ) (clause : List Literal) → clause_at old.database.held id ≡ Some clause → (clause_at new.database.held id ≡ Some clause) ⊎ ((has_id (live_in old.log) id ≡ true) × (0 < length clause)))
      → IsLeastListing f b g total left_then lines new
  least_steps opens room kept =
      let on = search_steps (least_of f b g) (least_asks f b g) total left left_then is.top lines old new is.between is.short is.search log_is run lemmas count vars bounds few opens room (empty_stays old new kept) in record {
        top = is.top;
        between = on.0;
        ids = is.ids;
        falling = is.falling;
        some = is.some;
        short = on.1;
        search = on.2;
        counter = λ id clause at. stays old new id clause log_is run lemmas kept (is.counter id clause at);
        bound = ⊎_elim
            (λ (none : best_in g lines ≡ size g + 1). inl none)
            (λ (there : (id : ℕ) × Stays old id (clause_of_size g (best_in g lines))). inr (there.0, stays old new there.0 (clause_of_size g (best_in g lines)) log_is run lemmas kept there.1))
            is.bound;
        low = still_low old new log_is run lemmas is.low;
        limit = is.limit;
      }

  pub least_refuted : EndsEmpty new.log → IsWholeLeastListing f b g total left_then lines new.log
  least_refuted ends =
      let whole = search_refuted (least_of f b g) (least_asks f b g) total left left_then is.top lines old new is.between is.short is.search log_is run lemmas count vars bounds few ends in record {
        between = whole.0;
        ids = is.ids;
        falling = is.falling;
        some = is.some;
        short = whole.1;
        journal_is = whole.2;
        forgets = whole.3;
        taken = whole.4;
      }

-- ---- a set more

sets_more : (which : Listed) (clause : List Literal) (set : Table) (lines lines_then : List ListLine) (old new : Solving) → IsListed which clause set lines lines_then old new
    → listed_in Smaller lines_then ≡ listed_in Smaller lines ++ put_if (is_sought Smaller which) set []
sets_more which clause set lines lines_then old new done = ap (listed_in Smaller) done.listed ∙ listed_append Smaller lines (line_at old which set ∷ [])

module _ (f : Fbas) (b : Nodes) (g : Table) (greatest : IsGreatest f b g) (total : ℕ) (lines lines_then : List ListLine) (old new : Solving) (small : old.database.last + 1 < 2 ^ 63) where
  -- a quorum that is smaller than the one before it
  module _ (u : Table) (places : length u ≡ length f) (quorum : Quorum f b (members u)) (fewer : size u < best_in g lines) (done : IsListed Smaller (clause_in g Smaller u) u lines lines_then old new) where
    sets_then : listed_in Smaller lines_then ≡ listed_in Smaller lines ++ u ∷ []
    sets_then = sets_more Smaller (clause_in g Smaller u) u lines lines_then old new done

    pub best_then : best_in g lines_then ≡ size u
    best_then = ap (best_of (size g + 1)) sets_then ∙ best_push (size g + 1) (listed_in Smaller lines) u

    pub least_quorum_line : (left : ℕ) → IsLeastListing f b g total left lines old → IsLeastListing f b g total left lines_then new
    least_quorum_line left is =
        let clause : List Literal = clause_in g Smaller u in
        let below : AreBelow old.database = below_run (least_of f b g) Partial (least_of f b g).start (merged 0 lines old.log) old.database is.search.run (start_below f b g) in record {
          top = is.top + 1;
          between = places_more Smaller clause u lines lines_then old new done is.between;
          ids = ids_more Smaller clause u lines lines_then old new done small is.ids;
          falling = subst (λ (sets : List Table). AreSmaller (size g + 1) sets) (sym sets_then) (falling_push (size g + 1) (listed_in Smaller lines) u is.falling fewer);
          some = subst (λ (n : ℕ). 0 < n) (sym best_then) (some_size u quorum.inhabited);
          short = short_more Smaller clause u lines lines_then old new done (counter_vars (size g)) is.short;
          search = quorum_listed f b g greatest total u lines lines_then old new is.between left is.top is.search places quorum done;
          counter = counter_given old new clause done.log done.last done.held (size g) is.counter;
          bound = inr (old.database.last + 1, subst (λ (n : ℕ). Stays new (old.database.last + 1) (clause_of_size g n)) (sym best_then) (given_stays old new clause done.log done.last done.held below is.low));
          low = low_given old new clause done.log done.last done.held is.low;
          limit = omega (arith, is.limit, best_then, fewer);
        }

  -- a minimal blocking set
  module _ (s : Table) (places : length s ≡ length f) (blocks : BlocksMinimally f b (members s)) (a : ℕ → Bool) (solves : Satisfies a old.database.held) (out : clause_true a (clause_in g Blocking s) ≡ false)
      (done : IsListed Blocking (clause_in g Blocking s) s lines lines_then old new) where
    same_sets : listed_in Smaller lines_then ≡ listed_in Smaller lines
    same_sets = sets_more Blocking (clause_in g Blocking s) s lines lines_then old new done ∙ append-nil (listed_in Smaller lines)

    pub same_best : best_in g lines_then ≡ best_in g lines
    same_best = ap (best_of (size g + 1)) same_sets

    pub least_block_line : (left : ℕ) → IsLeastListing f b g total (left + 1) lines old → IsLeastListing f b g total left lines_then new
    least_block_line left is =
        let clause : List Literal = clause_in g Blocking s in record {
          top = is.top;
          between = places_more Blocking clause s lines lines_then old new done is.between;
          ids = ids_more Blocking clause s lines lines_then old new done small is.ids;
          falling = subst (λ (sets : List Table). AreSmaller (size g + 1) sets) (sym same_sets) is.falling;
          some = subst (λ (n : ℕ). 0 < n) (sym same_best) is.some;
          short = short_more Blocking clause s lines lines_then old new done (counter_vars (size g)) is.short;
          search = block_listed f b g greatest total s lines lines_then old new is.between left is.top is.search places blocks a solves out (start_below f b g) done;
          counter = counter_given old new clause done.log done.last done.held (size g) is.counter;
          bound = ⊎_elim
              (λ (none : best_in g lines ≡ size g + 1). inl (same_best ∙ none))
              (λ (there : (id : ℕ) × Stays old id (clause_of_size g (best_in g lines))).
              inr (there.0, subst (λ (n : ℕ). Stays new there.0 (clause_of_size g n)) (sym same_best) (stays_given old new clause done.log done.last done.held there.0 (clause_of_size g (best_in g lines)) there.1)))
              is.bound;
          low = low_given old new clause done.log done.last done.held is.low;
          limit = omega (arith, is.limit, same_best);
        }
