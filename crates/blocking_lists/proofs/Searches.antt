-- A search that goes on: by the steps of a solver, or by a line.
use Rattle.std.proofs.Common.{◌≡◌, ℕ, zero, suc, ◌+◌, ◌*◌, ◌^◌, ◌<◌, ◌≤◌, Bool, true, false, List, [], ◌∷◌, ◌++◌, map, length, refl, sym, ap, ◌∙◌, subst, arith, inl, inr, ◌⊎◌, ⊎_elim, Some}
use Rattle.std.specs.Prelude.{All}
use Rattle.std.proofs.lemmas.Bool.{both_ways, false≢true}
use Rattle.std.proofs.lemmas.List.{length-append}
use Rattle.std.proofs.lemmas.List.Elements.{All-nil, All-cons, All-tail}
use Rattle.fbas_model.specs.Nodes.{Nodes, Table, members, IsInhabited, size, listed_from}
use Rattle.fbas_model.specs.Fbas.{Fbas}
use Rattle.fbas_model.proofs.Sizes.{empty_or_not}
use Rattle.lrat_model.specs.Literal.{Literal, has, clause_true}
use Rattle.lrat_model.specs.Clauses.{Held, clause_at, has_id, with_clause, Satisfies}
use Rattle.lrat_model.specs.Steps.{ProofStep, Database, progress_of}
use Rattle.lrat_model.specs.Runs.{Run}
use Rattle.lrat_model.specs.Propagation.{Closes}
use Rattle.lrat_model.specs.declared.step.Progress.TheVariants.{Going}
use Rattle.lrat_model.proofs.Literals.{has-first, has-rest}
use Rattle.cdcl_core.specs.Log.{AreLemmas, IsBoundedLog, live_in, units, HasNoEmptyLemma, EndsEmpty}
use Rattle.cdcl_core.specs.Solving.{Solving, logged}
use Rattle.enumeration_journal.specs.Kinds.{is_sought, signed, asks_new, IsMinimal}
use Rattle.enumeration_journal.specs.Numbering.{variable_in, clause_for}
use Rattle.enumeration_journal.specs.Journals.{JournalLine, SetLine, Rules, list_of, RightFor, IsNewIf, nothing_held, JournalRun, line_progress, IsOpen, EndsRefuted, IsWholeJournal, journal_units, AreUseful}
use Rattle.enumeration_journal.specs.declared.kinds.ListKind.TheVariants.{Whole, Partial}
use Rattle.blocking_lists.specs.Lines.{ListLine, step_lines, merged, AreBetween, AreForgetting}
use Rattle.enumeration_journal.specs.Lists.{IsMinimalSet}
use Rattle.blocking_lists.specs.Outcomes.{rules, HasFewSteps, PartHolds}
use Rattle.blocking_lists.specs.Search.{HoldsEmpty, IsSearch, IsListing, IsListed, IsShortLog, IsWholeListing}
use Rattle.enumeration_journal.specs.declared.kinds.Listed.{Listed}
use Rattle.enumeration_journal.proofs.Greatest.{IsGreatest}
use Rattle.enumeration_journal.proofs.Duality.{is_of, minimal_within}
use Rattle.lrat_model.specs.Lemmas.{IsNew}
use Rattle.blocking_lists.proofs.Models.{new_where_false, useful_where_false, empty_closes}
use Rattle.enumeration_journal.proofs.Runs.{AsksMore, lists_ask_more, run_append, whole_from_partial, useful_append, units_append, open_append}
use Rattle.blocking_lists.proofs.Runs.{steps_partial, steps_whole, steps_useful, forgetting_append, steps_forgetting, units_steps, open_steps, ends_in_steps, ends_refuted}
use Rattle.enumeration_journal.proofs.Ids.{AreBelow, below_run, found_new}
use Rattle.blocking_lists.proofs.Listed.{database_then, still_empty, journal_more, places_more, each_more, ids_more, short_more}
use Rattle.blocking_lists.proofs.Merged.{between_more, merged_steps}
use Rattle.blocking_lists.proofs.Short.{short_log}
use Rattle.enumeration_journal.proofs.Places.{next_place, same_place}

-- ---- steps

all_later : (P : ProofStep → Type 0) (log steps : List ProofStep) → All P (log ++ steps) → All P steps
all_later P [] steps h = h
all_later P (x ∷ log) steps h = all_later P log steps (All-tail P x (log ++ steps) h)

no_empty_later : (log steps : List ProofStep) → HasNoEmptyLemma (log ++ steps) → HasNoEmptyLemma steps
no_empty_later log steps h = all_later (λ s. progress_of s ≡ Going) log steps h

module _ (r : Rules) (more : AsksMore r) (total left left_then top : ℕ) (lines : List ListLine) (old new : Solving)
    (between : AreBetween 0 (length old.log) lines) (short : IsShortLog r.vars old.log) (is : IsSearch r total left top (merged 0 lines old.log) old) (log_is : new.log ≡ old.log ++ logged old new)
    (run : Run old.vars old.database (logged old new) new.database) (lemmas : AreLemmas old.vars old.database (logged old new)) (count : left_then + units (logged old new) ≡ left)
    (vars : new.vars ≡ old.vars) (bounds : IsBoundedLog new.vars new.log) (few : length new.log ≤ 2 * units new.log + 1) where
  journal_is : merged 0 lines new.log ≡ merged 0 lines old.log ++ step_lines (logged old new)
  journal_is = ap (λ (steps : List ProofStep). merged 0 lines steps) log_is ∙ merged_steps 0 (length old.log) lines old.log (logged old new) between (omega arith)

  counted : journal_units r (merged 0 lines new.log) + left_then ≡ total
  counted = omega (arith, ap (journal_units r) journal_is, units_append r (merged 0 lines old.log) (step_lines (logged old new)), units_steps r (logged old new), is.taken, count)

  run_is : Run r.vars old.database (logged old new) new.database
  run_is = subst (λ (n : ℕ). Run n old.database (logged old new) new.database) is.vars run

  lemmas_are : AreLemmas r.vars old.database (logged old new)
  lemmas_are = subst (λ (n : ℕ). AreLemmas n old.database (logged old new)) is.vars lemmas

  still_forgets : AreForgetting r r.start (merged 0 lines new.log)
  still_forgets = subst (λ (ls : List JournalLine). AreForgetting r r.start ls) (sym journal_is)
      (forgetting_append r Partial r.start (merged 0 lines old.log) (step_lines (logged old new)) old.database is.run is.forgets (steps_forgetting old.vars r old.database (logged old new) lemmas))

  still_between : AreBetween 0 (length new.log) lines
  still_between = between_more 0 (length old.log) (length new.log) lines between (omega (arith, ap (λ (steps : List ProofStep). length steps) log_is, length-append old.log (logged old new)))

  still_short : IsShortLog r.vars new.log
  still_short = short_log r.vars old.database old.log (logged old new) new.log log_is lemmas_are short (subst (λ (n : ℕ). IsBoundedLog n new.log) (vars ∙ is.vars) bounds) few

  -- by steps without the empty lemma
  pub search_steps : HasNoEmptyLemma new.log → new.database.last + left_then ≡ old.database.last + left → (HoldsEmpty old.database.held → HoldsEmpty new.database.held)
      → AreBetween 0 (length new.log) lines × IsShortLog r.vars new.log × IsSearch r total left_then top (merged 0 lines new.log) new
  search_steps opens room kept =
      let steps : List ProofStep = logged old new in
      let journal : List JournalLine = merged 0 lines old.log in
      let steps_open : HasNoEmptyLemma steps = no_empty_later old.log steps (subst (λ (ls : List ProofStep). HasNoEmptyLemma ls) log_is opens) in
      let back = sym journal_is in (
        still_between,
        still_short,
        record {
          vars = vars ∙ is.vars;
          run = subst (λ (ls : List JournalLine). JournalRun r Partial r.start ls new.database) back
              (run_append r Partial r.start journal (step_lines steps) old.database new.database is.run (steps_partial r old.database steps new.database run_is lemmas_are steps_open));
          useful = ⊎_elim
              (λ (empty : HoldsEmpty old.database.held). inl (kept empty))
              (λ useful. inr (subst (λ (ls : List JournalLine). AreUseful r r.start ls) back
              (useful_append r Partial r.start journal (step_lines steps) old.database is.run useful (steps_useful old.vars r old.database steps lemmas steps_open))))
              is.useful;
          forgets = still_forgets;
          opens = subst (λ (ls : List JournalLine). IsOpen ls) back (open_append journal (step_lines steps) is.opens (open_steps steps steps_open));
          log_opens = opens;
          taken = counted;
          room = room ∙ is.room;
        },
      )

  -- by steps that end with the empty lemma
  pub search_refuted : EndsEmpty new.log
      → AreBetween 0 (length new.log) lines × IsShortLog r.vars new.log × IsWholeJournal r (merged 0 lines new.log) × AreForgetting r r.start (merged 0 lines new.log) × (journal_units r (merged 0 lines new.log) + left_then ≡ total)
  search_refuted (before, last, log_then, ends, only) =
      let steps : List ProofStep = logged old new in
      let journal : List JournalLine = merged 0 lines old.log in
      let back = sym journal_is in (
        still_between,
        still_short,
        record {
          ends = subst (λ (ls : List JournalLine). EndsRefuted ls) back (ends_refuted journal steps is.opens (ends_in_steps old.log steps before last (sym log_is ∙ log_then) is.log_opens only ends));
          after = new.database;
          run = subst (λ (ls : List JournalLine). JournalRun r Whole r.start ls new.database) back
              (run_append r Whole r.start journal (step_lines steps) old.database new.database (whole_from_partial r more r.start journal old.database is.run) (steps_whole r old.database steps new.database run_is));
        },
        still_forgets,
        counted,
      )

-- a search that spent its units
pub search_spent : (k : Listed) (f : Fbas) (b : Table) (total left top : ℕ) (journal : List JournalLine) (solver : Solving) → IsSearch (rules k f b) total left top journal solver → HasFewSteps (rules k f b) journal → left ≡ 0 → (Closes solver.database.held → ⊥) → PartHolds k f b total journal
search_spent k f b total left top journal solver is few none unclosed = record {
  after = solver.database;
  journal_is = record { opens = is.opens; run = is.run };
  useful = ⊎_elim (λ empty. absurd (unclosed (empty_closes solver.database.held empty))) (λ useful. useful) is.useful;
  unclosed = unclosed;
  few_steps = few;
  forgets = is.forgets;
  taken = omega (arith, is.taken);
}

-- ---- a line

-- a clause has the literal of each member
pub has_member : (p : ℕ → Literal) (k : ℕ) (t : Table) (w : ℕ) → members t w ≡ true → has (map p (listed_from k t)) (p (k + w)) ≡ true
has_member p k [] w here = absurd (false≢true here)
has_member p k (true ∷ t) zero here = subst (λ (x : ℕ). has (p k ∷ map p (listed_from (k + 1) t)) (p x) ≡ true) (sym (same_place k)) (has-first (p k) (map p (listed_from (k + 1) t)))
has_member p k (true ∷ t) (suc w) here = has-rest (p k) (p (k + suc w)) (map p (listed_from (k + 1) t)) (subst (λ (x : ℕ). has (map p (listed_from (k + 1) t)) (p x) ≡ true) (sym (next_place k w)) (has_member p (k + 1) t w here))
has_member p k (false ∷ t) zero here = absurd (false≢true here)
has_member p k (false ∷ t) (suc w) here = subst (λ (x : ℕ). has (map p (listed_from (k + 1) t)) (p x) ≡ true) (sym (next_place k w)) (has_member p (k + 1) t w here)

pub none_listed : (p : ℕ → Literal) (k : ℕ) (t : Table) → ((w : ℕ) → members t w ≡ false) → map p (listed_from k t) ≡ []
none_listed p k [] none = refl
none_listed p k (true ∷ t) none = absurd (both_ways true (none 0) refl)
none_listed p k (false ∷ t) none = none_listed p (k + 1) t (λ w. none (suc w))

pub above_last : (n : ℕ) → n < n + 1
above_last n = omega arith

-- a minimal set may be listed
right_minimal : (sought : Bool) (which : Listed) (f : Fbas) (b : Nodes) (g s : Table) → IsGreatest f b g → IsMinimal which f b (members s) → RightFor sought which f b g s
right_minimal true which f b g s greatest is = is
right_minimal false which f b g s greatest is = (is_of which f b (members s) is, minimal_within which f b g (members s) greatest is)

new_if : (asked : Bool) (held : Held) (lits : List Literal) → IsNew held lits → IsNewIf asked held lits
new_if true held lits h = h
new_if false held lits h = tt

line_run : (k : Listed) (f : Fbas) (b : Nodes) (g : Table) (which : Listed) (set : Table) (d new : Database) → IsGreatest f b g → IsMinimalSet which f b set → (a : ℕ → Bool) → Satisfies a d.held → clause_true a (clause_for k g which set) ≡ false
    → new ≡ record { held = with_clause d.held (d.last + 1) (clause_for k g which set); last = d.last + 1 } → JournalRun (list_of k f b g) Partial d (SetLine which (d.last + 1) set ∷ []) new
line_run k f b g which set d new greatest minimal a solves out is =
    ((above_last d.last, (minimal.0, right_minimal (is_sought k which) which f b g set greatest minimal.1)), new_if (asks_new k Partial which) d.held (clause_for k g which set) (new_where_false a d.held (clause_for k g which set) solves out), is)

line_useful : (k : Listed) (f : Fbas) (b : Nodes) (g : Table) (which : Listed) (set : Table) (d : Database) → AreBelow d → (a : ℕ → Bool) → Satisfies a d.held → clause_true a (clause_for k g which set) ≡ false
    → HoldsEmpty (with_clause d.held (d.last + 1) (clause_for k g which set)) ⊎ AreUseful (list_of k f b g) d (SetLine which (d.last + 1) set ∷ [])
line_useful k f b g which set d below a solves out =
    let p : ℕ → Literal = λ v. signed k which (variable_in g v) in
    ⊎_elim
    (λ none.
    let nothing : clause_for k g which set ≡ [] = none_listed p 0 set (λ w. ap (λ (s : Nodes). s w) none) in
    inl (d.last + 1, found_new d.held (d.last + 1) (clause_for k g which set) (below (d.last + 1) (above_last d.last)) ∙ ap Some nothing))
    (λ (w : IsInhabited (members set)). inr (useful_where_false a d.held (clause_for k g which set) (p (zero + w.0)) solves out (has_member p 0 set w.0 w.1), tt))
    (empty_or_not set)

line_open : (which : Listed) (id : ℕ) (set : Table) → IsOpen (SetLine which id set ∷ [])
line_open which id set = All-cons (λ line. line_progress line ≡ Going) (SetLine which id set) [] refl (All-nil (λ line. line_progress line ≡ Going))

empty_database : AreBelow nothing_held
empty_database k h = refl

-- a set listed by any rules, where its line may stand and is of use
module _ (r : Rules) (which : Listed) (clause : List Literal) (set : Table) (lines lines_then : List ListLine) (old new : Solving)
    (listed : IsListed which clause set lines lines_then old new) (between : AreBetween 0 (length old.log) lines) where
  pub search_set : (total left left_then top top_then : ℕ) → IsSearch r total left top (merged 0 lines old.log) old
      → JournalRun r Partial old.database (SetLine which (old.database.last + 1) set ∷ []) new.database
      → HoldsEmpty new.database.held ⊎ AreUseful r old.database (SetLine which (old.database.last + 1) set ∷ [])
      → left_then + r.cost which ≡ left → new.database.last + left_then ≡ top_then → IsSearch r total left_then top_then (merged 0 lines_then new.log) new
  search_set total left left_then top top_then is one useful_one cost room =
      let line : JournalLine = SetLine which (old.database.last + 1) set in
      let journal : List JournalLine = merged 0 lines old.log in
      let journal_is : merged 0 lines_then new.log ≡ journal ++ line ∷ [] = journal_more which clause set lines lines_then old new listed between in
      let back = sym journal_is in record {
        vars = listed.vars ∙ is.vars;
        run = subst (λ (ls : List JournalLine). JournalRun r Partial r.start ls new.database) back (run_append r Partial r.start journal (line ∷ []) old.database new.database is.run one);
        useful = ⊎_elim
            (λ (empty : HoldsEmpty old.database.held). inl (still_empty which clause set lines lines_then old new listed empty))
            (λ useful. ⊎_elim
            (λ (empty : HoldsEmpty new.database.held). inl empty)
            (λ one_is. inr (subst (λ (ls : List JournalLine). AreUseful r r.start ls) back (useful_append r Partial r.start journal (line ∷ []) old.database is.run useful one_is)))
            useful_one)
            is.useful;
        forgets = subst (λ (ls : List JournalLine). AreForgetting r r.start ls) back (forgetting_append r Partial r.start journal (line ∷ []) old.database is.run is.forgets (tt, tt));
        opens = subst (λ (ls : List JournalLine). IsOpen ls) back (open_append journal (line ∷ []) is.opens (line_open which (old.database.last + 1) set));
        log_opens = subst (λ (ls : List ProofStep). HasNoEmptyLemma ls) (sym listed.log) is.log_opens;
        taken = omega (arith, ap (journal_units r) journal_is, units_append r journal (line ∷ []), is.taken, cost);
        room = room;
      }

-- ---- listed sets among the steps

-- no deletion takes the empty clause, which has no literal
pub empty_stays : (old new : Solving)
    → ((id : ℕ) (clause : List Literal) → clause_at old.database.held id ≡ Some clause → (clause_at new.database.held id ≡ Some clause) ⊎ ((has_id (live_in old.log) id ≡ true) × (0 < length clause)))
    → HoldsEmpty old.database.held → HoldsEmpty new.database.held
empty_stays old new kept empty = (empty.0, ⊎_elim (λ there. there) (λ gone. absurd (omega (arith, gone.1))) (kept empty.0 [] empty.1))

-- a log that goes on
module _ (k : Listed) (f : Fbas) (b : Nodes) (g : Table) (total left left_then : ℕ) (lines : List ListLine) (old new : Solving)
    (is : IsListing k f b g total left lines old) (log_is : new.log ≡ old.log ++ logged old new)
    (run : Run old.vars old.database (logged old new) new.database) (lemmas : AreLemmas old.vars old.database (logged old new)) (count : left_then + units (logged old new) ≡ left)
    (vars : new.vars ≡ old.vars) (bounds : IsBoundedLog new.vars new.log) (few : length new.log ≤ 2 * units new.log + 1) where
  pub listing_steps : HasNoEmptyLemma new.log → new.database.last + left_then ≡ old.database.last + left
      → (HoldsEmpty old.database.held → HoldsEmpty new.database.held) → IsListing k f b g total left_then lines new
  listing_steps opens room kept =
      let on = search_steps (list_of k f b g) (lists_ask_more k f b g) total left left_then total lines old new is.between is.short is.search log_is run lemmas count vars bounds few opens room kept in record {
        between = on.0;
        ids = is.ids;
        minimal = is.minimal;
        short = on.1;
        search = on.2;
      }

  pub listing_refuted : EndsEmpty new.log → IsWholeListing k f b g total left_then lines new.log
  listing_refuted ends =
      let whole = search_refuted (list_of k f b g) (lists_ask_more k f b g) total left left_then total lines old new is.between is.short is.search log_is run lemmas count vars bounds few ends in record {
        between = whole.0;
        ids = is.ids;
        minimal = is.minimal;
        short = whole.1;
        journal_is = whole.2;
        forgets = whole.3;
        taken = whole.4;
      }

-- a set more
pub listing_line : (k : Listed) (f : Fbas) (b : Nodes) (g : Table) (total left : ℕ) → total < 2 ^ 63 → (lines lines_then : List ListLine) (old new : Solving) (which : Listed) (set : Table)
    → IsListing k f b g total (left + 1) lines old → (a : ℕ → Bool) → Satisfies a old.database.held → IsGreatest f b g → IsMinimalSet which f b set → clause_true a (clause_for k g which set) ≡ false
    → IsListed which (clause_for k g which set) set lines lines_then old new → IsListing k f b g total left lines_then new
listing_line k f b g total left small lines lines_then old new which set is a solves greatest minimal out listed =
    let d : Database = old.database in
    let clause : List Literal = clause_for k g which set in
    let room = is.search.room in
    let below : AreBelow d = below_run (list_of k f b g) Partial nothing_held (merged 0 lines old.log) d is.search.run empty_database in record {
      between = places_more which clause set lines lines_then old new listed is.between;
      ids = ids_more which clause set lines lines_then old new listed (omega arith) is.ids;
      minimal = each_more which clause set lines lines_then old new listed (λ (l : ListLine). IsMinimalSet l.which f b l.set) minimal is.minimal;
      short = short_more which clause set lines lines_then old new listed (size g) is.short;
      search = search_set (list_of k f b g) which clause set lines lines_then old new listed is.between total (left + 1) left total total is.search
          (line_run k f b g which set d new.database greatest minimal a solves out (database_then which clause set lines lines_then old new listed))
          (⊎_elim (λ empty. inl (subst (λ (h : Held). HoldsEmpty h) (sym listed.held) empty)) (λ useful. inr useful) (line_useful k f b g which set d below a solves out))
          refl (omega (arith, listed.last, room));
    }
