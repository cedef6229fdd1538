-- A listing of sets of groups that goes on: by the steps of a solver, or by a set.
use Rattle.std.proofs.Common.{◌≡◌, ℕ, ◌+◌, ◌*◌, ◌^◌, ◌<◌, ◌≤◌, Bool, false, List, [], ◌++◌, length, refl, sym, subst, arith, inr}
use Rattle.std.proofs.lemmas.List.Elements.{All-nil}
use Rattle.fbas_model.specs.Nodes.{Table, members}
use Rattle.fbas_model.specs.Fbas.{Fbas}
use Rattle.greatest_quorum.specs.Greatest.{greatest_of}
use Rattle.lrat_model.specs.Literal.{Literal, clause_true}
use Rattle.lrat_model.specs.Clauses.{Satisfies}
use Rattle.lrat_model.specs.Steps.{ProofStep, progress_of}
use Rattle.lrat_model.specs.Runs.{Run}
use Rattle.lrat_model.specs.declared.step.Progress.TheVariants.{Going}
use Rattle.lrat_text.specs.Texts.{IsId}
use Rattle.cdcl_core.specs.Log.{AreLemmas, IsBoundedLog, units, HasNoEmptyLemma, EndsEmpty}
use Rattle.cdcl_core.specs.Solving.{Solving, logged}
use Rattle.enumeration_journal.specs.Journals.{JournalLine, nothing_held, JournalRun, line_progress, IsOpen, journal_units, AreUseful}
use Rattle.enumeration_journal.specs.declared.kinds.ListKind.TheVariants.{Partial}
use Rattle.enumeration_journal.specs.declared.kinds.Listed.{Listed}
use Rattle.enumeration_journal.proofs.Runs.{AsksMore}
use Rattle.blocking_lists.specs.Lines.{ListLine, merged, AreForgetting}
use Rattle.blocking_lists.specs.Search.{HoldsEmpty, IsListed}
use Rattle.blocking_lists.proofs.Listed.{same_database, places_more, each_more, ids_more, short_more}
use Rattle.blocking_lists.proofs.Searches.{search_steps, search_refuted}
use Rattle.blocking_lists.proofs.Short.{short_nothing}
use Rattle.group_journal.specs.Groups.{touching}
use Rattle.group_journal.specs.Rules.{IsGroupLine, group_clause}
use Rattle.group_lists.specs.Search.{group_rules, IsGroupListing, IsWholeGroupListing}
use Rattle.group_lists.proofs.Lines.{group_line}

groups_ask_more : (f : Fbas) (b : Table) (groups : List Table) → AsksMore (group_rules f b groups)
groups_ask_more f b groups which h = refl

-- nothing is listed
pub group_start : (f : Fbas) (b : Table) (groups : List Table) (total : ℕ) (solver : Solving) → solver.vars ≡ (group_rules f b groups).vars → solver.database.held ≡ [] → solver.database.last ≡ 0 → solver.log ≡ [] → IsGroupListing f b groups total total [] solver
group_start f b groups total solver vars held_is last_is log_is = record {
  between = omega arith;
  ids = All-nil (λ (l : ListLine). IsId l.id);
  right = All-nil (λ (l : ListLine). IsGroupLine f (members b) (greatest_of f b) groups l.which l.set);
  short = short_nothing (group_rules f b groups).vars solver.log log_is;
  search = record {
    vars = vars;
    run = subst (λ (ls : List ProofStep). JournalRun (group_rules f b groups) Partial nothing_held (merged 0 [] ls) solver.database) (sym log_is) (same held_is last_is);
    useful = inr (subst (λ (ls : List ProofStep). AreUseful (group_rules f b groups) nothing_held (merged 0 [] ls)) (sym log_is) tt);
    forgets = subst (λ (ls : List ProofStep). AreForgetting (group_rules f b groups) nothing_held (merged 0 [] ls)) (sym log_is) tt;
    opens = subst (λ (ls : List ProofStep). IsOpen (merged 0 [] ls)) (sym log_is) (All-nil (λ (line : JournalLine). line_progress line ≡ Going));
    log_opens = subst (λ (ls : List ProofStep). HasNoEmptyLemma ls) (sym log_is) (All-nil (λ (step : ProofStep). progress_of step ≡ Going));
    taken = subst (λ (ls : List ProofStep). journal_units (group_rules f b groups) (merged 0 [] ls) + total ≡ total) (sym log_is) (omega arith);
    room = omega (arith, last_is);
  };
}
  where
    same : solver.database.held ≡ [] → solver.database.last ≡ 0 → solver.database ≡ nothing_held
    same held last = same_database solver.database nothing_held held last

-- a log that goes on
module _ (f : Fbas) (b : Table) (groups : List Table) (total left left_then : ℕ) (lines : List ListLine) (old new : Solving)
    (is : IsGroupListing f b groups total left lines old) (log_is : new.log ≡ old.log ++ logged old new)
    (run : Run old.vars old.database (logged old new) new.database) (lemmas : AreLemmas old.vars old.database (logged old new)) (count : left_then + units (logged old new) ≡ left)
    (vars : new.vars ≡ old.vars) (bounds : IsBoundedLog new.vars new.log) (few : length new.log ≤ 2 * units new.log + 1) where
  pub group_steps : HasNoEmptyLemma new.log → new.database.last + left_then ≡ old.database.last + left
      → (HoldsEmpty old.database.held → HoldsEmpty new.database.held) → IsGroupListing f b groups total left_then lines new
  group_steps opens room kept =
      let on = search_steps (group_rules f b groups) (groups_ask_more f b groups) total left left_then total lines old new is.between is.short is.search log_is run lemmas count vars bounds few opens room kept in record {
        between = on.0;
        ids = is.ids;
        right = is.right;
        short = on.1;
        search = on.2;
      }

  pub group_refuted : EndsEmpty new.log → IsWholeGroupListing f b groups total left_then lines new.log
  group_refuted ends =
      let whole = search_refuted (group_rules f b groups) (groups_ask_more f b groups) total left left_then total lines old new is.between is.short is.search log_is run lemmas count vars bounds few ends in record {
        between = whole.0;
        ids = is.ids;
        right = is.right;
        short = whole.1;
        journal_is = whole.2;
        forgets = whole.3;
        taken = whole.4;
      }

-- a set more
pub group_listed : (f : Fbas) (b : Table) (groups : List Table) (total left : ℕ) → total < 2 ^ 63 → (lines lines_then : List ListLine) (old new : Solving) (which : Listed) (set : Table)
    → IsGroupListing f b groups total (left + 1) lines old → IsGroupLine f (members b) (greatest_of f b) groups which set
    → (a : ℕ → Bool) → Satisfies a old.database.held → clause_true a (group_clause groups (touching groups (greatest_of f b)) which set) ≡ false
    → IsListed which (group_clause groups (touching groups (greatest_of f b)) which set) set lines lines_then old new → IsGroupListing f b groups total left lines_then new
group_listed f b groups total left small lines lines_then old new which set is right a solves out listed =
    let clause : List Literal = group_clause groups (touching groups (greatest_of f b)) which set in
    let room = is.search.room in record {
      between = places_more which clause set lines lines_then old new listed is.between;
      ids = ids_more which clause set lines lines_then old new listed (omega arith) is.ids;
      right = each_more which clause set lines lines_then old new listed (λ (l : ListLine). IsGroupLine f (members b) (greatest_of f b) groups l.which l.set) right is.right;
      short = short_more which clause set lines lines_then old new listed (group_rules f b groups).vars is.short;
      search = group_line f b groups total left lines lines_then old new which set is.search is.between right a solves out listed;
    }
