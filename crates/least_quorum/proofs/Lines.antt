-- A listed set keeps what the search for a smallest quorum knows.
use Rattle.std.proofs.Common.{◌≡◌, ℕ, zero, ◌+◌, Bool, false, List, [], length, refl, sym, ap, ◌∙◌, subst, arith, inl, inr, ⊎_elim, Some}
use Rattle.fbas_model.specs.Nodes.{Nodes, Table, members, IsInhabited}
use Rattle.fbas_model.specs.Fbas.{Fbas, Quorum, BlocksMinimally}
use Rattle.fbas_model.proofs.Sizes.{empty_or_not}
use Rattle.lrat_model.specs.Literal.{Literal, clause_true}
use Rattle.lrat_model.specs.Clauses.{Held, Satisfies}
use Rattle.lrat_model.specs.Steps.{Database}
use Rattle.cdcl_core.specs.Solving.{Solving}
use Rattle.enumeration_journal.specs.Kinds.{signed}
use Rattle.enumeration_journal.specs.Numbering.{variable_in}
use Rattle.enumeration_journal.specs.declared.kinds.ListKind.TheVariants.{Partial}
use Rattle.enumeration_journal.specs.declared.kinds.Listed.TheVariants as listed
use Rattle.enumeration_journal.proofs.Greatest.{IsGreatest}
use Rattle.enumeration_journal.proofs.Duality.{block_within}
use Rattle.enumeration_journal.proofs.Ids.{AreBelow, below_run, found_new}
use Rattle.blocking_lists.specs.Lines.{ListLine, merged, AreBetween}
use Rattle.blocking_lists.specs.Search.{HoldsEmpty, IsSearch, IsListed}
use Rattle.blocking_lists.proofs.Listed.{database_then}
use Rattle.blocking_lists.proofs.Models.{new_where_false, useful_where_false}
use Rattle.blocking_lists.proofs.Searches.{search_set, has_member, none_listed, above_last}
use Rattle.least_journal.specs.Least.{clause_in, least_of}

module _ (f : Fbas) (b : Nodes) (g : Table) (greatest : IsGreatest f b g) (total : ℕ) (set : Table) (lines lines_then : List ListLine) (old new : Solving) (between : AreBetween 0 (length old.log) lines) where
  -- a quorum: it takes no unit, and owes nothing
  pub quorum_listed : (left top : ℕ) → IsSearch (least_of f b g) total left top (merged 0 lines old.log) old → length set ≡ length f → Quorum f b (members set)
      → IsListed listed.Smaller (clause_in g listed.Smaller set) set lines lines_then old new → IsSearch (least_of f b g) total left (top + 1) (merged 0 lines_then new.log) new
  quorum_listed left top is places quorum done =
      let clause : List Literal = clause_in g listed.Smaller set in
      search_set (least_of f b g) listed.Smaller clause set lines lines_then old new done between total left left top (top + 1) is
      ((above_last old.database.last, (places, quorum)), tt, database_then listed.Smaller clause set lines lines_then old new done) (inr (tt, tt)) (omega arith) (omega (arith, done.last, is.room))

  -- a minimal blocking set whose clause is false in an assignment of what is held
  pub block_listed : (left top : ℕ) → IsSearch (least_of f b g) total (left + 1) top (merged 0 lines old.log) old → length set ≡ length f → BlocksMinimally f b (members set)
      → (a : ℕ → Bool) → Satisfies a old.database.held → clause_true a (clause_in g listed.Blocking set) ≡ false → AreBelow (least_of f b g).start
      → IsListed listed.Blocking (clause_in g listed.Blocking set) set lines lines_then old new → IsSearch (least_of f b g) total left top (merged 0 lines_then new.log) new
  block_listed left top is places blocks a solves out start_below done =
      let d : Database = old.database in
      let clause : List Literal = clause_in g listed.Blocking set in
      let p : ℕ → Literal = λ v. signed listed.Quorum listed.Blocking (variable_in g v) in
      let below : AreBelow d = below_run (least_of f b g) Partial (least_of f b g).start (merged 0 lines old.log) d is.run start_below in
      search_set (least_of f b g) listed.Blocking clause set lines lines_then old new done between total (left + 1) left top top is
      ((above_last d.last, (places, blocks.blocks, block_within f b g (members set) greatest blocks)), new_where_false a d.held clause solves out, database_then listed.Blocking clause set lines lines_then old new done)
      (⊎_elim
      (λ none.
      let nothing : clause ≡ [] = none_listed p 0 set (λ w. ap (λ (t : Nodes). t w) none) in
      inl (subst (λ (h : Held). HoldsEmpty h) (sym done.held) (d.last + 1, found_new d.held (d.last + 1) clause (below (d.last + 1) (above_last d.last)) ∙ ap Some nothing)))
      (λ (w : IsInhabited (members set)). inr (useful_where_false a d.held clause (p (zero + w.0)) solves out (has_member p 0 set w.0 w.1), tt))
      (empty_or_not set))
      refl (omega (arith, done.last, is.room))
