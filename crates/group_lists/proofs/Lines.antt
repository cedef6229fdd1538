-- A listed set keeps what the search over groups knows.
use Rattle.std.proofs.Common.{◌≡◌, ℕ, zero, ◌+◌, Bool, false, List, [], ◌∷◌, length, refl, sym, ap, ◌∙◌, subst, arith, inl, inr, ◌⊎◌, ⊎_elim, Some}
use Rattle.fbas_model.specs.Nodes.{Nodes, Table, members, IsInhabited}
use Rattle.fbas_model.specs.Fbas.{Fbas}
use Rattle.fbas_model.proofs.Sizes.{empty_or_not}
use Rattle.greatest_quorum.specs.Greatest.{greatest_of}
use Rattle.lrat_model.specs.Literal.{Literal, clause_true}
use Rattle.lrat_model.specs.Clauses.{Held, Satisfies}
use Rattle.lrat_model.specs.Steps.{Database}
use Rattle.cdcl_core.specs.Solving.{Solving}
use Rattle.enumeration_journal.specs.Kinds.{signed}
use Rattle.enumeration_journal.specs.Numbering.{variable_in}
use Rattle.enumeration_journal.specs.Journals.{SetLine, nothing_held, AreUseful}
use Rattle.enumeration_journal.specs.declared.kinds.ListKind.TheVariants.{Partial}
use Rattle.enumeration_journal.specs.declared.kinds.Listed.{Listed}
use Rattle.enumeration_journal.specs.declared.kinds.Listed.TheVariants.{Blocking}
use Rattle.enumeration_journal.proofs.Ids.{AreBelow, below_run, found_new}
use Rattle.blocking_lists.specs.Lines.{ListLine, merged, AreBetween}
use Rattle.blocking_lists.specs.Search.{HoldsEmpty, IsSearch, IsListed}
use Rattle.blocking_lists.proofs.Listed.{database_then}
use Rattle.blocking_lists.proofs.Models.{new_where_false, useful_where_false}
use Rattle.blocking_lists.proofs.Searches.{search_set, has_member, none_listed, above_last}
use Rattle.group_journal.specs.Groups.{touching}
use Rattle.group_journal.specs.Rules.{IsGroupLine, groups_named, group_clause}
use Rattle.group_lists.specs.Search.{group_rules}

nothing_below : AreBelow nothing_held
nothing_below k h = refl

module _ (f : Fbas) (b : Table) (groups : List Table) (total left : ℕ) (lines lines_then : List ListLine) (old new : Solving) (which : Listed) (set : Table)
    (is : IsSearch (group_rules f b groups) total (left + 1) total (merged 0 lines old.log) old) (between : AreBetween 0 (length old.log) lines) (right : IsGroupLine f (members b) (greatest_of f b) groups which set)
    (a : ℕ → Bool) (solves : Satisfies a old.database.held) (out : clause_true a (group_clause groups (touching groups (greatest_of f b)) which set) ≡ false)
    (listed : IsListed which (group_clause groups (touching groups (greatest_of f b)) which set) set lines lines_then old new) where
  useful_or_empty : HoldsEmpty new.database.held ⊎ AreUseful (group_rules f b groups) old.database (SetLine which (old.database.last + 1) set ∷ [])
  useful_or_empty =
      let d : Database = old.database in
      let clause : List Literal = group_clause groups (touching groups (greatest_of f b)) which set in
      let named : Table = groups_named groups which set in
      let p : ℕ → Literal = λ v. signed Blocking which (variable_in (touching groups (greatest_of f b)) v) in
      let below : AreBelow d = below_run (group_rules f b groups) Partial nothing_held (merged 0 lines old.log) d is.run nothing_below in
      ⊎_elim
      (λ none.
      let nothing : clause ≡ [] = none_listed p 0 named (λ w. ap (λ (t : Nodes). t w) none) in
      inl (subst (λ (h : Held). HoldsEmpty h) (sym listed.held) (d.last + 1, found_new d.held (d.last + 1) clause (below (d.last + 1) (above_last d.last)) ∙ ap Some nothing)))
      (λ (w : IsInhabited (members named)). inr (useful_where_false a d.held clause (p (zero + w.0)) solves out (has_member p 0 named w.0 w.1), tt))
      (empty_or_not named)

  pub group_line : IsSearch (group_rules f b groups) total left total (merged 0 lines_then new.log) new
  group_line =
      let d : Database = old.database in
      let clause : List Literal = group_clause groups (touching groups (greatest_of f b)) which set in
      search_set (group_rules f b groups) which clause set lines lines_then old new listed between total (left + 1) left total total is
      ((above_last d.last, right), new_where_false a d.held clause solves out, database_then which clause set lines lines_then old new listed)
      useful_or_empty refl (omega (arith, listed.last, is.room))
