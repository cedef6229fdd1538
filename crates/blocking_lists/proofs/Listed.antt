-- What follows once a set is listed.
use Rattle.std.proofs.Common.{◌≡◌, ℕ, ◌+◌, ◌^◌, ◌<◌, List, [], ◌∷◌, ◌++◌, length, refl, sym, ap, ◌∙◌, subst, arith}
use Rattle.std.specs.Prelude.{All}
use Rattle.std.proofs.lemmas.List.Elements.{All-nil, All-cons, All-append}
use Rattle.fbas_model.specs.Nodes.{Table}
use Rattle.lrat_model.specs.Literal.{Literal}
use Rattle.lrat_model.specs.Clauses.{Held, with_clause}
use Rattle.lrat_model.specs.Steps.{ProofStep, Database}
use Rattle.lrat_model.proofs.Runs.{clause_at-more}
use Rattle.lrat_text.specs.Texts.{IsId}
use Rattle.cdcl_core.specs.Solving.{Solving}
use Rattle.enumeration_journal.specs.Journals.{SetLine}
use Rattle.enumeration_journal.specs.declared.kinds.Listed.{Listed}
use Rattle.blocking_lists.specs.Lines.{ListLine, merged, AreBetween}
use Rattle.blocking_lists.specs.Search.{HoldsEmpty, IsListed, IsShortLog}
use Rattle.blocking_lists.proofs.Merged.{between_push, merged_line}

pub same_database : (d e : Database) → d.held ≡ e.held → d.last ≡ e.last → d ≡ e
same_database d e held_is last_is =
    let one : d ≡ record { held = e.held; last = d.last } = ap (λ (h : Held). record { held = h; last = d.last }) held_is in
    let two : record { held = e.held; last = d.last } ≡ e = ap (λ (n : ℕ). record { held = e.held; last = n }) last_is in
    one ∙ two

-- the line of a set that is listed in this state
abbrev pub line_at : Solving → Listed → Table → ListLine
line_at old which set = record { after = length old.log; which = which; id = old.database.last + 1; set = set }

module _ (which : Listed) (clause : List Literal) (set : Table) (lines lines_then : List ListLine) (old new : Solving) (is : IsListed which clause set lines lines_then old new) where
  pub database_then : new.database ≡ record { held = with_clause old.database.held (old.database.last + 1) clause; last = old.database.last + 1 }
  database_then = same_database new.database (record { held = with_clause old.database.held (old.database.last + 1) clause; last = old.database.last + 1 }) is.held is.last

  pub still_empty : HoldsEmpty old.database.held → HoldsEmpty new.database.held
  still_empty empty = subst (λ (h : Held). HoldsEmpty h) (sym is.held) (empty.0, clause_at-more old.database.held (old.database.last + 1) clause empty.0 [] empty.1)

  pub journal_more : AreBetween 0 (length old.log) lines → merged 0 lines_then new.log ≡ merged 0 lines old.log ++ SetLine which (old.database.last + 1) set ∷ []
  journal_more between =
      ap (λ (ls : List ListLine). merged 0 ls new.log) is.listed
      ∙ ap (λ (steps : List ProofStep). merged 0 (lines ++ line_at old which set ∷ []) steps) is.log
      ∙ merged_line 0 (length old.log) lines (line_at old which set) old.log between (omega arith) refl

  pub places_more : AreBetween 0 (length old.log) lines → AreBetween 0 (length new.log) lines_then
  places_more between =
      subst (λ (ls : List ListLine). AreBetween 0 (length new.log) ls) (sym is.listed)
      (between_push 0 (length old.log) (length new.log) lines (line_at old which set) between (omega arith) (omega (arith, ap (λ (steps : List ProofStep). length steps) is.log)))

  -- what is so of each line, and of this one
  pub each_more : (P : ListLine → Type 0) → P (line_at old which set) → All P lines → All P lines_then
  each_more P this each = subst (λ (ls : List ListLine). All P ls) (sym is.listed) (All-append P lines (line_at old which set ∷ []) each (All-cons P (line_at old which set) [] this (All-nil P)))

  pub ids_more : old.database.last + 1 < 2 ^ 63 → All (λ (l : ListLine). IsId l.id) lines → All (λ (l : ListLine). IsId l.id) lines_then
  ids_more small ids =
      let id_is : IsId (old.database.last + 1) = (omega arith, omega arith) in
      each_more (λ (l : ListLine). IsId l.id) id_is ids

  pub short_more : (vars : ℕ) → IsShortLog vars old.log → IsShortLog vars new.log
  short_more vars short = subst (λ (steps : List ProofStep). IsShortLog vars steps) (sym is.log) short
