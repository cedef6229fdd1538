-- Journals that go on.
use Rattle.std.proofs.Common.{◌≡◌, ◌+◌, Bool, true, false, List, [], ◌∷◌, ◌++◌, refl, ap, ◌∙◌, subst, arith}
use Rattle.std.proofs.lemmas.List.Elements.{All-cons, All-head, All-tail}
use Rattle.fbas_model.specs.Nodes.{Nodes, Table}
use Rattle.fbas_model.specs.Fbas.{Fbas}
use Rattle.lrat_model.specs.Literal.{Literal}
use Rattle.lrat_model.specs.Clauses.{Held}
use Rattle.lrat_model.specs.Steps.{Database}
use Rattle.enumeration_journal.specs.Kinds.{is_sought}
use Rattle.enumeration_journal.specs.declared.kinds.Listed.{Listed}
use Rattle.lrat_model.specs.declared.step.Progress.TheVariants.{Going}
use Rattle.enumeration_journal.specs.Journals.{JournalLine, SetLine, StepLine, Rules, list_of, IsNewIf, put_if, sets_in, after_line, IsNewLine, JournalRun, line_progress, IsOpen, journal_units, AreUseful}
use Rattle.enumeration_journal.specs.declared.kinds.ListKind.{ListKind}
use Rattle.enumeration_journal.specs.declared.kinds.ListKind.TheVariants.{Whole, Partial}

pub run_append : (r : Rules) (kind : ListKind) (old : Database) (xs ys : List JournalLine) (middle new : Database) → JournalRun r kind old xs middle → JournalRun r kind middle ys new → JournalRun r kind old (xs ++ ys) new
run_append r kind old [] ys middle new one two = subst (λ (d : Database). JournalRun r kind d ys new) one two
run_append r kind old (x ∷ xs) ys middle new one two = (one.0, one.1, run_append r kind (after_line r old x) xs ys middle new one.2 two)

-- what a whole journal asks to be new, a part of one asks too
abbrev pub AsksMore : Rules → Type 0
AsksMore r = (which : Listed) → r.asks Whole which ≡ true → r.asks Partial which ≡ true

pub lists_ask_more : (k : Listed) (f : Fbas) (b : Nodes) (g : Table) → AsksMore (list_of k f b g)
lists_ask_more k f b g which h = refl

new_where : (part whole : Bool) (held : Held) (lits : List Literal) → (whole ≡ true → part ≡ true) → IsNewIf part held lits → IsNewIf whole held lits
new_where part false held lits more h = tt
new_where true true held lits more h = h
new_where false true held lits more h = absurd (let e = more refl in cc)

new_in_whole : (r : Rules) → AsksMore r → (d : Database) (line : JournalLine) → IsNewLine r Partial d.held line → IsNewLine r Whole d.held line
new_in_whole r more d (SetLine which id u) h = new_where (r.asks Partial which) (r.asks Whole which) d.held (r.clause which u) (more which) h
new_in_whole r more d (StepLine step) h = tt

-- a part's lines may stand in a whole journal
pub whole_from_partial : (r : Rules) → AsksMore r → (old : Database) (lines : List JournalLine) (new : Database) → JournalRun r Partial old lines new → JournalRun r Whole old lines new
whole_from_partial r more old [] new run = run
whole_from_partial r more old (line ∷ lines) new run = (run.0, new_in_whole r more old line run.1, whole_from_partial r more (after_line r old line) lines new run.2)

pub useful_append : (r : Rules) (kind : ListKind) (old : Database) (xs ys : List JournalLine) (middle : Database) → JournalRun r kind old xs middle → AreUseful r old xs → AreUseful r middle ys → AreUseful r old (xs ++ ys)
useful_append r kind old [] ys middle run one two = subst (λ (d : Database). AreUseful r d ys) run two
useful_append r kind old (x ∷ xs) ys middle run one two = (one.0, useful_append r kind (after_line r old x) xs ys middle run.2 one.1 two)

pub units_append : (r : Rules) (xs ys : List JournalLine) → journal_units r (xs ++ ys) ≡ journal_units r xs + journal_units r ys
units_append r [] ys = omega arith
units_append r (x ∷ xs) ys = omega (arith, units_append r xs ys)

pub open_append : (xs ys : List JournalLine) → IsOpen xs → IsOpen ys → IsOpen (xs ++ ys)
open_append [] ys one two = two
open_append (x ∷ xs) ys one two = All-cons (λ line. line_progress line ≡ Going) x (xs ++ ys) (All-head (λ line. line_progress line ≡ Going) x xs one) (open_append xs ys (All-tail (λ line. line_progress line ≡ Going) x xs one) two)

pub put_append : (b : Bool) (s : Table) (xs ys : List Table) → put_if b s (xs ++ ys) ≡ put_if b s xs ++ ys
put_append true s xs ys = refl
put_append false s xs ys = refl

pub sets_append : (k : Listed) (xs ys : List JournalLine) → sets_in k (xs ++ ys) ≡ sets_in k xs ++ sets_in k ys
sets_append k [] ys = refl
sets_append k (SetLine which id u ∷ xs) ys = ap (put_if (is_sought k which) u) (sets_append k xs ys) ∙ put_append (is_sought k which) u (sets_in k xs) (sets_in k ys)
sets_append k (StepLine step ∷ xs) ys = sets_append k xs ys
