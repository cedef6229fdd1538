-- Journals of a search for sets: listed sets, each of which gives a clause, and the steps of a proof from these clauses.
use Rattle.std.specs.Prelude.{◌≡◌, ℕ, ◌+◌, ◌<◌, Bool, true, false, List, [], ◌∷◌, ◌++◌, length, ◌==◌, if◌then◌else◌, All, None}
use Rattle.fbas_model.specs.Nodes.{Nodes, Table, members, ◌⊆◌, size}
use Rattle.fbas_model.specs.Fbas.{Fbas}
use Rattle.lrat_model.specs.Literal.{Literal}
use Rattle.lrat_model.specs.Clauses.{Held, with_clause}
use Rattle.lrat_model.specs.Lemmas.{IsNew, IsUseful}
use Rattle.lrat_model.specs.Steps.{ProofStep, Addition, Deletion, Database, step_fault, after_step, progress_of}
use Rattle.lrat_model.specs.declared.step.Progress.{Progress}
use Rattle.lrat_model.specs.declared.step.Progress.TheVariants.{Going, Refuted}
use Rattle.enumeration_journal.specs.Kinds.{Is, IsMinimal, is_sought, asks_new}
use Rattle.enumeration_journal.specs.declared.kinds.ListKind.{ListKind}
use Rattle.enumeration_journal.specs.declared.kinds.ListKind.TheVariants.{Whole, Partial}
use Rattle.enumeration_journal.specs.declared.kinds.Listed.{Listed}
use Rattle.enumeration_journal.specs.Numbering.{clause_for}

-- a line: a set of a kind, under the id of its clause, or a step
pub data JournalLine : Type 0 where
  SetLine : (which : Listed) (id : ℕ) (set : Table) → JournalLine
  StepLine : (step : ProofStep) → JournalLine

-- what a search goes by: what is held at first, how many variables there are, what a listed set of each kind has to be, its
-- clause, whether that has to be new, and how many units the line takes
pub record Rules : Type 1 where
  pub start : Database
  pub vars : ℕ
  pub IsRight : Listed → Table → Type 0
  pub clause : Listed → Table → List Literal
  pub asks : ListKind → Listed → Bool
  pub cost : Listed → ℕ

-- no clause, and the last id 0
abbrev pub nothing_held : Database
nothing_held = record { held = []; last = 0 }

-- a sought set has no node to spare; another is any of its kind among the nodes of the greatest quorum g
abbrev pub RightFor : Bool → Listed → Fbas → Nodes → Table → Table → Type 0
RightFor true which f b g s = IsMinimal which f b (members s)
RightFor false which f b g s = Is which f b (members s) × (members s ⊆ members g)

abbrev pub IsListedFor : Listed → Fbas → Nodes → Table → Listed → Table → Type 0
IsListedFor sought f b g which s = (length s ≡ length f) × RightFor (is_sought sought which) which f b g s

-- the rules of a list of all sets of a kind, of the system f once b is deleted, with its greatest quorum g
abbrev pub list_of : Listed → Fbas → Nodes → Table → Rules
list_of sought f b g = record {
  start = nothing_held;
  vars = size g;
  IsRight = IsListedFor sought f b g;
  clause = clause_for sought g;
  asks = asks_new sought;
  cost = λ which. 1;
}

-- what is held after a line
abbrev pub after_line : Rules → Database → JournalLine → Database
after_line r d (SetLine which id set) = record { held = with_clause d.held id (r.clause which set); last = id }
after_line r d (StepLine step) = after_step d step

-- the line may stand there: its set is right and its id next, or its step is taken
abbrev pub IsTaken : Rules → Database → JournalLine → Type 0
IsTaken r d (SetLine which id set) = (d.last < id) × r.IsRight which set
IsTaken r d (StepLine step) = step_fault r.vars d step ≡ None

-- in a part, no clause held is a subset of a lemma
abbrev pub IsNewStep : ListKind → Held → ProofStep → Type 0
IsNewStep Whole held step = Unit {0}
IsNewStep Partial held (Addition id lits hints) = IsNew held lits
IsNewStep Partial held (Deletion id ids) = Unit {0}

abbrev pub IsNewIf : Bool → Held → List Literal → Type 0
IsNewIf true held lits = IsNew held lits
IsNewIf false held lits = Unit {0}

-- nor of a set's clause, where that is asked
abbrev pub IsNewLine : Rules → ListKind → Held → JournalLine → Type 0
IsNewLine r kind held (SetLine which id set) = IsNewIf (r.asks kind which) held (r.clause which set)
IsNewLine r kind held (StepLine step) = IsNewStep kind held step

-- the lines, each taken and as new as the kind asks, lead from one database to the other
abbrev pub JournalRun : Rules → ListKind → Database → List JournalLine → Database → Type 0
JournalRun r kind old [] new = new ≡ old
JournalRun r kind old (line ∷ lines) new = IsTaken r old line × IsNewLine r kind old.held line × JournalRun r kind (after_line r old line) lines new

-- where a line leads: on, or to the empty lemma
abbrev pub line_progress : JournalLine → Progress
line_progress (SetLine which id set) = Going
line_progress (StepLine step) = progress_of step

-- no line is the empty lemma
abbrev pub IsOpen : List JournalLine → Type 0
IsOpen journal = All (λ line. line_progress line ≡ Going) journal

-- the empty lemma is the last line, and nowhere else
pub record EndsRefuted (journal : List JournalLine) : Type 0 where
  pub before : List JournalLine
  pub last : JournalLine
  pub is : journal ≡ before ++ last ∷ []
  pub ends : line_progress last ≡ Refuted
  pub only : IsOpen before

-- a whole journal: a run to the empty lemma
pub record IsWholeJournal (r : Rules) (journal : List JournalLine) : Type 0 where
  pub ends : EndsRefuted journal
  pub after : Database
  pub run : JournalRun r Whole r.start journal after

-- a part of one: a run of new lines without the empty lemma
pub record IsPartialJournal (r : Rules) (journal : List JournalLine) (after : Database) : Type 0 where
  pub opens : IsOpen journal
  pub run : JournalRun r Partial r.start journal after

-- the listed sets of a kind, in their order
abbrev pub put_if : Bool → Table → List Table → List Table
put_if true s sets = s ∷ sets
put_if false s sets = sets

abbrev pub sets_in : Listed → List JournalLine → List Table
sets_in kind [] = []
sets_in kind (SetLine which id s ∷ lines) = put_if (is_sought kind which) s (sets_in kind lines)
sets_in kind (StepLine step ∷ lines) = sets_in kind lines

-- how many units a line takes: a lemma one, a deletion or the empty lemma none
abbrev pub line_units : Rules → JournalLine → ℕ
line_units r (SetLine which id u) = r.cost which
line_units r (StepLine (Addition id lits hints)) = if length lits == 0 then 0 else 1
line_units r (StepLine (Deletion id ids)) = 0

abbrev pub journal_units : Rules → List JournalLine → ℕ
journal_units r [] = 0
journal_units r (line ∷ lines) = line_units r line + journal_units r lines

abbrev pub IsUsefulIf : Bool → Held → List Literal → Type 0
IsUsefulIf true held lits = IsUseful held lits
IsUsefulIf false held lits = Unit {0}

-- the clause that a line adds tells what propagation does not, where in a part it has to be new
abbrev pub IsUsefulLine : Rules → Held → JournalLine → Type 0
IsUsefulLine r held (SetLine which id u) = IsUsefulIf (r.asks Partial which) held (r.clause which u)
IsUsefulLine r held (StepLine (Addition id lits hints)) = IsUseful held lits
IsUsefulLine r held (StepLine (Deletion id ids)) = Unit {0}

-- each line is useful when it is added
abbrev pub AreUseful : Rules → Database → List JournalLine → Type 0
AreUseful r d [] = Unit {0}
AreUseful r d (line ∷ lines) = IsUsefulLine r d.held line × AreUseful r (after_line r d line) lines
