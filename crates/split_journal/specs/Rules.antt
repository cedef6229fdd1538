-- The rules of a list of all minimal splitting sets, and of a search for a least one.
use Rattle.std.specs.Prelude.{◌≡◌, ℕ, zero, suc, length, Bool, true, false, List, [], ◌∷◌, ◌++◌, Option, Some, None}
use Rattle.fbas_model.specs.Nodes.{Nodes, Table, members, size}
use Rattle.fbas_model.specs.Fbas.{Fbas}
use Rattle.lrat_model.specs.Literal.{Literal, Minus}
use Rattle.lrat_model.specs.Runs.{formula_database}
use Rattle.clause_encoder.specs.declared.version.Version.{Version}
use Rattle.clause_encoder.specs.NameCounter.{counted, counter_vars, counter_of}
use Rattle.enumeration_journal.specs.Numbering.{clause_for}
use Rattle.enumeration_journal.specs.Journals.{JournalLine, Rules, IsWholeJournal, sets_in}
use Rattle.enumeration_journal.specs.declared.kinds.ListKind.{ListKind}
use Rattle.enumeration_journal.specs.declared.kinds.ListKind.TheVariants.{Whole, Partial}
use Rattle.enumeration_journal.specs.declared.kinds.Listed.{Listed}
use Rattle.enumeration_journal.specs.declared.kinds.Listed.TheVariants as listed
use Rattle.group_journal.specs.Groups.{touching}
use Rattle.least_journal.specs.Least.{FallFrom, last_of}
use Rattle.split_journal.specs.Splitting.{GroupsSplit, IsSplit, IsLeastSplit}
use Rattle.split_journal.specs.Formula.{split_clauses, split_vars}

-- a listed set is one that splits: no other sets are listed
abbrev pub IsRightSplit : Fbas → Nodes → Table → List Table → Listed → Table → Type 0
IsRightSplit f b left groups listed.Smaller s = IsSplit f b left groups s
IsRightSplit f b left groups listed.Quorum s = ⊥
IsRightSplit f b left groups listed.Blocking s = ⊥

abbrev pub asks_split : ListKind → Listed → Bool
asks_split Whole which = false
asks_split Partial which = true

-- the clause of a set says that one of its groups does not lie
abbrev pub split_of : Version → Fbas → Table → Table → List Table → Rules
split_of version f b left groups = record {
  start = formula_database (split_clauses version f b (size (touching groups left)) left groups);
  vars = split_vars version f b (size (touching groups left)) left;
  IsRight = IsRightSplit f (members b) left groups;
  clause = clause_for listed.Smaller (touching groups left);
  asks = asks_split;
  cost = λ which. 1;
}

-- ---- a least one

-- the formula, and the counter of the groups, whose variables come before those of the nodes
abbrev pub least_split_clauses : Version → Fbas → Table → Table → List Table → List (List Literal)
least_split_clauses version f b left groups =
    counter_of (size (touching groups left)) ++ split_clauses version f b (counter_vars (size (touching groups left))) left groups

-- fewer than m of g groups lie: never if m is 0
abbrev pub fewer_than : ℕ → ℕ → List Literal
fewer_than g zero = []
fewer_than g (suc m) = Minus (counted g g (suc m)) ∷ []

-- the clause of a set says that fewer groups lie
abbrev pub least_split_clause : Table → Listed → Table → List Literal
least_split_clause touched which s = fewer_than (size touched) (size s)

abbrev pub asks_least_split : ListKind → Listed → Bool
asks_least_split kind which = false

abbrev pub least_split_of : Version → Fbas → Table → Table → List Table → Rules
least_split_of version f b left groups = record {
  start = formula_database (least_split_clauses version f b left groups);
  vars = split_vars version f b (counter_vars (size (touching groups left))) left;
  IsRight = IsRightSplit f (members b) left groups;
  clause = least_split_clause (touching groups left);
  asks = asks_least_split;
  cost = λ which. 0;
}

pub record IsWholeLeastSplit (version : Version) (f : Fbas) (b left : Table) (groups : List Table) (journal : List JournalLine) : Type 0 where
  pub falling : FallFrom (sets_in listed.Smaller journal)
  pub whole : IsWholeJournal (least_split_of version f b left groups) journal

-- a least set that splits, or none where no set does
abbrev pub IsLeastSplitAnswer : Fbas → Nodes → List Table → Option Table → Type 0
IsLeastSplitAnswer f b groups None = (s : Table) → length s ≡ length groups → GroupsSplit f b groups s → ⊥
IsLeastSplitAnswer f b groups (Some s) = IsLeastSplit f b groups s

abbrev pub least_split_answer : List JournalLine → Option Table
least_split_answer journal = last_of None (sets_in listed.Smaller journal)
