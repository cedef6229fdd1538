-- The journal of a search for a smallest quorum.
use Rattle.std.specs.Prelude.{◌≡◌, ℕ, ◌<◌, ◌≤◌, Bool, true, false, List, [], ◌∷◌, length, Option, Some, None}
use Rattle.fbas_model.specs.Nodes.{Nodes, Table, members, ◌⊆◌, size}
use Rattle.fbas_model.specs.Fbas.{Fbas, Quorum, Blocks}
use Rattle.lrat_model.specs.Literal.{Literal, Minus}
use Rattle.lrat_model.specs.Runs.{formula_database}
use Rattle.enumeration_journal.specs.Numbering.{clause_for}
use Rattle.enumeration_journal.specs.Journals.{JournalLine, Rules, IsWholeJournal, IsPartialJournal, sets_in}
use Rattle.lrat_model.specs.Steps.{Database}
use Rattle.enumeration_journal.specs.declared.kinds.ListKind.{ListKind}
use Rattle.enumeration_journal.specs.declared.kinds.ListKind.TheVariants.{Whole, Partial}
use Rattle.enumeration_journal.specs.declared.kinds.Listed.{Listed}
use Rattle.enumeration_journal.specs.declared.kinds.Listed.TheVariants as listed
use Rattle.clause_encoder.specs.NameCounter.{counted, counter_vars, counter_of}

-- a listed set is a quorum that is smaller than those before it, or a blocking set among the nodes of the greatest quorum g; there are no other quorums
abbrev pub IsRightIn : Fbas → Nodes → Table → Listed → Table → Type 0
IsRightIn f b g listed.Smaller u = (length u ≡ length f) × Quorum f b (members u)
IsRightIn f b g listed.Blocking s = (length s ≡ length f) × Blocks f b (members s) × (members s ⊆ members g)
IsRightIn f b g listed.Quorum u = ⊥

-- the clause of a smaller quorum: fewer nodes are in the set; and of another set: that which it has where quorums are listed, so of a blocking set that one of its nodes is
abbrev pub clause_in : Table → Listed → Table → List Literal
clause_in g listed.Smaller u = Minus (counted (size g) (size g) (size u)) ∷ []
clause_in g listed.Blocking s = clause_for listed.Quorum g listed.Blocking s
clause_in g listed.Quorum u = clause_for listed.Quorum g listed.Quorum u

-- in a part, a blocking set's clause has to be new
abbrev pub asks_in : ListKind → Listed → Bool
asks_in Whole which = false
asks_in Partial listed.Smaller = false
asks_in Partial listed.Blocking = true
asks_in Partial listed.Quorum = true

-- a smaller quorum takes no unit
abbrev pub cost_in : Listed → ℕ
cost_in listed.Smaller = 0
cost_in listed.Blocking = 1
cost_in listed.Quorum = 1

-- the rules of a search for a smallest quorum, from the counter of the nodes of the greatest one
abbrev pub least_of : Fbas → Nodes → Table → Rules
least_of f b g = record {
  start = formula_database (counter_of (size g));
  vars = counter_vars (size g);
  IsRight = IsRightIn f b g;
  clause = clause_in g;
  asks = asks_in;
  cost = cost_in;
}

-- each set is smaller than the one before it
abbrev pub AreSmaller : ℕ → List Table → Type 0
AreSmaller n [] = Unit {0}
AreSmaller n (u ∷ us) = (size u < n) × AreSmaller (size u) us

-- the quorums of a journal fall in size
abbrev pub FallFrom : List Table → Type 0
FallFrom [] = Unit {0}
FallFrom (u ∷ us) = AreSmaller (size u) us

abbrev pub AreFalling : List JournalLine → Type 0
AreFalling journal = FallFrom (sets_in listed.Smaller journal)

-- a whole journal, and a part of one
pub record IsWholeLeast (f : Fbas) (b : Nodes) (g : Table) (journal : List JournalLine) : Type 0 where
  pub falling : AreFalling journal
  pub whole : IsWholeJournal (least_of f b g) journal

pub record IsPartialLeast (f : Fbas) (b : Nodes) (g : Table) (journal : List JournalLine) (after : Database) : Type 0 where
  pub falling : AreFalling journal
  pub part : IsPartialJournal (least_of f b g) journal after

-- the set that is listed last
abbrev pub last_of : Option Table → List Table → Option Table
last_of u [] = u
last_of u (w ∷ ws) = last_of (Some w) ws

-- what a journal answers: the quorum that it lists last, if it lists one
abbrev pub answer_of : List JournalLine → Option Table
answer_of journal = last_of None (sets_in listed.Smaller journal)

-- ---- what that is

-- u is a quorum with as few nodes as any
pub record IsSmallestQuorum (f : Fbas) (b : Nodes) (u : Table) : Type 0 where
  pub places : length u ≡ length f
  pub quorum : Quorum f b (members u)
  pub least : (w : Table) → length w ≡ length f → Quorum f b (members w) → size u ≤ size w

-- a smallest quorum, or none where there is no quorum
abbrev pub IsLeastAnswer : Fbas → Nodes → Option Table → Type 0
IsLeastAnswer f b None = (w : Nodes) → Quorum f b w → ⊥
IsLeastAnswer f b (Some u) = IsSmallestQuorum f b u
