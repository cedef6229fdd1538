-- Where a search for all minimal blocking sets of groups stands.
use Rattle.std.specs.Prelude.{◌≡◌, ◌+◌, ℕ, List, All, length}
use Rattle.fbas_model.specs.Nodes.{Table, members}
use Rattle.fbas_model.specs.Fbas.{Fbas}
use Rattle.greatest_quorum.specs.Greatest.{greatest_of}
use Rattle.lrat_model.specs.Steps.{ProofStep}
use Rattle.lrat_text.specs.Texts.{IsId}
use Rattle.cdcl_core.specs.Solving.{Solving}
use Rattle.enumeration_journal.specs.Journals.{Rules, IsWholeJournal, journal_units}
use Rattle.blocking_lists.specs.Lines.{ListLine, merged, AreBetween, AreForgetting}
use Rattle.blocking_lists.specs.Search.{IsSearch, IsShortLog}
use Rattle.node_json.specs.Groups.{Group, tables_of}
use Rattle.group_journal.specs.Groups.{touching}
use Rattle.group_journal.specs.Rules.{group_list_of}
use Rattle.group_lists.specs.declared.search.SearchedGroups.{SearchedGroups}

-- the rules of the search, where the greatest quorum is found by counting
abbrev pub group_rules : Fbas → Table → List Table → Rules
group_rules f b groups = group_list_of f (members b) (greatest_of f b) groups

-- each listed set is right by the rules
abbrev pub AreRightLines : Rules → List ListLine → Type 0
AreRightLines r lines = All (λ l. r.IsRight l.which l.set) lines

-- the sets that are listed so far, among the steps of the solver's log
pub record IsGroupListing (f : Fbas) (b : Table) (groups : List Table) (units left : ℕ) (lines : List ListLine) (solver : Solving) : Type 0 where
  pub between : AreBetween 0 (length solver.log) lines
  pub ids : All (λ l. IsId l.id) lines
  pub right : AreRightLines (group_rules f b groups) lines
  pub short : IsShortLog (group_rules f b groups).vars solver.log
  pub search : IsSearch (group_rules f b groups) units left units (merged 0 lines solver.log) solver

-- a listing whose solver came to the empty lemma
pub record IsWholeGroupListing (f : Fbas) (b : Table) (groups : List Table) (units left : ℕ) (lines : List ListLine) (log : List ProofStep) : Type 0 where
  pub between : AreBetween 0 (length log) lines
  pub ids : All (λ l. IsId l.id) lines
  pub right : AreRightLines (group_rules f b groups) lines
  pub short : IsShortLog (group_rules f b groups).vars log
  pub journal_is : IsWholeJournal (group_rules f b groups) (merged 0 lines log)
  pub forgets : AreForgetting (group_rules f b groups) (group_rules f b groups).start (merged 0 lines log)
  pub taken : journal_units (group_rules f b groups) (merged 0 lines log) + left ≡ units

-- the groups and the faulty nodes are of the system's nodes, and the groups that are touched are those with a node of the greatest quorum
pub record IsReady (s : SearchedGroups) : Type 0 where
  pub sized : All (λ (group : Group). length group.members ≡ length s.system.now.sets) s.groups.now
  pub same_faulty : length s.faulty.now ≡ length s.system.now.sets
  pub touched : s.touched.now ≡ touching (tables_of s.groups.now) (greatest_of s.system.now.sets s.faulty.now)

-- the sets of what is searched that are listed so far
abbrev pub IsGroupListingIn : SearchedGroups → ℕ → ℕ → List ListLine → Solving → Type 0
IsGroupListingIn s units left lines solver = IsGroupListing s.system.now.sets s.faulty.now (tables_of s.groups.now) units left lines solver

abbrev pub IsWholeGroupListingIn : SearchedGroups → ℕ → ℕ → List ListLine → List ProofStep → Type 0
IsWholeGroupListingIn s units left lines log = IsWholeGroupListing s.system.now.sets s.faulty.now (tables_of s.groups.now) units left lines log
