-- What the printed minimal blocking sets of organisations and their certificate show.
use Rattle.std.specs.Prelude.{◌≡◌, ℕ, ◌++◌, List, Some, length, codes}
use Rattle.std.specs.List.Sorted.{IsStrictlySortedBy}
use Rattle.std.specs.Global.{Vec}
use Rattle.desk_io.specs.State.{DeskState}
use Rattle.fbas_model.specs.Nodes.{Table, members}
use Rattle.fbas_model.specs.Names.{name_cmp}
use Rattle.fbas_model.specs.Systems.{System}
use Rattle.greatest_quorum.specs.Greatest.{greatest_of}
use Rattle.node_json.specs.Groups.{Group, tables_of, texts_of, CoverNodes}
use Rattle.enumeration_journal.specs.Journals.{JournalLine}
use Rattle.group_journal.specs.Groups.{IsGroupList}
use Rattle.group_lists.specs.Outcomes.{WholeGroupsHold, PartGroupsHold}
use Rattle.group_lists.specs.declared.outcome.GroupOutcome.{GroupOutcome}
use Rattle.group_lists.specs.declared.outcome.GroupOutcome.TheVariants.{Whole, Spent}
use Rattle.certificate_file.specs.declared.given.GivenOrgs.{GivenOrgs}
use Rattle.cert_writer.specs.Texts.{Text}
use Rattle.cert_writer.specs.Promises.{groups_in}
use Rattle.cert_writer.specs.Grouping.{group_cert_over, group_accepted_as}
use Rattle.printed_lines.specs.Lines.{with_sets, counted}
use Rattle.request_reading.specs.declared.searches.Search.{Search}
use Rattle.command_run.specs.Sought.{part, deleted, request}
use Rattle.command_run.specs.Showing.{IsAccepted}

-- each node of the system is in a group, and the texts of the groups rise
pub record AreGroups (f : System) (groups : List Group) : Type 0 where
  pub cover : CoverNodes (length f.names) groups
  pub rising : IsStrictlySortedBy name_cmp (texts_of groups)

-- the certificate of what was found over groups by an organisations file of this digest
abbrev pub cert_of_groups : Search → List ℕ → List Group → GroupOutcome → Text
cert_of_groups s digest groups outcome = group_cert_over s.whole s.digest s.header digest groups outcome

-- a list over these groups is whole: its number and its sets, by the texts of their groups, are on the output, they are exactly the
-- minimal blocking sets of groups, each once and in order, and the certificate is a list of them that is accepted, within the budget
pub record PrintsBlocks (s : Search) (digest : List ℕ) (groups : List Group) (old new : DeskState) : Type 0 where
  pub sets : Vec Table
  pub out : new.out ≡ old.out ++ with_sets (codes "org-blocking") (texts_of groups) sets.items
  pub list : IsGroupList (part s).sets (members (deleted s)) (greatest_of (part s).sets (deleted s)) (tables_of groups) sets.items
  pub journal : List JournalLine
  pub left : ℕ
  pub lists : WholeGroupsHold (part s).sets (deleted s) (tables_of groups) s.budget left sets.items journal
  pub held : new.files s.path ≡ Some (cert_of_groups s digest groups (Whole sets journal))
  pub accepted : IsAccepted s (cert_of_groups s digest groups (Whole sets journal)) (group_accepted_as (request s) groups (Whole sets journal))

-- the budget is spent: so is it said, and the certificate has as many units, each useful when it was added, over clauses that do not close
pub record PrintsPartOfBlocks (s : Search) (digest : List ℕ) (groups : List Group) (old new : DeskState) : Type 0 where
  pub out : new.out ≡ old.out ++ counted (codes "org-blocking unknown") s.budget
  pub journal : List JournalLine
  pub lists : PartGroupsHold (part s).sets (deleted s) (tables_of groups) s.budget journal
  pub held : new.files s.path ≡ Some (cert_of_groups s digest groups (Spent journal))
  pub accepted : IsAccepted s (cert_of_groups s digest groups (Spent journal)) (group_accepted_as (request s) groups (Spent journal))

-- the printed sets are exactly the minimal blocking sets of the organisations of the file that was given
pub record PrintsGroups (s : Search) (old new : DeskState) : Type 0 where
  pub given : GivenOrgs
  pub is_given : s.orgs ≡ Some given
  pub are : AreGroups (part s) (groups_in s.whole s.header given.orgs)
  pub prints : PrintsBlocks s given.digest (groups_in s.whole s.header given.orgs) old new

pub record PrintsPartOfGroups (s : Search) (old new : DeskState) : Type 0 where
  pub given : GivenOrgs
  pub is_given : s.orgs ≡ Some given
  pub are : AreGroups (part s) (groups_in s.whole s.header given.orgs)
  pub prints : PrintsPartOfBlocks s given.digest (groups_in s.whole s.header given.orgs) old new
