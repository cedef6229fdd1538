-- The rules of a list of all minimal blocking sets of groups.
use Rattle.std.specs.Prelude.{◌≡◌, List, length}
use Rattle.fbas_model.specs.Nodes.{Nodes, Table, members, size}
use Rattle.fbas_model.specs.Fbas.{Fbas, Quorum as IsQuorum}
use Rattle.lrat_model.specs.Literal.{Literal}
use Rattle.enumeration_journal.specs.Kinds.{asks_new}
use Rattle.enumeration_journal.specs.Numbering.{clause_for}
use Rattle.enumeration_journal.specs.Journals.{Rules, nothing_held}
use Rattle.enumeration_journal.specs.declared.kinds.Listed.{Listed}
use Rattle.enumeration_journal.specs.declared.kinds.Listed.TheVariants.{Quorum, Blocking, Smaller}
use Rattle.group_journal.specs.Groups.{touching, GroupsBlockMinimally}

-- a listed quorum is any, a set of nodes; a listed blocking set is a minimal one, of groups
abbrev pub IsGroupLine : Fbas → Nodes → Table → List Table → Listed → Table → Type 0
IsGroupLine f b g groups Quorum u = (length u ≡ length f) × IsQuorum f b (members u)
IsGroupLine f b g groups Blocking s = GroupsBlockMinimally f b g groups s
IsGroupLine f b g groups Smaller u = ⊥

-- the groups that a set's clause is of: a quorum stands for the groups that have a member in it
abbrev pub groups_named : List Table → Listed → Table → Table
groups_named groups Quorum u = touching groups u
groups_named groups Blocking s = s
groups_named groups Smaller s = s

-- the clause of a set, with a variable for each of the groups that are touched, as by the greatest quorum
abbrev pub group_clause : List Table → Table → Listed → Table → List Literal
group_clause groups touched which set = clause_for Blocking touched which (groups_named groups which set)

-- the rules of a list of all minimal blocking sets of groups, of the system f once b is deleted, with its greatest quorum g
abbrev pub group_list_of : Fbas → Nodes → Table → List Table → Rules
group_list_of f b g groups = record {
  start = nothing_held;
  vars = size (touching groups g);
  IsRight = IsGroupLine f b g groups;
  clause = group_clause groups (touching groups g);
  asks = asks_new Blocking;
  cost = λ which. 1;
}
