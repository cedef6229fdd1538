-- Whether a set of groups blocks, and with no group to spare, by computing: by trying all sets of nodes and of groups.
use Rattle.std.specs.Prelude.{List, length, Bool, not, ◌&&◌}
use Rattle.fbas_model.specs.Nodes.{Table, members, ◌∖◌}
use Rattle.fbas_model.specs.Fbas.{Fbas}
use Rattle.fbas_model.specs.Restriction.{table_from}
use Rattle.greatest_quorum.specs.Greatest.{some_set}
use Rattle.enumeration_journal.specs.Tests.{is_within, is_blocking}
use Rattle.group_journal.specs.Groups.{joined}

-- the members of the groups, without those of b, meet every quorum once b is deleted
abbrev pub is_group_block : Fbas → Table → List Table → Table → Bool
is_group_block f b groups marks = is_blocking f b (table_from 0 (length f) (joined groups marks ∖ members b))

-- no proper subset of the groups blocks
abbrev pub is_least_block : Fbas → Table → List Table → Table → Bool
is_least_block f b groups marks = not (some_set (length groups) (λ other. is_within other marks && (not (is_within marks other) && is_group_block f b groups other)))
