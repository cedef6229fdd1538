-- A system with one name more.
use Rattle.std.specs.Prelude.{zero, suc, true, false, [], ℕ, ◌+◌, List, ◌∷◌, length, map, count_by, None, is_some, nat_le, nat_lt, if◌then◌else◌, Result, Ok, Err}
use Rattle.std.specs.List.{insert}
use Rattle.std.specs.Ordering.{is_lt}
use Rattle.std.specs.Option.{option_map}
use Rattle.fbas_model.specs.declared.TheConstants.{MOST_NODES}
use Rattle.fbas_model.specs.Names.{Name, name_cmp, place_of}
use Rattle.fbas_model.specs.Trees.{QuorumSet, quorum_set, Entries, none, node, inner}
use Rattle.fbas_model.specs.Systems.{System}
use Rattle.fbas_model.specs.Nodes.{Table}
use Rattle.whatif_session.specs.declared.faults.EditFault.{EditFault}
use Rattle.whatif_session.specs.declared.faults.EditFault.TheVariants.{TooManyNodes}

-- the number that a node has after one more name came to place p
abbrev pub number_after : ℕ → ℕ → ℕ
number_after p w = if nat_le p w then w + 1 else w

abbrev mutual
  -- the quorum set with the numbers that its nodes have after one more name came to place p
  pub moved_up : ℕ → QuorumSet → QuorumSet
  moved_up p (quorum_set k entries) = quorum_set k (all_moved_up p entries)

  pub all_moved_up : ℕ → Entries → Entries
  all_moved_up p none = none
  all_moved_up p (node w rest) = node (number_after p w) (all_moved_up p rest)
  all_moved_up p (inner q rest) = inner (moved_up p q) (all_moved_up p rest)

-- how many of the names come before this one
abbrev pub place_for : Name → List Name → ℕ
place_for name names = count_by (λ n. is_lt (name_cmp n name)) names

-- the system with this name at its place, for a node without a quorum set
abbrev pub with_name : System → Name → System
with_name s name =
    let p = place_for name s.names in
    record { names = insert s.names p name; sets = insert (map (option_map (moved_up p)) s.sets) p None }

-- the system with this name among its nodes: the same if it has it; no system has more nodes than the limit
abbrev pub with_node : System → Name → Result System EditFault
with_node s name =
    if is_some (place_of s.names name) then Ok s
    else if nat_lt MOST_NODES (length s.names + 1) then Err (TooManyNodes (length s.names + 1))
    else Ok (with_name s name)

-- ---- the law above it

-- n places, all marked
abbrev pub ones : ℕ → Table
ones zero = []
ones (suc n) = true ∷ ones n

-- n places marked, and one more that is not, at place p
abbrev pub all_but : ℕ → ℕ → Table
all_but zero n = false ∷ ones n
all_but (suc p) zero = []
all_but (suc p) (suc n) = true ∷ all_but p n
