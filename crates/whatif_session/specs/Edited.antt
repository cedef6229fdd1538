-- What an edit makes of a system, or its first fault.
use Rattle.std.specs.Prelude.{◌≡◌, ◌<◌, ◌≤◌, length, slice_set, ℕ, List, Bool, false, Option, Some, None, Result, Ok, Err, ok_or, is_some, nat_lt, slice_index_or, if◌then◌else◌}
use Rattle.fbas_model.specs.declared.TheConstants.{MOST_ENTRIES}
use Rattle.fbas_model.specs.Names.{Name, place_of}
use Rattle.fbas_model.specs.Trees.{QuorumSet, quorum_set, none}
use Rattle.fbas_model.specs.Systems.{System, IsSystem, IsWithin, entries_in}
use Rattle.fbas_core.specs.Replacing.{with_set}
use Rattle.whatif_session.specs.Changes.{set_at, changed_at, has_validator}
use Rattle.whatif_session.specs.Edits.{Edit, Threshold, Add, Drop, Declare, Retire}
use Rattle.whatif_session.specs.Names.{with_node}
use Rattle.whatif_session.specs.declared.change.Change.TheVariants as change
use Rattle.whatif_session.specs.declared.faults.EditFault.{EditFault}
use Rattle.whatif_session.specs.declared.faults.EditFault.TheVariants.{UnknownNode, NoSet, Already, NotThere, TooManyEntries}

infixl 10 ◌>>=◌
abbrev pub ◌>>=◌ : {A B : Type 0} → Result A EditFault → (A → Result B EditFault) → Result B EditFault
(Ok a) >>= f = f a
(Err e) >>= f = Err e

-- the node of a name
abbrev pub node_in : System → Name → Result ℕ EditFault
node_in s name = ok_or (place_of s.names name) UnknownNode

-- the quorum set of a node
abbrev pub own_in : System → ℕ → Result QuorumSet EditFault
own_in s v = ok_or (slice_index_or s.sets v None) NoSet

-- the quorum set that a path leads to
abbrev pub inner_in : List ℕ → QuorumSet → Result QuorumSet EditFault
inner_in path d = ok_or (set_at path d) NoSet

-- the node of a name that stands among the validators of the set
abbrev pub validator_in : QuorumSet → Option ℕ → Result ℕ EditFault
validator_in q None = Err NotThere
validator_in q (Some w) = if has_validator w q then Ok w else Err NotThere

-- no system has more entries than the limit
abbrev pub within_entries : System → Result System EditFault
within_entries s = if nat_lt MOST_ENTRIES (entries_in s.sets) then Err (TooManyEntries (entries_in s.sets)) else Ok s

-- the name after the validators of the set that a path leads to, in the quorum set of a node; both are nodes of the system
abbrev pub appended : System → Name → List ℕ → Name → Result System EditFault
appended s node path name = do
  v ← node_in s node
  d ← own_in s v
  w ← node_in s name
  within_entries (with_set s v (Some (changed_at path (change.Add w) d)))

-- the quorum set of a node that is one of the system: threshold 1 and no entries
abbrev pub declared : System → Name → Result System EditFault
declared s node = do
  v ← node_in s node
  Ok (with_set s v (Some (quorum_set 1 none)))

-- whether the node has a quorum set
abbrev pub has_set : System → Option ℕ → Bool
has_set s None = false
has_set s (Some v) = is_some (slice_index_or s.sets v None)

-- the system after an edit, or the edit's first fault
unfoldable pub edited : System → Edit → Result System EditFault
edited s (Threshold node path k) = do
  v ← node_in s node
  d ← own_in s v
  q ← inner_in path d
  Ok (with_set s v (Some (changed_at path (change.Threshold k) d)))
edited s (Add node path name) = do
  v ← node_in s node
  d ← own_in s v
  q ← inner_in path d
  t ← with_node s name
  appended t node path name
edited s (Drop node path name) = do
  v ← node_in s node
  d ← own_in s v
  q ← inner_in path d
  w ← validator_in q (place_of s.names name)
  Ok (with_set s v (Some (changed_at path (change.Drop w) d)))
edited s (Declare node) = if has_set s (place_of s.names node) then Err Already else do
  t ← with_node s node
  declared t node
edited s (Retire node) = do
  v ← node_in s node
  d ← own_in s v
  Ok (with_set s v None)

-- the node of a name and its quorum set, within the limits
pub record IsOwnSet (s : System) (name : Name) (v : ℕ) (d : QuorumSet) : Type 0 where
  pub node : node_in s name ≡ Ok v
  pub set : own_in s v ≡ Ok d
  pub is : slice_index_or s.sets v None ≡ Some d
  pub low : v < length s.sets
  pub within : IsWithin (length s.names) d
  pub limits : IsSystem s.names s.sets

-- the node of a name, and its quorum set with another name appended at the path, within the limits
pub record IsAppended (s : System) (node : Name) (path : List ℕ) (name : Name) (v : ℕ) (d : QuorumSet) : Type 0 where
  pub is : appended s node path name ≡ Ok (with_set s v (Some d))
  pub low : v < length s.sets
  pub within : IsWithin (length s.names) d
  pub few : entries_in (slice_set s.sets v (Some d)) ≤ MOST_ENTRIES

-- the quorum set of the node of a name
abbrev pub owned : System → Name → Result QuorumSet EditFault
owned s name = do
  v ← node_in s name
  own_in s v
