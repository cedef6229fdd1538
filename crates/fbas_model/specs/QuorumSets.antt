-- What a quorum set lets a node choose. A node's quorum slices (Mazières 2015) are the node together with each choice.
use Rattle.std.specs.Prelude.{ℕ, suc, ◌+◌, ◌≤◌, ◌<◌, max}
use Rattle.fbas_model.specs.Nodes.{Nodes, ◌⊆◌, ∅, only, ◌∪◌}
use Rattle.fbas_model.specs.Trees.{QuorumSet, quorum_set, Entries, none, node, inner}

-- how many entries: a node that stands twice counts twice
abbrev pub count : Entries → ℕ
count none = 0
count (node w rest) = 1 + count rest
count (inner q rest) = 1 + count rest

mutual
  -- k of the entries, at different places, give the set s together
  pub data Pick : Entries → ℕ → Nodes → Type 0 where
    done : Pick none 0 ∅
    pass_node : {w : ℕ} {rest : Entries} {k : ℕ} {s : Nodes} → Pick rest k s → Pick (node w rest) k s
    pass_inner : {q : QuorumSet} {rest : Entries} {k : ℕ} {s : Nodes} → Pick rest k s → Pick (inner q rest) k s
    take_node : {w : ℕ} {rest : Entries} {k : ℕ} {s : Nodes} → Pick rest k s → Pick (node w rest) (suc k) (only w ∪ s)
    take_inner : {q : QuorumSet} {rest : Entries} {k : ℕ} {part s : Nodes} → Choice q part → Pick rest k s → Pick (inner q rest) (suc k) (part ∪ s)

  -- s is what the quorum set's threshold of entries gives, a number from 1 to that of its entries
  pub data Choice : QuorumSet → Nodes → Type 0 where
    choice : {k : ℕ} {entries : Entries} {s : Nodes} → 1 ≤ k → k ≤ count entries → Pick entries k s → Choice (quorum_set k entries) s

-- some choice lies inside u
abbrev pub HasChoiceWithin : QuorumSet → Nodes → Type 0
HasChoiceWithin q u = (s : Nodes) × Choice q s × s ⊆ u

abbrev mutual
  -- each node in it, at any depth, is a number below n
  pub IsBelow : ℕ → QuorumSet → Type 0
  IsBelow n (quorum_set k entries) = AreBelow n entries

  pub AreBelow : ℕ → Entries → Type 0
  AreBelow n none = Unit {0}
  AreBelow n (node w rest) = (w < n) × AreBelow n rest
  AreBelow n (inner q rest) = IsBelow n q × AreBelow n rest

abbrev mutual
  -- the nodes that stand in it, at any depth
  pub mentioned : QuorumSet → Nodes
  mentioned (quorum_set k entries) = mentioned_by entries

  pub mentioned_by : Entries → Nodes
  mentioned_by none = ∅
  mentioned_by (node w rest) = only w ∪ mentioned_by rest
  mentioned_by (inner q rest) = mentioned q ∪ mentioned_by rest

abbrev mutual
  -- how much is written in it, more than in each inner quorum set
  pub weight : QuorumSet → ℕ
  weight (quorum_set k entries) = 1 + weight_of entries

  pub weight_of : Entries → ℕ
  weight_of none = 0
  weight_of (node w rest) = weight_of rest
  weight_of (inner q rest) = weight q + weight_of rest

abbrev mutual
  -- how many entries stand in it at all depths: an inner quorum set is an entry, and has entries of its own
  pub all_entries : QuorumSet → ℕ
  all_entries (quorum_set k entries) = all_entries_of entries

  pub all_entries_of : Entries → ℕ
  all_entries_of none = 0
  all_entries_of (node w rest) = 1 + all_entries_of rest
  all_entries_of (inner q rest) = 1 + all_entries q + all_entries_of rest

abbrev mutual
  -- how deep it nests: 1 where it has no inner quorum sets
  pub depth : QuorumSet → ℕ
  depth (quorum_set k entries) = 1 + depth_of entries

  pub depth_of : Entries → ℕ
  depth_of none = 0
  depth_of (node w rest) = depth_of rest
  depth_of (inner q rest) = max (depth q) (depth_of rest)
