-- Changes of a quorum set, or of one inside it that a path leads to.
use Rattle.std.specs.Prelude.{ℕ, zero, suc, ◌==◌, ◌||◌, Bool, false, List, [], ◌∷◌, ◌++◌, Option, Some, None, option_and_then, if◌then◌else◌}
use Rattle.fbas_model.specs.Trees.{QuorumSet, quorum_set, Entries, none, node, inner}
use Rattle.fbas_model.specs.QuorumSets.{all_entries}
use Rattle.whatif_session.specs.declared.change.Change.{Change}
use Rattle.whatif_session.specs.declared.change.Change.TheVariants.{Threshold, Add, Drop}

-- ---- paths: the places of the inner sets from the outside in, counted from 0

-- of the inner sets among the entries that at a place
abbrev pub inner_at : ℕ → Entries → Option QuorumSet
inner_at i none = None
inner_at i (node w rest) = inner_at i rest
inner_at zero (inner q rest) = Some q
inner_at (suc i) (inner q rest) = inner_at i rest

-- the set that a path leads to
abbrev pub set_at : List ℕ → QuorumSet → Option QuorumSet
set_at [] q = Some q
set_at (i ∷ is) (quorum_set k entries) = option_and_then (set_at is) (inner_at i entries)

-- the inner set at a place is changed
abbrev pub with_inner : ℕ → (QuorumSet → QuorumSet) → Entries → Entries
with_inner i c none = none
with_inner i c (node w rest) = node w (with_inner i c rest)
with_inner zero c (inner q rest) = inner (c q) rest
with_inner (suc i) c (inner q rest) = inner q (with_inner i c rest)

-- the set that a path leads to is changed
abbrev pub at_path : List ℕ → (QuorumSet → QuorumSet) → QuorumSet → QuorumSet
at_path [] c q = c q
at_path (i ∷ is) c (quorum_set k entries) = quorum_set k (with_inner i (at_path is c) entries)

-- ---- changes

-- the node after the other nodes
abbrev pub with_validator : ℕ → Entries → Entries
with_validator w none = node w none
with_validator w (node v rest) = node v (with_validator w rest)
with_validator w (inner q rest) = node w (inner q rest)

-- without the first of the nodes that is this one
abbrev pub without_validator : ℕ → Entries → Entries
without_validator w none = none
without_validator w (node v rest) = if v == w then rest else node v (without_validator w rest)
without_validator w (inner q rest) = inner q (without_validator w rest)

-- the quorum set after a change of its own threshold or validators
abbrev pub changed_here : Change → QuorumSet → QuorumSet
changed_here (Threshold k) (quorum_set j entries) = quorum_set k entries
changed_here (Add w) (quorum_set j entries) = quorum_set j (with_validator w entries)
changed_here (Drop w) (quorum_set j entries) = quorum_set j (without_validator w entries)

-- the quorum set after a change of the set that a path leads to
abbrev pub changed_at : List ℕ → Change → QuorumSet → QuorumSet
changed_at path change q = at_path path (changed_here change) q

-- ---- the same on lists

abbrev pub without_first : ℕ → List ℕ → List ℕ
without_first w [] = []
without_first w (v ∷ vs) = if v == w then vs else v ∷ without_first w vs

abbrev pub threshold_after : Change → ℕ → ℕ
threshold_after (Threshold k) j = k
threshold_after (Add w) j = j
threshold_after (Drop w) j = j

abbrev pub validators_after : Change → List ℕ → List ℕ
validators_after (Threshold k) ws = ws
validators_after (Add w) ws = ws ++ w ∷ []
validators_after (Drop w) ws = without_first w ws

-- of the inner sets of a quorum set that at a place
abbrev pub inner_of : ℕ → QuorumSet → Option QuorumSet
inner_of i (quorum_set k entries) = inner_at i entries

-- whether the node is one of the set's own validators
abbrev pub is_validator : ℕ → Entries → Bool
is_validator w none = false
is_validator w (node v rest) = v == w || is_validator w rest
is_validator w (inner q rest) = is_validator w rest

abbrev pub has_validator : ℕ → QuorumSet → Bool
has_validator w (quorum_set k entries) = is_validator w entries

-- of a list of quorum sets that at a place is changed
abbrev pub changed_item : ℕ → (QuorumSet → QuorumSet) → List QuorumSet → List QuorumSet
changed_item i c [] = []
changed_item zero c (q ∷ qs) = c q ∷ qs
changed_item (suc i) c (q ∷ qs) = q ∷ changed_item i c qs

-- how many entries a quorum set has, or none
abbrev pub entries_if_any : Option QuorumSet → ℕ
entries_if_any None = 0
entries_if_any (Some q) = all_entries q
