-- A quorum set by its two lists, its validators and its inner quorum sets.
use Rattle.std.specs.Prelude.{ℕ, List, [], ◌∷◌, ◌==◌}
use Rattle.std.specs.List.{list_any}
use Rattle.fbas_model.specs.Nodes.{Nodes}
use Rattle.fbas_model.specs.Trees.{QuorumSet, Entries, none, node, inner}

abbrev pub inner_entries : List QuorumSet → Entries
inner_entries [] = none
inner_entries (q ∷ qs) = inner q (inner_entries qs)

-- the validators in order, then the inner quorum sets in order
abbrev pub entries_of : List ℕ → List QuorumSet → Entries
entries_of [] inners = inner_entries inners
entries_of (w ∷ ws) inners = node w (entries_of ws inners)

-- the set of the nodes of a list
abbrev pub among : List ℕ → Nodes
among ws v = list_any (λ w. v == w) ws
