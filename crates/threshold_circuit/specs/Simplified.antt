-- The circuit of a quorum set where the faulty nodes count as present, and the other nodes outside the greatest quorum as absent.
use Rattle.std.specs.Prelude.{ℕ, ◌+◌, ◌-◌, Bool, ◌==◌, ◌&&◌, nat_le, nat_lt, if◌then◌else◌}
use Rattle.fbas_model.specs.Nodes.{Nodes}
use Rattle.fbas_model.specs.Trees.{QuorumSet, quorum_set, Entries, none, node, inner}
use Rattle.fbas_model.specs.QuorumSets.{count}
use Rattle.threshold_circuit.specs.Circuits.{Circuit, Inputs, always, never, leaf, at_least, end_of_gate, input, input_count}

abbrev pub validator_circuit : Nodes → Nodes → ℕ → Circuit
validator_circuit greatest faulty v = if faulty v then always else (if greatest v then leaf v else never)

-- how many inputs are true in any case
abbrev pub always_count : Inputs → ℕ
always_count end_of_gate = 0
always_count (input always others) = 1 + always_count others
always_count (input never others) = always_count others
always_count (input (leaf v) others) = always_count others
always_count (input (at_least k inputs) others) = always_count others

-- the inputs that are not decided
abbrev pub undecided : Inputs → Inputs
undecided end_of_gate = end_of_gate
undecided (input always others) = undecided others
undecided (input never others) = undecided others
undecided (input (leaf v) others) = input (leaf v) (undecided others)
undecided (input (at_least k inputs) others) = input (at_least k inputs) (undecided others)

-- this many of these inputs, which is decided where none is wanted, or more than there are
abbrev pub threshold_over : ℕ → Inputs → Circuit
threshold_over k inputs = if k == 0 then always else (if nat_lt (input_count inputs) k then never else at_least k inputs)

-- a threshold that some choice of the entries meets
abbrev pub is_good_threshold : ℕ → Entries → Bool
is_good_threshold k entries = nat_le 1 k && nat_le k (count entries)

abbrev mutual
  -- a bad threshold is decided on the entries as they were written; each input that is always true lowers the threshold
  pub simplified : Nodes → Nodes → QuorumSet → Circuit
  simplified greatest faulty (quorum_set k entries) =
      if is_good_threshold k entries
      then threshold_over (k - always_count (simplified_entries greatest faulty entries)) (undecided (simplified_entries greatest faulty entries))
      else never

  -- the circuit of each entry, in order
  pub simplified_entries : Nodes → Nodes → Entries → Inputs
  simplified_entries greatest faulty none = end_of_gate
  simplified_entries greatest faulty (node v rest) = input (validator_circuit greatest faulty v) (simplified_entries greatest faulty rest)
  simplified_entries greatest faulty (inner q rest) = input (simplified greatest faulty q) (simplified_entries greatest faulty rest)
