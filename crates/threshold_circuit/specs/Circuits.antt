-- Monotone circuits of thresholds, as trees.
use Rattle.std.specs.Prelude.{ℕ, ◌+◌, ◌<◌, ◌≤◌}
use Rattle.fbas_model.specs.Nodes.{Nodes, ◌∈◌}

mutual
  -- true, false, whether a node is present, or whether this many inputs are true
  pub data Circuit : Type 0 where
    always : Circuit
    never : Circuit
    leaf : (v : ℕ) → Circuit
    at_least : (threshold : ℕ) (inputs : Inputs) → Circuit

  -- the inputs of a gate, in order
  pub data Inputs : Type 0 where
    end_of_gate : Inputs
    input : (first : Circuit) (others : Inputs) → Inputs

-- how many inputs
abbrev pub input_count : Inputs → ℕ
input_count end_of_gate = 0
input_count (input c others) = 1 + input_count others

abbrev mutual
  -- how many inputs the gates have at all depths: a gate that is an input counts, and has inputs of its own
  pub all_inputs : Circuit → ℕ
  all_inputs always = 0
  all_inputs never = 0
  all_inputs (leaf v) = 0
  all_inputs (at_least k inputs) = all_inputs_of inputs

  pub all_inputs_of : Inputs → ℕ
  all_inputs_of end_of_gate = 0
  all_inputs_of (input c others) = 1 + all_inputs c + all_inputs_of others

abbrev mutual
  -- each node in it is a number below n
  pub NodesBelow : ℕ → Circuit → Type 0
  NodesBelow n always = Unit {0}
  NodesBelow n never = Unit {0}
  NodesBelow n (leaf v) = v < n
  NodesBelow n (at_least k inputs) = AllNodesBelow n inputs

  pub AllNodesBelow : ℕ → Inputs → Type 0
  AllNodesBelow n end_of_gate = Unit {0}
  AllNodesBelow n (input c others) = NodesBelow n c × AllNodesBelow n others

abbrev mutual
  -- each threshold is from 1 to its number of inputs
  pub HasThresholds : Circuit → Type 0
  HasThresholds always = Unit {0}
  HasThresholds never = Unit {0}
  HasThresholds (leaf v) = Unit {0}
  HasThresholds (at_least k inputs) = (1 ≤ k) × (k ≤ input_count inputs) × HaveThresholds inputs

  pub HaveThresholds : Inputs → Type 0
  HaveThresholds end_of_gate = Unit {0}
  HaveThresholds (input c others) = HasThresholds c × HaveThresholds others

abbrev mutual
  -- nothing in it is decided: neither `always` nor `never`, each threshold from 1 to its number of inputs, each node in the set
  pub IsOpen : Nodes → Circuit → Type 0
  IsOpen nodes always = ⊥
  IsOpen nodes never = ⊥
  IsOpen nodes (leaf v) = v ∈ nodes
  IsOpen nodes (at_least k inputs) = (1 ≤ k) × (k ≤ input_count inputs) × AreOpen nodes inputs

  pub AreOpen : Nodes → Inputs → Type 0
  AreOpen nodes end_of_gate = Unit {0}
  AreOpen nodes (input c others) = IsOpen nodes c × AreOpen nodes others

-- the circuit is decided as a whole, or nothing in it is
abbrev pub IsReduced : Nodes → Circuit → Type 0
IsReduced nodes always = Unit {0}
IsReduced nodes never = Unit {0}
IsReduced nodes (leaf v) = v ∈ nodes
IsReduced nodes (at_least k inputs) = IsOpen nodes (at_least k inputs)
