-- Quorum sets and nodes as a configuration writes them, with names in place of numbers.
use Rattle.std.specs.Prelude.{ℕ, List, Option}
use Rattle.fbas_model.specs.Names.{Name}

mutual
  -- a threshold, the validators, and the inner quorum sets
  pub data NamedSet : Type 0 where
    named_set : ℕ → List Name → NamedSets → NamedSet

  -- quorum sets in order
  pub data NamedSets : Type 0 where
    no_sets : NamedSets
    one_set : NamedSet → NamedSets → NamedSets

-- a declared node: its key, and its quorum set if it has one
pub record NamedNode : Type 0 where
  pub key : Name
  pub quorum_set : Option NamedSet
