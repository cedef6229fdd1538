-- What the system of a configuration is, said without its making.
use Rattle.std.specs.Prelude.{◌≡◌, List, Some, None, option_map, Contains, slice_get}
use Rattle.fbas_model.specs.Names.{Name, AreNamesOf}
use Rattle.fbas_model.specs.Systems.{System}
use Rattle.node_json.specs.Named.{NamedNode}
use Rattle.node_json.specs.Configuration.{all_names, number_of, numbered}

-- the system has each name that is declared or stands in a quorum set, and by numbers the quorum sets that are declared
pub record IsSystemOf (nodes : List NamedNode) (s : System) : Type 0 where
  pub names : AreNamesOf (all_names nodes) s.names
  pub numbers : (name : Name) → Contains (all_names nodes) name → slice_get s.names (number_of s.names name) ≡ Some name
  pub declared : (n : NamedNode) → Contains nodes n → slice_get s.sets (number_of s.names n.key) ≡ Some (option_map (numbered s.names) n.quorum_set)
  pub undeclared : (name : Name) → Contains s.names name → ((n : NamedNode) → Contains nodes n → n.key ≡ name → ⊥) → slice_get s.sets (number_of s.names name) ≡ Some None
