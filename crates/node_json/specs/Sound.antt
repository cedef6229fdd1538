-- What holds of the nodes of each configuration that is read.
use Rattle.std.specs.Prelude.{◌≡◌, ◌≤◌, false, List, [], ◌∷◌, All, IfSome, IsTrue}
use Rattle.std.specs.Str.{bytes_eq}
use Rattle.fbas_model.specs.declared.TheConstants.{MOST_LEVELS}
use Rattle.fbas_model.specs.Names.{Name, is_key}
use Rattle.fbas_model.specs.QuorumSets.{depth}
use Rattle.node_json.specs.Named.{NamedSet, NamedNode}
use Rattle.node_json.specs.Configuration.{all_names, numbered}

-- no two nodes have one key
abbrev pub AreApart : List NamedNode → Type 0
AreApart [] = Unit {0}
AreApart (n ∷ ns) = All (λ m. bytes_eq m.key n.key ≡ false) ns × AreApart ns

-- the quorum set nests no deeper than the limit
abbrev pub IsShallow : NamedSet → Type 0
IsShallow s = (names : List Name) → depth (numbered names s) ≤ MOST_LEVELS

-- each name is a key, no two nodes have one key, and no quorum set nests deeper
pub record AreSound (nodes : List NamedNode) : Type 0 where
  pub keys : All (λ name. IsTrue (is_key name)) (all_names nodes)
  pub apart : AreApart nodes
  pub shallow : All (λ n. IfSome n.quorum_set IsShallow) nodes
