-- What the reader makes of the tree of a configuration.
use Rattle.std.proofs.Common.{◌≡◌, ℕ, zero, suc, ◌+◌, true, false, List, [], ◌∷◌, ◌++◌, Option, Some, None, Ok, refl}
use Rattle.std.specs.Prelude.{All, IfSome}
use Rattle.std.proofs.lemmas.List.Elements.{All-head, All-tail}
use Rattle.fbas_model.specs.declared.TheConstants.{MOST_LEVELS}
use Rattle.fbas_model.specs.Names.{Name, is_key, is_among}
use Rattle.node_json.specs.Named.{NamedSet, NamedSets, named_set, no_sets, one_set, NamedNode}
use Rattle.node_json.specs.Reading.{keys_in, set_of, sets_by, node_of, nodes_from, nodes_in}
use Rattle.config_text.specs.Written.{strings, set_data, sets_data, node_by, nodes_data, config_data}

abbrev pub IsKey : Name → Type 0
IsKey name = is_key name ≡ true

abbrev pub EachReadable : (NamedSet → Type 0) → NamedSets → Type 0
EachReadable P no_sets = Unit {0}
EachReadable P (one_set s ss) = P s × EachReadable P ss

-- of keys, and no deeper than this many levels
abbrev pub IsReadable : ℕ → NamedSet → Type 0
IsReadable zero s = ⊥
IsReadable (suc levels) (named_set k validators inners) = All IsKey validators × EachReadable (IsReadable levels) inners

keys_back : (names : List Name) → All IsKey names → keys_in (strings names) ≡ Some names
keys_back [] h = refl
keys_back (name ∷ names) h = rw (All-head IsKey name names h, keys_back names (All-tail IsKey name names h)) refl

mutual
  unfolding set_of

  set_back : (i levels : ℕ) (s : NamedSet) → IsReadable levels s → set_of i levels (set_data s) ≡ Ok s
  set_back i zero s h = absurd h
  set_back i (suc levels) (named_set k validators inners) h = rw (keys_back validators h.0, sets_back i levels inners h.1) refl

  sets_back : (i levels : ℕ) (ss : NamedSets) → EachReadable (IsReadable levels) ss → sets_by (set_of i levels) (sets_data ss) ≡ Ok ss
  sets_back i levels no_sets h = refl
  sets_back i levels (one_set s ss) h = rw (set_back i levels s h.0, sets_back i levels ss h.1) refl

-- each key is none of those before it
abbrev pub AreFresh : List Name → List NamedNode → Type 0
AreFresh earlier [] = Unit {0}
AreFresh earlier (n ∷ ns) = (is_among n.key earlier ≡ false) × AreFresh (earlier ++ n.key ∷ []) ns

pub record IsReadableNode (n : NamedNode) : Type 0 where
  pub key : IsKey n.key
  pub set : IfSome n.quorum_set (IsReadable MOST_LEVELS)

node_back : (i : ℕ) (earlier : List Name) (key : Name) (o : Option NamedSet) → IsKey key → is_among key earlier ≡ false → IfSome o (IsReadable MOST_LEVELS) → node_of i earlier (node_by key o) ≡ Ok (record { key = key; quorum_set = o })
node_back i earlier key None is fresh h = rw (is, fresh) refl
node_back i earlier key (Some (named_set k validators inners)) is fresh h = rw (is, fresh, set_back i MOST_LEVELS (named_set k validators inners) h) refl

nodes_back : (i : ℕ) (earlier : List Name) (ns : List NamedNode) → All IsReadableNode ns → AreFresh earlier ns → nodes_from i earlier (nodes_data ns) ≡ Ok ns
nodes_back i earlier [] h fresh = refl
nodes_back i earlier (n ∷ ns) h fresh =
    let one = All-head IsReadableNode n ns h in
    rw (node_back i earlier n.key n.quorum_set one.key fresh.0 one.set, nodes_back (i + 1) (earlier ++ n.key ∷ []) ns (All-tail IsReadableNode n ns h) fresh.1) refl

pub config_back : (ns : List NamedNode) → All IsReadableNode ns → AreFresh [] ns → nodes_in (config_data ns) ≡ Ok ns
unfolding nodes_in
config_back ns h fresh = nodes_back 0 [] ns h fresh
