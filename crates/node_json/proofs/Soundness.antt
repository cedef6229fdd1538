-- What holds of the nodes that are read: each name is a key, and quorum sets nest at most so deep as they are read.
use Rattle.std.proofs.Common.{◌≡◌, ℕ, zero, suc, ◌+◌, ◌≤◌, List, [], ◌∷◌, ◌++◌, map, get_or, Bool, true, false, Option, Some, None, option_map, option_and_then, ok_or, Result, Ok, Err, All, IfSome, IsTrue, cond, not, codes, refl, sym, subst, ◌∙◌, arith}
use Rattle.std.proofs.lemmas.List.Elements.{All-nil, All-cons, All-append}
use Rattle.std.proofs.lemmas.Bool.{or_parts, not-true}
use Rattle.std.proofs.lemmas.List.Folds.{list_any-append}
use Rattle.std.specs.Str.{bytes_eq}
use Rattle.serde_json.specs.Data.{Data, Items, no_items, item}
use Rattle.serde_json.specs.Find.{get, as_str, as_array}
use Rattle.fbas_model.specs.Names.{Name, is_key, is_among}
use Rattle.fbas_model.specs.QuorumSets.{depth, depth_of}
use Rattle.fbas_model.specs.Trees.{Entries}
use Rattle.fbas_model.specs.declared.TheConstants.{MOST_LEVELS}
use Rattle.node_json.specs.Configuration.{number_of, nodes_then, numbered, all_numbered, names_in_set, names_in_sets, names_if_any, all_names}
use Rattle.node_json.specs.Named.{NamedSet, NamedSets, named_set, no_sets, one_set, NamedNode}
use Rattle.node_json.specs.Reading.{and_then, after, unless, or_missing, is_object, key_if, key_of, keys_in, items_or_none, threshold_of, validators_of, inner_of, sets_by, inner_by, set_by, set_of, set_if_any, node_key_of, node_set_of, node_of, nodes_from, nodes_in}
use Rattle.node_json.specs.Sound.{AreSound, IsShallow}
use Rattle.node_json.specs.declared.faults.ConfigFault.{ConfigFault}
use Rattle.node_json.specs.declared.faults.ConfigFault.TheVariants.{NotNode, BadKey, Duplicate, BadQuorumSet, NotNodes}
use Rattle.node_json.specs.declared.faults.SetFault.TheVariants.{Shape, Threshold, Validators, Inner}

abbrev IsKey : Name → Type 0
IsKey name = IsTrue (is_key name)

-- ---- what a result without a fault came from

and_then-ok : {A B : Type 0} (f : A → Result B ConfigFault) (r : Result A ConfigFault) (b : B) → and_then f r ≡ Ok b → (a : A) × (r ≡ Ok a) × (f a ≡ Ok b)
and_then-ok f (Ok a) b h = (a, refl, h)
and_then-ok f (Err e) b h = cc

after-ok : {A B : Type 0} (f : A → B) (r : Result A ConfigFault) (b : B) → after f r ≡ Ok b → (a : A) × (r ≡ Ok a) × (f a ≡ b)
after-ok f (Ok a) b h = (a, refl, cc)
after-ok f (Err e) b h = cc

unless-ok : {A : Type 0} (e : ConfigFault) (t : Bool) (r : Result A ConfigFault) (a : A) → unless e t r ≡ Ok a → r ≡ Ok a
unless-ok e true r a h = h
unless-ok e false r a h = cc

unless-test : {A : Type 0} (e : ConfigFault) (t : Bool) (r : Result A ConfigFault) (a : A) → unless e t r ≡ Ok a → t ≡ true
unless-test e true r a h = refl
unless-test e false r a h = cc

ok_or-ok : {A : Type 0} (o : Option A) (e : ConfigFault) (a : A) → ok_or o e ≡ Ok a → o ≡ Some a
ok_or-ok (Some x) e a h = cc
ok_or-ok None e a h = cc

-- ---- keys

key_if-key : (name k : Name) → key_if name ≡ Some k → IsKey k
key_if-key name k h = by_test (is_key name) refl h
  where
    by_test : (b : Bool) → is_key name ≡ b → cond b (Some name) None ≡ Some k → IsKey k
    by_test true e g = let same : name ≡ k = cc in subst IsKey same e
    by_test false e g = cc

key_of-key : (d : Data) (k : Name) → key_of d ≡ Some k → IsKey k
key_of-key d k h = by_text (as_str d) h
  where
    by_text : (o : Option (List ℕ)) → option_and_then key_if o ≡ Some k → IsKey k
    by_text (Some name) g = key_if-key name k g
    by_text None g = cc

keys_in-keys : (ds : Items) (ks : List Name) → keys_in ds ≡ Some ks → All IsKey ks
keys_in-keys no_items ks h = let e : [] ≡ ks = cc in subst (All IsKey) e (All-nil IsKey)
keys_in-keys (item d ds) ks h = by_key (key_of d) refl (keys_in ds) (λ rest f. keys_in-keys ds rest f) h
  where
    by_key : (o : Option Name) → key_of d ≡ o → (r : Option (List Name)) → ((rest : List Name) → r ≡ Some rest → All IsKey rest) → option_and_then (λ k. option_map (λ rest. k ∷ rest) r) o ≡ Some ks → All IsKey ks
    by_key None e r f g = cc
    by_key (Some k) e None f g = cc
    by_key (Some k) e (Some rest) f g =
        let both : k ∷ rest ≡ ks = cc in
        subst (All IsKey) both (All-cons IsKey k rest (key_of-key d k e) (f rest refl))

validators_of-keys : (d : Data) (ks : List Name) → validators_of d ≡ Some ks → All IsKey ks
validators_of-keys d ks h = by_items (items_or_none (or_missing (get (codes "validators") d))) h
  where
    by_items : (o : Option Items) → option_and_then keys_in o ≡ Some ks → All IsKey ks
    by_items None g = cc
    by_items (Some ds) g = keys_in-keys ds ks g

-- ---- quorum sets

-- the names are keys, and the quorum set nests at most so deep
record IsSoundSet (levels : ℕ) (s : NamedSet) : Type 0 where
  keys : All IsKey (names_in_set s)
  shallow : (names : List Name) → depth (numbered names s) ≤ levels

record AreSoundSets (levels : ℕ) (ss : NamedSets) : Type 0 where
  keys : All IsKey (names_in_sets ss)
  shallow : (names : List Name) → depth_of (all_numbered names ss) ≤ levels

depth_of-nodes_then : (vs : List ℕ) (rest : Entries) → depth_of (nodes_then vs rest) ≡ depth_of rest
depth_of-nodes_then [] rest = refl
depth_of-nodes_then (v ∷ vs) rest = depth_of-nodes_then vs rest

module _ (one : Data → Result NamedSet ConfigFault) (levels : ℕ) (sound : (d : Data) (s : NamedSet) → one d ≡ Ok s → IsSoundSet levels s) where
  sets_by-sound : (ds : Items) (ss : NamedSets) → sets_by one ds ≡ Ok ss → AreSoundSets levels ss
  sets_by-sound no_items ss h = let e : no_sets ≡ ss = cc in subst (AreSoundSets levels) e (record { keys = All-nil IsKey; shallow = λ names. omega arith })
  sets_by-sound (item d ds) ss h =
      let first = and_then-ok (λ s. after (one_set s) (sets_by one ds)) (one d) ss h in
      let rest = after-ok (one_set first.0) (sets_by one ds) ss first.2 in
      let s = sound d first.0 first.1 in
      let more = sets_by-sound ds rest.0 rest.1 in
      subst (AreSoundSets levels) rest.2 (record {
        keys = All-append IsKey (names_in_set first.0) (names_in_sets rest.0) s.keys more.keys;
        shallow = λ names. omega (arith, s.shallow names, more.shallow names);
      })

  set-sound : (n : ℕ) (ks : List Name) (ss : NamedSets) (s : NamedSet) → named_set n ks ss ≡ s → All IsKey ks → AreSoundSets levels ss → IsSoundSet (levels + 1) s
  set-sound n ks ss s e keys inners = subst (IsSoundSet (levels + 1)) e (record {
    keys = All-append IsKey ks (names_in_sets ss) keys inners.keys;
    shallow = λ names. omega (arith, inners.shallow names, depth_of-nodes_then (map (number_of names) ks) (all_numbered names ss));
  })

  set_by-sound : (i : ℕ) (d : Data) (s : NamedSet) → set_by one i d ≡ Ok s → IsSoundSet (levels + 1) s
  set_by-sound i d s h =
      let read = λ (n : ℕ) (ks : List Name). after (named_set n ks) (inner_by one i d) in
      let valid = λ (n : ℕ). and_then (read n) (ok_or (validators_of d) (BadQuorumSet i Validators)) in
      let whole = unless-ok (BadQuorumSet i Shape) (is_object d) (and_then valid (ok_or (threshold_of d) (BadQuorumSet i Threshold))) s h in
      let n = and_then-ok valid (ok_or (threshold_of d) (BadQuorumSet i Threshold)) s whole in
      let ks = and_then-ok (read n.0) (ok_or (validators_of d) (BadQuorumSet i Validators)) s n.2 in
      let ss = after-ok (named_set n.0 ks.0) (inner_by one i d) s ks.2 in
      let items = and_then-ok (sets_by one) (ok_or (inner_of d) (BadQuorumSet i Inner)) ss.0 ss.1 in
      set-sound n.0 ks.0 ss.0 s ss.2 (validators_of-keys d ks.0 (ok_or-ok (validators_of d) (BadQuorumSet i Validators) ks.0 ks.1)) (sets_by-sound items.0 ss.0 items.2)

set_of-sound : (i levels : ℕ) (d : Data) (s : NamedSet) → set_of i levels d ≡ Ok s → IsSoundSet levels s
unfolding set_of
set_of-sound i zero d s h = cc
set_of-sound i (suc levels) d s h =
    let e : levels + 1 ≡ suc levels = omega arith in
    subst (λ n. IsSoundSet n s) e (set_by-sound (set_of i levels) levels (set_of-sound i levels) i d s h)

-- ---- nodes

record IsSoundNode (n : NamedNode) : Type 0 where
  key : IsKey n.key
  set : IfSome n.quorum_set (IsSoundSet MOST_LEVELS)

set_if_any-sound : (i : ℕ) (o : Option Data) (found : Option NamedSet) → set_if_any i o ≡ Ok found → IfSome found (IsSoundSet MOST_LEVELS)
set_if_any-sound i None found h = let e : None ≡ found = cc in subst (λ (f : Option NamedSet). IfSome f (IsSoundSet MOST_LEVELS)) e tt
set_if_any-sound i (Some d) found h =
    let s = after-ok Some (set_of i MOST_LEVELS d) found h in
    subst (λ (f : Option NamedSet). IfSome f (IsSoundSet MOST_LEVELS)) s.2 (set_of-sound i MOST_LEVELS d s.0 s.1)

node_key_of-key : (i : ℕ) (d : Data) (k : Name) → node_key_of i d ≡ Ok k → IsKey k
node_key_of-key i d k h =
    let found = option_and_then key_of (get (codes "publicKey") d) in
    let read = ok_or-ok found (BadKey i) k (unless-ok (NotNode i) (is_object d) (ok_or found (BadKey i)) k h) in
    by_member (get (codes "publicKey") d) read
  where
    by_member : (o : Option Data) → option_and_then key_of o ≡ Some k → IsKey k
    by_member None g = cc
    by_member (Some m) g = key_of-key m k g

node_of-sound : (i : ℕ) (earlier : List Name) (d : Data) (n : NamedNode) → node_of i earlier d ≡ Ok n → IsSoundNode n
node_of-sound i earlier d n h =
    let with_key = λ (key : Name) (found : Option NamedSet). let made : NamedNode = record { key = key; quorum_set = found } in made in
    let rest = λ (key : Name). unless (Duplicate i) (not (is_among key earlier)) (after (with_key key) (node_set_of i d)) in
    let k = and_then-ok rest (node_key_of i d) n h in
    let made = unless-ok (Duplicate i) (not (is_among k.0 earlier)) (after (with_key k.0) (node_set_of i d)) n k.2 in
    let found = after-ok (with_key k.0) (node_set_of i d) n made in
    subst IsSoundNode found.2 (record { key = node_key_of-key i d k.0 k.1; set = set_if_any-sound i (or_missing (get (codes "quorumSet") d)) found.0 found.1 })

each_shallow : (o : Option NamedSet) → IfSome o (IsSoundSet MOST_LEVELS) → IfSome o IsShallow
each_shallow None h = h
each_shallow (Some s) h = h.shallow

names_if_any-keys : (o : Option NamedSet) → IfSome o (IsSoundSet MOST_LEVELS) → All IsKey (names_if_any o)
names_if_any-keys None h = All-nil IsKey
names_if_any-keys (Some s) h = h.keys

-- a key that is not among others and one more
apart-push : (k x : Name) (ks : List Name) → is_among k (ks ++ x ∷ []) ≡ false → (is_among k ks ≡ false) × (bytes_eq k x ≡ false)
apart-push k x ks h =
    let both = or_parts (is_among k ks) (is_among k (x ∷ [])) (sym (list_any-append (bytes_eq k) ks (x ∷ [])) ∙ h) in
    (both.0, (or_parts (bytes_eq k x) false both.1).0)

node_of-new : (i : ℕ) (earlier : List Name) (d : Data) (n : NamedNode) → node_of i earlier d ≡ Ok n → is_among n.key earlier ≡ false
node_of-new i earlier d n h =
    let with_key = λ (key : Name) (found : Option NamedSet). let made : NamedNode = record { key = key; quorum_set = found } in made in
    let rest = λ (key : Name). unless (Duplicate i) (not (is_among key earlier)) (after (with_key key) (node_set_of i d)) in
    let k = and_then-ok rest (node_key_of i d) n h in
    let found = after-ok (with_key k.0) (node_set_of i d) n (unless-ok (Duplicate i) (not (is_among k.0 earlier)) (after (with_key k.0) (node_set_of i d)) n k.2) in
    subst (λ (m : NamedNode). is_among m.key earlier ≡ false) found.2 (not-true (is_among k.0 earlier) (unless-test (Duplicate i) (not (is_among k.0 earlier)) (after (with_key k.0) (node_set_of i d)) n k.2))

-- what each node keeps, and all of them together
record AreSoundFrom (earlier : List Name) (nodes : List NamedNode) : Type 0 where
  sound : AreSound nodes
  new : All (λ n. is_among n.key earlier ≡ false) nodes

nodes_from-sound : (i : ℕ) (earlier : List Name) (ds : Items) (nodes : List NamedNode) → nodes_from i earlier ds ≡ Ok nodes → AreSoundFrom earlier nodes
nodes_from-sound i earlier no_items nodes h =
    let e : [] ≡ nodes = cc in
    subst (AreSoundFrom earlier) e (record {
      sound = record { keys = All-nil IsKey; apart = tt; shallow = All-nil (λ n. IfSome n.quorum_set IsShallow) };
      new = All-nil (λ n. is_among n.key earlier ≡ false);
    })
nodes_from-sound i earlier (item d ds) nodes h =
    let rest = λ (node : NamedNode). after (λ ns. node ∷ ns) (nodes_from (i + 1) (earlier ++ node.key ∷ []) ds) in
    let n = and_then-ok rest (node_of i earlier d) nodes h in
    let ns = after-ok (λ ns. n.0 ∷ ns) (nodes_from (i + 1) (earlier ++ n.0.key ∷ []) ds) nodes n.2 in
    let one = node_of-sound i earlier d n.0 n.1 in
    let more = nodes_from-sound (i + 1) (earlier ++ n.0.key ∷ []) ds ns.0 ns.1 in
    subst (AreSoundFrom earlier) ns.2 (record {
      sound = record {
        keys = All-cons IsKey n.0.key (names_if_any n.0.quorum_set ++ all_names ns.0) one.key (All-append IsKey (names_if_any n.0.quorum_set) (all_names ns.0) (names_if_any-keys n.0.quorum_set one.set) more.sound.keys);
        apart = ((λ k d h. (apart-push (get_or ns.0 k d).key n.0.key earlier (more.new k d h)).1), more.sound.apart);
        shallow = All-cons (λ m. IfSome m.quorum_set IsShallow) n.0 ns.0 (each_shallow n.0.quorum_set one.set) more.sound.shallow;
      };
      new = All-cons (λ m. is_among m.key earlier ≡ false) n.0 ns.0 (node_of-new i earlier d n.0 n.1) (λ k d h. (apart-push (get_or ns.0 k d).key n.0.key earlier (more.new k d h)).0);
    })

-- each configuration's nodes
pub nodes_in-sound : (tree : Data) (nodes : List NamedNode) → nodes_in tree ≡ Ok nodes → AreSound nodes
unfolding nodes_in
nodes_in-sound tree nodes h =
    let items = and_then-ok (nodes_from 0 []) (ok_or (as_array tree) NotNodes) nodes h in
    let all = nodes_from-sound 0 [] items.0 nodes items.2 in
    all.sound
