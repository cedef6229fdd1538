-- The ids of organisations that were read are keys, and there are few of them.
use Rattle.std.proofs.Common.{◌≡◌, ℕ, ◌+◌, ◌≤◌, List, [], ◌∷◌, ◌++◌, length, map, Bool, true, false, not, cond, nat_lt, IfSome, Option, Some, None, option_and_then, ok_or, IfOk, Result, Ok, Err, inl, inr, refl, subst, arith, codes}
use Rattle.std.specs.List.{AllByRecursion}
use Rattle.std.proofs.lemmas.Bool.{cases_Bool, ltb-false}
use Rattle.std.proofs.lemmas.List.{length-map}
use Rattle.std.proofs.lemmas.List.Elements.{All-from_recursion, recursion_from_All}
use Rattle.serde_json.specs.Data.{Data, Items, no_items, item}
use Rattle.serde_json.specs.Find.{get, as_str, as_array}
use Rattle.fbas_model.specs.declared.TheConstants.{MOST_ORGS}
use Rattle.fbas_model.specs.Names.{Name, is_key, is_among}
use Rattle.node_json.specs.NamesInOrder.{in_order}
use Rattle.node_json.specs.Organisations.{NamedOrg, Org, org_id_of, org_validators_of, org_of, orgs_from, orgs_in, within_orgs, named_orgs_of, among_nodes, orgs_of, ids_of}
use Rattle.node_json.specs.Reading.{and_then, after, unless, tree_of, is_object, key_if, key_of}
use Rattle.node_json.specs.declared.faults.OrgFault.{OrgFault}
use Rattle.node_json.specs.declared.faults.OrgFault.TheVariants.{NotJson, NotOrgs, BadOrg, DuplicateOrg}
use Rattle.node_json.proofs.NamesInOrder.{All-in_order}
use Rattle.cert_writer.proofs.Names.{AreKeys}

-- ---- what is so of each value that a reading comes to

abbrev Anything : {A : Type 0} → A → Type 0
Anything a = Unit {0}

any_value : {A : Type 0} (r : Result A OrgFault) → IfOk r Anything
any_value (Ok a) = tt
any_value (Err e) = tt

if_then : {A B : Type 0} (Q : B → Type 0) (f : A → Option B) → ((a : A) → IfSome (f a) Q) → (o : Option A) → IfSome (option_and_then f o) Q
if_then Q f so None = tt
if_then Q f so (Some a) = so a

ok_if : {A : Type 0} (P : A → Type 0) (o : Option A) (e : OrgFault) → IfSome o P → IfOk (ok_or o e) P
ok_if P None e so = tt
ok_if P (Some a) e so = so

ok_unless : {A : Type 0} (P : A → Type 0) (e : OrgFault) (t : Bool) (r : Result A OrgFault) → IfOk r P → IfOk (unless e t r) P
ok_unless P e true r so = so
ok_unless P e false r so = tt

ok_then : {A B : Type 0} (P : A → Type 0) (Q : B → Type 0) (f : A → Result B OrgFault) → ((a : A) → P a → IfOk (f a) Q) → (r : Result A OrgFault) → IfOk r P → IfOk (and_then f r) Q
ok_then P Q f so (Ok a) p = so a p
ok_then P Q f so (Err e) p = tt

ok_after : {A B : Type 0} (P : A → Type 0) (Q : B → Type 0) (f : A → B) → ((a : A) → P a → Q (f a)) → (r : Result A OrgFault) → IfOk r P → IfOk (after f r) Q
ok_after P Q f so (Ok a) p = so a p
ok_after P Q f so (Err e) p = tt

-- ---- keys

abbrev IsKey : Name → Type 0
IsKey name = is_key name ≡ true

key_if_one : (name : Name) → IfSome (key_if name) IsKey
key_if_one name = by_test (is_key name) (λ is. is)
  where
    by_test : (b : Bool) → (b ≡ true → IsKey name) → IfSome (cond b (Some name) None) IsKey
    by_test true is = is refl
    by_test false is = tt

id_key : (i : ℕ) (d : Data) → IfOk (org_id_of i d) IsKey
id_key i d =
    let id = option_and_then key_of (get (codes "id") d) in
    ok_unless IsKey (BadOrg i) (is_object d) (ok_or id (BadOrg i)) (ok_if IsKey id (BadOrg i) (if_then IsKey key_of (λ (m : Data). if_then IsKey key_if key_if_one (as_str m)) (get (codes "id") d)))

-- ---- organisations

abbrev HasKey : NamedOrg → Type 0
HasKey org = is_key org.id ≡ true

abbrev HaveKeys : List NamedOrg → Type 0
HaveKeys orgs = AllByRecursion HasKey orgs

org_key : (i : ℕ) (earlier : List Name) (d : Data) → IfOk (org_of i earlier d) HasKey
org_key i earlier d =
    let made : Name → List Name → NamedOrg = λ id validators. record { id = id; validators = validators } in
    let read : Name → Result NamedOrg OrgFault = λ id. after (made id) (org_validators_of i d) in
    ok_then IsKey HasKey (λ id. unless (DuplicateOrg i) (not (is_among id earlier)) (read id))
    (λ id key. ok_unless HasKey (DuplicateOrg i) (not (is_among id earlier)) (read id) (ok_after Anything HasKey (made id) (λ validators any. key) (org_validators_of i d) (any_value (org_validators_of i d)))) (org_id_of i d) (id_key i d)

from_keys : (i : ℕ) (earlier : List Name) (ds : Items) → IfOk (orgs_from i earlier ds) HaveKeys
from_keys i earlier no_items = tt
from_keys i earlier (item d ds) =
    let rest : NamedOrg → Result (List NamedOrg) OrgFault = λ org. orgs_from (i + 1) (earlier ++ org.id ∷ []) ds in
    ok_then HasKey HaveKeys (λ (org : NamedOrg). after (λ (orgs : List NamedOrg). org ∷ orgs) (rest org))
    (λ org key. ok_after HaveKeys HaveKeys (λ (orgs : List NamedOrg). org ∷ orgs) (λ orgs keys. (key, keys)) (rest org) (from_keys (i + 1) (earlier ++ org.id ∷ []) ds)) (org_of i earlier d) (org_key i earlier d)

in_keys : (tree : Data) → IfOk (orgs_in tree) HaveKeys
unfolding orgs_in
in_keys tree = ok_then Anything HaveKeys (orgs_from 0 []) (λ ds any. from_keys 0 [] ds) (ok_or (as_array tree) NotOrgs) (any_value (ok_or (as_array tree) NotOrgs))

-- what those of a file have: keys, and there are few
record AreFew (orgs : List NamedOrg) : Type 0 where
  keys : HaveKeys orgs
  few : length orgs ≤ MOST_ORGS

within : (orgs : List NamedOrg) → HaveKeys orgs → IfOk (within_orgs orgs) AreFew
within orgs keys = elim (cases_Bool (nat_lt MOST_ORGS (length orgs))) [
  | inl many ↦ rw many tt
  | inr few ↦ rw few (record { keys = keys; few = ltb-false MOST_ORGS (length orgs) few })
]

named_few : (bytes : List ℕ) → IfOk (named_orgs_of bytes) AreFew
unfolding named_orgs_of
named_few bytes =
    let tree = ok_or (tree_of bytes) NotJson in
    ok_then HaveKeys AreFew within_orgs within (and_then orgs_in tree) (ok_then Anything HaveKeys orgs_in (λ d any. in_keys d) tree (any_value tree))

ids-keys : (names : List Name) (orgs : List NamedOrg) → HaveKeys orgs → AreKeys (ids_of (map (among_nodes names) orgs))
ids-keys names [] all = tt
ids-keys names (org ∷ orgs) all = (all.0, ids-keys names orgs all.1)

-- those of a file
pub record AreRead (orgs : List Org) : Type 0 where
  pub keys : AreKeys (ids_of orgs)
  pub few : length orgs ≤ MOST_ORGS

pub orgs_read : (names : List Name) (bytes : List ℕ) (orgs : List Org) → orgs_of names bytes ≡ Ok orgs → AreRead orgs
unfolding orgs_of
orgs_read names bytes orgs h =
    subst (λ (r : Result (List Org) OrgFault). IfOk r AreRead) h (ok_after AreFew AreRead (map (among_nodes names)) of_few (named_orgs_of bytes) (named_few bytes))
  where
    of_few : (orgs : List NamedOrg) → AreFew orgs → AreRead (map (among_nodes names) orgs)
    of_few orgs few = record { keys = ids-keys names orgs few.keys; few = omega (arith, few.few, length-map orgs (among_nodes names)) }

-- and in order
pub keys-in_order : (ids : List Name) → AreKeys ids → AreKeys (in_order ids)
keys-in_order ids all = recursion_from_All IsKey (in_order ids) (All-in_order IsKey ids (All-from_recursion IsKey ids all))
