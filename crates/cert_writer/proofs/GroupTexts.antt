-- The texts of groups are such as a line may list.
use Rattle.std.proofs.Common.{◌≡◌, ℕ, ◌≤◌, ◌<◌, List, [], ◌∷◌, ◌++◌, length, map, true, not, nat_lt, slice_index_or, refl, sym, subst, arith, codes}
use Rattle.std.specs.List.{list_all}
use Rattle.std.proofs.lemmas.Bool.{and_parts, and_from, lt-ltb, ltb-true}
use Rattle.std.proofs.lemmas.List.{length-append, map-append}
use Rattle.std.specs.List.Sorted.{IsStrictlySortedBy}
use Rattle.fbas_model.specs.Names.{Name, name_cmp, is_key}
use Rattle.fbas_model.specs.Nodes.{Table, listed_from}
use Rattle.fbas_model.specs.Restriction.{kept as kept_of}
use Rattle.fbas_model.proofs.Listed.{kept_listed}
use Rattle.fbas_model.proofs.Tables.{length-table_from}
use Rattle.node_json.specs.NamesInOrder.{in_order}
use Rattle.node_json.specs.Organisations.{Org, ids_of}
use Rattle.node_json.specs.Groups.{Group, texts_of, org_group, org_groups, node_group, grouped, loose, groups_of}
use Rattle.node_json.proofs.GroupTexts.{texts_rise}
use Rattle.cert_lines.specs.Words.{is_name_byte}
use Rattle.cert_writer.proofs.Words.{IsWord, is_word}
use Rattle.cert_writer.proofs.Names.{AreKeys, key, key_short, keys-kept, IsText, AreTexts, AreListable}
use Rattle.cert_writer.proofs.OrgKeys.{keys-in_order}

-- ---- a word before a key

word-append : (xs ys : Name) → IsWord xs → IsWord ys → IsWord (xs ++ ys)
word-append [] ys a b = b
word-append (x ∷ xs) ys a b = (a.0, word-append xs ys a.1 b)

bytes-append : (xs ys : Name) → list_all is_name_byte xs ≡ true → list_all is_name_byte ys ≡ true → list_all is_name_byte (xs ++ ys) ≡ true
bytes-append [] ys a b = b
bytes-append (x ∷ xs) ys a b =
    let p = and_parts (is_name_byte x) (list_all is_name_byte xs) a in
    and_from (is_name_byte x) (list_all is_name_byte (xs ++ ys)) p.0 (bytes-append xs ys p.1 b)

before_key : (word id : Name) → IsWord word → list_all is_name_byte word ≡ true → length word ≤ 5 → is_key id ≡ true → IsText (word ++ id)
before_key word id is bytes few h =
    let k = key id h in
    let p = and_parts (nat_lt 0 (length id)) (list_all is_name_byte id) k.1 in
    let long : nat_lt 0 (length (word ++ id)) ≡ true = lt-ltb 0 (length (word ++ id)) (omega (arith, some (length id) p.0, length-append word id)) in
    record {
      word = word-append word id is k.0;
      named = and_from (nat_lt 0 (length (word ++ id))) (list_all is_name_byte (word ++ id)) long (bytes-append word id bytes p.1);
      short = omega (arith, few, key_short id h, length-append word id);
    }
  where
    some : (n : ℕ) → nat_lt 0 n ≡ true → 0 < n
    some n h = ltb-true 0 n h

org_text : (id : Name) → is_key id ≡ true → IsText (codes "org:" ++ id)
org_text id h = before_key (codes "org:") id (is_word (codes "org:") refl) refl (omega arith) h

node_text : (name : Name) → is_key name ≡ true → IsText (codes "node:" ++ name)
node_text name h = before_key (codes "node:") name (is_word (codes "node:") refl) refl (omega arith) h

-- ---- the texts of all groups

of_orgs : (names kept : List Name) (orgs : List Org) (ids : List Name) → AreKeys ids → AreTexts (texts_of (map (org_group names kept orgs) ids))
of_orgs names kept orgs [] keys = tt
of_orgs names kept orgs (id ∷ ids) keys = (org_text id keys.0, of_orgs names kept orgs ids keys.1)

of_nodes : (kept : List Name) (vs : List ℕ) → AreKeys (map (λ v. slice_index_or kept v []) vs) → AreTexts (texts_of (map (node_group kept) vs))
of_nodes kept [] keys = tt
of_nodes kept (v ∷ vs) keys = (node_text (slice_index_or kept v []) keys.0, of_nodes kept vs keys.1)

texts-append : (xs ys : List Name) → AreTexts xs → AreTexts ys → AreTexts (xs ++ ys)
texts-append [] ys a b = b
texts-append (x ∷ xs) ys a b = (a.0, texts-append xs ys a.1 b)

pub groups_listable : (names kept : List Name) (orgs : List Org) → AreKeys kept → IsStrictlySortedBy name_cmp kept → AreKeys (ids_of orgs) → AreListable (texts_of (groups_of names kept orgs))
unfolding groups_of
groups_listable names kept orgs keys sorted ids =
    let t : Table = loose (length kept) (org_groups names kept orgs) in
    let left : kept_of t kept ≡ map (λ v. slice_index_or kept v []) (listed_from 0 t) = kept_listed t kept [] (length-table_from 0 (length kept) (λ v. not (grouped (org_groups names kept orgs) v))) in
    let nodes : List Group = map (node_group kept) (listed_from 0 t) in
    let both : texts_of (nodes ++ org_groups names kept orgs) ≡ texts_of nodes ++ texts_of (org_groups names kept orgs) = map-append (λ (g : Group). g.text) nodes (org_groups names kept orgs) in
    record {
      texts =
          subst AreTexts (sym both)
          (texts-append (texts_of nodes) (texts_of (org_groups names kept orgs)) (of_nodes kept (listed_from 0 t) (subst AreKeys left (keys-kept t kept keys)))
          (of_orgs names kept orgs (in_order (ids_of orgs)) (keys-in_order (ids_of orgs) ids)));
      sorted = texts_rise names kept orgs sorted;
    }
