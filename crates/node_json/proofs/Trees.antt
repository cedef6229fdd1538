-- What a tree over borrowed text stands for, beside what serde_json makes of it.
use Rattle.std.proofs.Common.{◌≡◌, ◌&&◌, ℕ, List, [], Bool, true, false, cond, if◌then◌else◌, Option, Some, None, is_some, option_map, option_and_then, unwrap_or, pos, bytes_eq, Bor, refl, sym, ap, ◌∙◌}
use Rattle.std.proofs.lemmas.Slice.Eq.{bytes_eq-Decides}
use Rattle.std.specs.Option.{option_or}
use Rattle.json.specs.Json as json
use Rattle.json.specs.Lex.{tokens}
use Rattle.json.specs.Reads.{Yields}
use Rattle.json.specs.Token.{Token}
use Rattle.json.specs.declared.token.Token.{Token as Next}
use Rattle.json.specs.Find as json_find
use Rattle.json.specs.Value.{value_view}
use Rattle.serde_json.specs.Data.{Data, Num, number, negative, array, object, item, Members, no_members, put}
use Rattle.serde_json.specs.Find.{get, get_member}
use Rattle.serde_json.specs.Read.{of_json, of_items, of_members, number_of, read, max_depth}
use Rattle.serde_json.proofs.Views.{get_member-put, get_member-put_other}
use Rattle.node_json.specs.Tree.{Tree, data_of, items_of, members_of, is_in_range, items_in_range, members_in_range, view}

-- ---- what is in range

made : {A B : Type 0} (f : A → B) (b : Bool) (a : A) → option_map f (if b then Some a else None) ≡ (if b then Some (f a) else None)
made f true a = refl
made f false a = refl

one_number : (o : Option Num) → option_map number o ≡ (if is_some o then Some (number (unwrap_or o (negative (pos 0)))) else None)
one_number (Some n) = refl
one_number None = refl

both : {A C : Type 0} (g : A → Option C) (b c : Bool) (a : A) (r : C) → g a ≡ (if c then Some r else None) → option_and_then g (if b then Some a else None) ≡ (if b && c then Some r else None)
both g true c a r e = e
both g false c a r e = refl

-- serde_json takes the tree where each number is in range, and then gives its data
mutual
  pub in_range-json : (j : json.Json) → of_json j ≡ (if is_in_range j then Some (data_of j) else None)
  in_range-json json.null = refl
  in_range-json (json.boolean b) = refl
  in_range-json (json.number s) = one_number (number_of s)
  in_range-json (json.string s) = refl
  in_range-json (json.array js) = ap (option_map array) (in_range-items js) ∙ made array (items_in_range js) (items_of js)
  in_range-json (json.object ms) = ap (option_map object) (in_range-members ms no_members) ∙ made object (members_in_range ms) (members_of ms no_members)

  in_range-items : (js : json.Items) → of_items js ≡ (if items_in_range js then Some (items_of js) else None)
  in_range-items json.no_items = refl
  in_range-items (json.item j js) =
      ap (option_and_then (λ d. option_map (item d) (of_items js))) (in_range-json j)
      ∙ both (λ d. option_map (item d) (of_items js)) (is_in_range j) (items_in_range js) (data_of j) (item (data_of j) (items_of js)) (ap (option_map (item (data_of j))) (in_range-items js) ∙ made (item (data_of j)) (items_in_range js) (items_of js))

  in_range-members : (ms : json.Members) (found : Members) → of_members ms found ≡ (if members_in_range ms then Some (members_of ms found) else None)
  in_range-members json.no_members found = refl
  in_range-members (json.member k j ms) found =
      ap (option_and_then (λ d. of_members ms (put k d found))) (in_range-json j)
      ∙ both (λ d. of_members ms (put k d found)) (is_in_range j) (members_in_range ms) (data_of j) (members_of ms (put k (data_of j) found)) (in_range-members ms (put k (data_of j) found))

-- ---- members

put-found : (b : Bool) (k l : List ℕ) (d : Data) (found : Members) → bytes_eq l k ≡ b → get_member k (put l d found) ≡ cond b (Some d) (get_member k found)
put-found true k l d found e = let same = (bytes_eq-Decides l k).0 e in ap (λ n. get_member k (put n d found)) same ∙ get_member-put k d found
put-found false k l d found e = get_member-put_other k l d found (λ same. absurd (let yes = (bytes_eq-Decides l k).1 (sym same) in cc))

later : (a : Option json.Json) (b : Bool) (j : json.Json) (before : Option Data)
    → option_or (option_map data_of a) (cond b (Some (data_of j)) before) ≡ option_or (option_map data_of (json_find.later_or a (cond b (Some j) None))) before
later (Some x) b j before = refl
later None true j before = refl
later None false j before = refl

member-found : (k : List ℕ) (ms : json.Members) (found : Members) → get_member k (members_of ms found) ≡ option_or (option_map data_of (json_find.get_member k ms)) (get_member k found)
member-found k json.no_members found = refl
member-found k (json.member l j ms) found =
    member-found k ms (put l (data_of j) found) ∙ ap (option_or (option_map data_of (json_find.get_member k ms))) (put-found (bytes_eq l k) k l (data_of j) found refl)
    ∙ later (json_find.get_member k ms) (bytes_eq l k) j (get_member k found)

or-none : {A : Type 0} (o : Option A) → option_or o None ≡ o
or-none (Some a) = refl
or-none None = refl

found-in : (k : List ℕ) (j : json.Json) → option_map data_of (json_find.get k j) ≡ get k (data_of j)
found-in k json.null = refl
found-in k (json.boolean b) = refl
found-in k (json.number s) = refl
found-in k (json.string s) = refl
found-in k (json.array js) = refl
found-in k (json.object ms) = sym (member-found k ms no_members ∙ or-none (option_map data_of (json_find.get_member k ms)))

-- the value that is found under a name is that of the data
pub found-under : (k : List ℕ) (v : Tree) (r : Option (Bor Tree)) → option_map (λ x. value_view x.now) r ≡ json_find.get k (value_view v) → option_map (λ x. view x.now) r ≡ get k (view v)
found-under k v r e = seen r ∙ ap (option_map data_of) e ∙ found-in k (value_view v)
  where
    seen : (o : Option (Bor Tree)) → option_map (λ x. view x.now) o ≡ option_map data_of (option_map (λ x. value_view x.now) o)
    seen (Some x) = refl
    seen None = refl

-- ---- the whole text

pub read-none : (text : List ℕ) → json.value max_depth (tokens text) ≡ None → read text ≡ None
read-none text e = rw e refl

module _ (text : List ℕ) (j : json.Json) where
  pub read-more : (ts new : List Token) (next : Option Next) → json.value max_depth (tokens text) ≡ Some (j, ts) → Yields ts next new → is_some next ≡ true → read text ≡ None
  read-more ts new None e y h = absurd cc
  read-more ts new (Some t) e y h = rw (e, y) refl

  read-last : json.value max_depth (tokens text) ≡ Some (j, []) → read text ≡ (if is_in_range j then Some (data_of j) else None)
  read-last e = rw e (in_range-json j)

  pub read-in_range : json.value max_depth (tokens text) ≡ Some (j, []) → is_in_range j ≡ true → read text ≡ Some (data_of j)
  read-in_range e h = read-last e ∙ rw h refl

  pub read-out_of_range : json.value max_depth (tokens text) ≡ Some (j, []) → is_in_range j ≡ false → read text ≡ None
  read-out_of_range e h = read-last e ∙ rw h refl
