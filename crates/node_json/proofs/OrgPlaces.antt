-- The index of organisations: which place it finds for an id.
use Rattle.std.proofs.Common.{◌≡◌, ℕ, zero, suc, ◌+◌, ◌<◌, ◌||◌, All, Contains, Bool, true, false, cond, nat_lt, not, List, [], ◌∷◌, ◌++◌, length, take, get_or, Option, Some, None, option_map, option_and_then, slice_get, position, Ordering, Less, Equal, Greater, inl, inr, refl, sym, ap, ap₂, ◌∙◌, arith, length-take, get_or-take}
use Rattle.std.proofs.lemmas.Bool.{cases_Bool, cases_lt, both_ways, false_from_ne_true, lt-ltb, ltb-true}
use Rattle.std.proofs.lemmas.Cmp.{nat_list_eq_equiv}
use Rattle.std.proofs.lemmas.Iterator.Adapters.{position_from-zero}
use Rattle.std.proofs.lemmas.List.{length-map, map-append, get_or_default}
use Rattle.std.proofs.lemmas.List.Folds.{Any-from_list_any, find_at}
use Rattle.std.proofs.lemmas.List.Quantifiers.{position-Some}
use Rattle.std.proofs.lemmas.Map.Keys.{IsDistinct-push, apart_from_distinct}
use Rattle.std.proofs.lemmas.Map.Text.{is_eq-slice_cmp}
use Rattle.std.proofs.lemmas.Option.{slice_get_past, slice_get_cases}
use Rattle.std.proofs.lemmas.Slice.Eq.{bytes_eq-Decides}
use Rattle.std.specs.BTreeMap.{insert_entry, is_at}
use Rattle.std.specs.List.{IsDistinct, list_any, position_from, position_or_len}
use Rattle.std.specs.Map.{lookup}
use Rattle.std.specs.Option.{option_or}
use Rattle.std.specs.Ordering.{is_eq, match_ordering}
use Rattle.std.specs.Str.{bytes_eq}
use Rattle.fbas_model.specs.Names.{Name, name_cmp, place_of, is_among}
use Rattle.fbas_model.specs.Nodes.{Table}
use Rattle.node_json.specs.Organisations.{Org, HasNone, ids_of, members_under}
use Rattle.node_json.specs.OrgsView.{AreIndexed}

flipped : (a b : Name) → bytes_eq a b ≡ bytes_eq b a
flipped a b = nat_list_eq_equiv.symm a b

module _ {K : Type 0} (text : K → Name) where
  abbrev pub by_text : K → K → Ordering
  by_text x y = name_cmp (text x) (text y)

  -- what is found under an id
  abbrev pub found : List (K × ℕ) → Name → Option ℕ
  found es id = lookup (is_at (λ key. name_cmp id (text key))) es

  -- by how the new id compares to the first
  insert-by : (e : K × ℕ) (es more : List (K × ℕ)) (k : K) (v : ℕ) (id : Name) → found more id ≡ cond (bytes_eq (text k) id) (Some v) (found es id)
      → (o : Ordering) → name_cmp (text k) (text e.0) ≡ o → found (match_ordering o ((k, v) ∷ e ∷ es) ((e.0, v) ∷ es) (e ∷ more)) id ≡ cond (bytes_eq (text k) id) (Some v) (found (e ∷ es) id)
  insert-by e es more k v id later Less h = rw (is_eq-slice_cmp id (text k), flipped id (text k)) refl
  insert-by e es more k v id later Equal h =
      let same : bytes_eq (text k) (text e.0) ≡ true = sym (is_eq-slice_cmp (text k) (text e.0)) ∙ ap is_eq h in
      let alike : bytes_eq (text k) id ≡ bytes_eq (text e.0) id = nat_list_eq_equiv.congr (text k) (text e.0) id same in
      rw (is_eq-slice_cmp id (text e.0), flipped id (text e.0), alike) (twice (bytes_eq (text e.0) id))
    where
      twice : (b : Bool) → cond b (Some v) (found es id) ≡ cond b (Some v) (cond b (Some e.1) (found es id))
      twice true = refl
      twice false = refl
  insert-by e es more k v id later Greater h =
      let apart : bytes_eq (text k) (text e.0) ≡ false = sym (is_eq-slice_cmp (text k) (text e.0)) ∙ ap is_eq h in
      rw (is_eq-slice_cmp id (text e.0), flipped id (text e.0), later) (elim (cases_Bool (bytes_eq (text e.0) id)) [
        | inl here ↦
            let other : bytes_eq (text k) id ≡ false = flipped (text k) id ∙ sym (nat_list_eq_equiv.congr (text e.0) id (text k) here) ∙ flipped (text e.0) (text k) ∙ apart in
            rw (here, other) refl
        | inr there ↦ rw there refl
      ])

  -- one more id is put into the index: others are found as before
  pub found-insert : (es : List (K × ℕ)) (k : K) (v : ℕ) (id : Name) → found (insert_entry by_text es k v) id ≡ cond (bytes_eq (text k) id) (Some v) (found es id)
  found-insert [] k v id = rw (is_eq-slice_cmp id (text k), flipped id (text k)) refl
  found-insert (e ∷ es) k v id = insert-by e es (insert_entry by_text es k v) k v id (found-insert es k v id) (name_cmp (text k) (text e.0)) refl

-- ---- places among ids

-- the place of one more id
from-push : (t : Name → Bool) (i : ℕ) (ids : List Name) (new : Name) → position_from t i (ids ++ new ∷ []) ≡ option_or (position_from t i ids) (cond (t new) (Some (i + length ids)) None)
from-push t i [] new = let e : i + 0 ≡ i = omega arith in rw e refl
from-push t i (id ∷ ids) new = elim (cases_Bool (t id)) [
  | inl here ↦ rw here refl
  | inr there ↦
      let e : i + 1 + length ids ≡ i + length (id ∷ ids) = omega arith in
      rw there (from-push t (i + 1) ids new ∙ ap (λ n. option_or (position_from t (i + 1) ids) (cond (t new) (Some n) None)) e)
]

-- an id that is not there has no place
from-none : (t : Name → Bool) (i : ℕ) (ids : List Name) → list_any t ids ≡ false → position_from t i ids ≡ None
from-none t i [] h = refl
from-none t i (id ∷ ids) h = elim (cases_Bool (t id)) [
  | inl here ↦ absurd (both_ways (t id || list_any t ids) h (rw here refl))
  | inr there ↦ rw there (from-none t (i + 1) ids (rw there at h))
]

-- who is not among the ids is not the same as one of them
not_there : (ids : List Name) (new id : Name) → bytes_eq new id ≡ true → is_among new ids ≡ false → list_any (λ n. bytes_eq n id) ids ≡ false
not_there [] new id same h = refl
not_there (n ∷ ids) new id same h =
    let alike : bytes_eq new n ≡ bytes_eq n id = nat_list_eq_equiv.congr new id n same ∙ flipped id n in
    elim (cases_Bool (bytes_eq n id)) [
      | inl here ↦ absurd (both_ways (bytes_eq new n || is_among new ids) h (rw (alike ∙ here) refl))
      | inr there ↦ rw there (not_there ids new id same (rw (alike ∙ there) at h))
    ]

pub place-push : (ids : List Name) (new id : Name) → is_among new ids ≡ false → place_of (ids ++ new ∷ []) id ≡ cond (bytes_eq new id) (Some (length ids)) (place_of ids id)
place-push ids new id fresh =
    let t = λ (n : Name). bytes_eq n id in
    position_from-zero t (ids ++ new ∷ []) ∙ from-push t 0 ids new ∙ elim (cases_Bool (bytes_eq new id)) [
      | inl same ↦ rw (same, from-none t 0 ids (not_there ids new id same fresh)) (let e : 0 + length ids ≡ length ids = omega arith in rw e refl)
      | inr apart ↦ rw apart (none_after (position_from t 0 ids) ∙ sym (position_from-zero t ids))
    ]
  where
    none_after : (o : Option ℕ) → option_or o None ≡ o
    none_after (Some n) = refl
    none_after None = refl

-- ---- the index of more organisations

ids-more : (orgs : List Org) (org : Org) → ids_of (orgs ++ org ∷ []) ≡ ids_of orgs ++ org.id ∷ []
ids-more orgs org = map-append (λ (o : Org). o.id) orgs (org ∷ [])

pub indexed-none : (index : Name → Option ℕ) → ((id : Name) → index id ≡ None) → AreIndexed [] index
unfolding IsDistinct
indexed-none index none = record { apart = tt; found = none }

pub indexed-more : (orgs : List Org) (org : Org) (index more : Name → Option ℕ) → AreIndexed orgs index → is_among org.id (ids_of orgs) ≡ false
    → ((id : Name) → more id ≡ cond (bytes_eq org.id id) (Some (length orgs)) (index id)) → AreIndexed (orgs ++ org ∷ []) more
indexed-more orgs org index more all fresh put = record {
  apart = rw (ids-more orgs org) (IsDistinct-push nat_list_eq_equiv (ids_of orgs) org.id all.apart fresh);
  found = λ id. put id ∙ ap (cond (bytes_eq org.id id) (Some (length orgs))) (all.found id)
      ∙ ap (λ n. cond (bytes_eq org.id id) (Some n) (place_of (ids_of orgs) id)) (sym (length-map orgs (λ (o : Org). o.id)))
      ∙ sym (place-push (ids_of orgs) org.id id fresh) ∙ ap (λ ids. place_of ids id) (sym (ids-more orgs org));
}

-- an id among distinct ids is not among those before it
pub fresh : (ids : List Name) (i : ℕ) (id : Name) → IsDistinct bytes_eq ids → i < length ids → id ≡ get_or ids i id → is_among id (take i ids) ≡ false
fresh ids i id apart h at = elim (cases_Bool (is_among id (take i ids))) [
  | inl here ↦
      let one = Any-from_list_any (bytes_eq id) (take i ids) here in
      let k = one.0 in
      let below : k < i = omega (arith, length-take i ids, one.2) in
      let same : get_or ids k one.1 ≡ one.1 = sym (get_or-take i ids k one.1 below) ∙ one.3 in
      let differ : bytes_eq (get_or ids k one.1) (get_or ids i one.1) ≡ false = apart_from_distinct bytes_eq ids k i one.1 apart below h in
      let id_is : get_or ids i one.1 ≡ id = get_or_default ids i one.1 id h ∙ sym at in
      absurd (both_ways (bytes_eq id one.1) (flipped id one.1 ∙ ap₂ bytes_eq (sym same) (sym id_is) ∙ differ) one.4)
  | inr there ↦ there
]

-- ---- what is under an id

place-map : (p : Name → Bool) (orgs : List Org) → position_or_len p (ids_of orgs) ≡ position_or_len (λ (o : Org). p o.id) orgs
place-map p [] = refl
place-map p (o ∷ os) = ap (λ n. cond (not (p o.id)) (1 + n) 0) (place-map p os)

pub under-place : (orgs : List Org) (id : Name) → members_under orgs id ≡ option_map (λ o. o.members) (option_and_then (slice_get orgs) (place_of (ids_of orgs) id))
under-place orgs id =
    let p = λ (o : Org). bytes_eq o.id id in
    let n = position_or_len p orgs in
    let same : place_of (ids_of orgs) id ≡ position p orgs = ap₂ (λ k l. cond (nat_lt k l) (Some k) None) (place-map (λ n. bytes_eq n id) orgs) (length-map orgs (λ (o : Org). o.id)) in
    rw (find_at p orgs, same) (elim (cases_lt n (length orgs)) [
      | inl h ↦ let t : nat_lt n (length orgs) ≡ true = lt-ltb n (length orgs) h in rw t refl
      | inr h ↦
          let f : nat_lt n (length orgs) ≡ false = false_from_ne_true (nat_lt n (length orgs)) (λ e. absurd (let g = ltb-true n (length orgs) e in omega arith)) in
          rw (f, slice_get_past orgs n h) refl
    ])

pub place-within : (orgs : List Org) (id : Name) (at : ℕ) → place_of (ids_of orgs) id ≡ Some at → at < length orgs
place-within orgs id at e = omega (arith, (position-Some (λ n. bytes_eq n id) (ids_of orgs) at [] e).0, length-map orgs (λ (o : Org). o.id))

pub under-at : (orgs : List Org) (id : Name) (at : ℕ) → place_of (ids_of orgs) id ≡ Some at → members_under orgs id ≡ option_map (λ o. o.members) (slice_get orgs at)
under-at orgs id at e = under-place orgs id ∙ rw e refl

pub under-none : (orgs : List Org) (id : Name) → place_of (ids_of orgs) id ≡ None → members_under orgs id ≡ None
under-none orgs id e = under-place orgs id ∙ rw e refl

-- ---- whether an id is known

none_not_some : (o : Option Table) (x : Table) → o ≡ None → o ≡ Some x → ⊥
none_not_some o x e f = cc

-- an id that an organisation has is at a place
pub known-place : (orgs : List Org) (id : Name) (s : Table) → members_under orgs id ≡ Some s → (at : ℕ) × (place_of (ids_of orgs) id ≡ Some at)
known-place orgs id s e = by_place (place_of (ids_of orgs) id) refl
  where
    by_place : (o : Option ℕ) → place_of (ids_of orgs) id ≡ o → (at : ℕ) × (place_of (ids_of orgs) id ≡ Some at)
    by_place (Some at) h = (at, h)
    by_place None h = absurd (none_not_some (members_under orgs id) s (under-none orgs id h) e)

-- one that none has is at no place
pub unknown-place : (orgs : List Org) (id : Name) → members_under orgs id ≡ None → place_of (ids_of orgs) id ≡ None
unknown-place orgs id e = by_place (place_of (ids_of orgs) id) refl
  where
    by_place : (o : Option ℕ) → place_of (ids_of orgs) id ≡ o → place_of (ids_of orgs) id ≡ None
    by_place None h = h
    by_place (Some at) h = elim (slice_get_cases orgs at).1 [
      | inl found ↦ absurd (none_not_some (members_under orgs id) found.0.members e (under-at orgs id at h ∙ ap (option_map (λ o. o.members)) found.2))
      | inr past ↦ absurd (let within = place-within orgs id at h in let beyond = past.0 in omega arith)
    ]

-- what is under an id has the length that all have
pub under-sized : (orgs : List Org) (n : ℕ) (id : Name) (s : Table) → All (λ org. length org.members ≡ n) orgs → members_under orgs id ≡ Some s → length s ≡ n
under-sized orgs n id s all e =
    let at = known-place orgs id s e in
    elim (slice_get_cases orgs at.0).1 [
      | inl found ↦
          let same : Some found.0.members ≡ Some s = sym (under-at orgs id at.0 at.1 ∙ ap (option_map (λ o. o.members)) found.2) ∙ e in
          let sized : length (get_or orgs at.0 found.0).members ≡ n = all at.0 found.0 found.1 in
          ap length (sym (some_is found.0.members s same)) ∙ ap (λ o. length o.members) (sym found.3) ∙ sized
      | inr past ↦ absurd (let within = place-within orgs id at.0 at.1 in let beyond = past.0 in omega arith)
    ]
  where
    some_is : (a b : Table) → Some a ≡ Some b → a ≡ b
    some_is a b e = cc

-- ---- what is found is there

first-is : (o : Org) (os : List Org) (org : Org) → org ≡ o → Contains (o ∷ os) org
first-is o os org e = (0, omega arith, sym e)

later-is : (o : Org) (os : List Org) (org : Org) → Contains os org → Contains (o ∷ os) org
later-is o os org (k, h, at) = (suc k, omega arith, at)

pub under-there : (orgs : List Org) (id : Name) (s : Table) → members_under orgs id ≡ Some s → Contains orgs (record { id = id; members = s })
under-there [] id s e = absurd (none_not_some None s refl e)
under-there (o ∷ os) id s e = elim (cases_Bool (bytes_eq o.id id)) [
  | inl here ↦
      let same : o.members ≡ s = (let f = rw here at e in cc) in
      first-is o os (record { id = id; members = s }) (ap₂ (λ i m. record { id = i; members = m }) (sym ((bytes_eq-Decides o.id id).0 here)) (sym same))
  | inr there ↦ later-is o os (record { id = id; members = s }) (under-there os id s (rw there at e))
]

here-is : (o : Org) (os : List Org) (id : Name) → bytes_eq o.id id ≡ true → members_under (o ∷ os) id ≡ Some o.members
here-is o os id here = rw here refl

pub under-missing : (orgs : List Org) (id : Name) → members_under orgs id ≡ None → HasNone orgs id
under-missing [] id e org (k, h, at) same = absurd (omega arith)
under-missing (o ∷ os) id e org (zero, h, at) same =
    let here : bytes_eq o.id id ≡ true = (bytes_eq-Decides o.id id).1 (ap (λ o. o.id) at ∙ same) in
    absurd (none_not_some (members_under (o ∷ os) id) o.members e (here-is o os id here))
under-missing (o ∷ os) id e org (suc k, h, at) same = elim (cases_Bool (bytes_eq o.id id)) [
  | inl here ↦ absurd (none_not_some (members_under (o ∷ os) id) o.members e (here-is o os id here))
  | inr there ↦ under-missing os id (rw there at e) org (k, omega arith, at) same
]
