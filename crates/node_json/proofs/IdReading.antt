-- Lists of ids: the members of each, one after another.
use Rattle.std.proofs.Common.{◌≡◌, ℕ, ◌+◌, ◌<◌, ◌≤◌, ◌==◌, ◌||◌, true, false, List, [], ◌∷◌, length, take, drop, get_or, Option, Some, None, unwrap_or, ok_or, option_copied, Result, Ok, Err, IfOk, IfErr, Bor, refl, sym, ap, ◌∙◌, arith, take_all}
use Rattle.std.proofs.lemmas.Bool.{eqb-true}
use Rattle.std.proofs.lemmas.List.{drop_all}
use Rattle.std.proofs.lemmas.List.Folds.{list_any_more}
use Rattle.fbas_model.specs.Names.{Name, is_key, place_of}
use Rattle.fbas_model.specs.Nodes.{Nodes, Table, members, ∅}
use Rattle.fbas_model.specs.Restriction.{table_from}
use Rattle.fbas_model.proofs.Tables.{table_is}
use Rattle.name_set.specs.Lists.{node_at, unless_faulty}
use Rattle.name_set.specs.declared.lists.NameFault.{NameFault}
use Rattle.name_set.specs.declared.lists.NameFault.TheVariants.{Unknown}
use Rattle.name_set.proofs.ListLaws.{parts, items-parts}
use Rattle.node_json.specs.Organisations.{Org, ids_of, members_under, members_of, ids_read}
use Rattle.node_json.proofs.OrgPlaces.{known-place, unknown-place}

-- ---- the members so far

-- the members of one more organisation
pub members-more : (orgs : List Org) (ids : List Name) (i n : ℕ) (id : Name) (s old new : Table) → i < length ids → id ≡ get_or ids i id → members_under orgs id ≡ Some s → ((v : ℕ) → members new v ≡ (members old v || members s v))
    → ((v : ℕ) → v < n → members old v ≡ members_of orgs (take i ids) v) → (v : ℕ) → v < n → members new v ≡ members_of orgs (take (i + 1) ids) v
members-more orgs ids i n id s old new h is under added was v less =
    let p = λ (name : Name). members (unwrap_or (members_under orgs name) []) v in
    let one : members s v ≡ p (get_or ids i id) = ap (λ o. members (unwrap_or o []) v) (sym under) ∙ ap p is in
    added v ∙ ap (λ b. b || members s v) (was v less) ∙ ap (λ b. members_of orgs (take i ids) v || b) one ∙ sym (list_any_more p ids i id h)

-- ---- the whole text

-- what is answered where no item is faulty
abbrev pub united : List Org → ℕ → List Name → Result Table NameFault
united orgs n items = Ok (table_from 0 n (members_of orgs items))

pub read-nothing : (text : List ℕ) (orgs : List Org) (n : ℕ) (t : Table) → (length text == 0) ≡ true → length t ≡ n → members t ≡ ∅ → ids_read text orgs n ≡ Ok t
unfolding ids_read
read-nothing [] orgs n t h size empty = ap Ok (sym (table_is n t (members_of orgs []) size (λ v less. ap (λ (s : Nodes). s v) empty)))
read-nothing (b ∷ bytes) orgs n t h size empty = absurd (let k = eqb-true (length (b ∷ bytes)) 0 h in omega arith)

-- the text that is not empty
pub read-parts : (text : List ℕ) (orgs : List Org) (n : ℕ) → (length text == 0) ≡ false → ids_read text orgs n ≡ unless_faulty (ids_of orgs) 1 (parts text) (united orgs n (parts text))
unfolding ids_read
read-parts text orgs n h = rw (items-parts text h) refl

pub read_all : (text : List ℕ) (orgs : List Org) (n : ℕ) (t : Table) (i : ℕ) → (length text == 0) ≡ false → i ≡ length (parts text)
    → unless_faulty (ids_of orgs) 1 (parts text) (united orgs n (parts text)) ≡ unless_faulty (ids_of orgs) (i + 1) (drop i (parts text)) (united orgs n (parts text)) → length t ≡ n
    → ((v : ℕ) → v < n → members t v ≡ members_of orgs (take i (parts text)) v) → ids_read text orgs n ≡ Ok t
read_all text orgs n t i h all known size each =
    let past : length (parts text) ≤ i = omega arith in
    read-parts text orgs n h ∙ known ∙ rw (drop_all i (parts text) past) refl ∙ ap Ok (sym (table_is n t (members_of orgs (parts text)) size (λ v less. each v less ∙ ap (λ ids. members_of orgs ids v) (take_all i (parts text) past))))

-- ---- one item

node_at-key : (names : List Name) (k : ℕ) (id : Name) → (length id == 0) ≡ false → is_key id ≡ true → node_at names k id ≡ ok_or (place_of names id) (Unknown k)
node_at-key names k [] h key = absurd cc
node_at-key names k (b ∷ bytes) h key = rw key refl

module _ (orgs : List Org) (k : ℕ) (id : Name) (h : (length id == 0) ≡ false) (key : is_key id ≡ true) where
  pub item-fault : (r : Option (Bor Table)) → option_copied r ≡ members_under orgs id → IfErr (ok_or r (Unknown k)) (λ e. node_at (ids_of orgs) k id ≡ Err e)
  item-fault None e = node_at-key (ids_of orgs) k id h key ∙ rw (unknown-place orgs id (sym e)) refl
  item-fault (Some s) e = tt

  pub item-known : (r : Option (Bor Table)) → option_copied r ≡ members_under orgs id → IfOk (ok_or r (Unknown k)) (λ s. (at : ℕ) × (node_at (ids_of orgs) k id ≡ Ok at))
  item-known None e = tt
  item-known (Some s) e = let at = known-place orgs id s.now (sym e) in (at.0, node_at-key (ids_of orgs) k id h key ∙ rw at.1 refl)
