-- The loop over the organisations, step by step, and what comes before it.
use Rattle.std.proofs.Common.{◌≡◌, ℕ, ◌+◌, ◌<◌, ◌≤◌, nat_lt, All, arith, List, [], ◌∷◌, ◌++◌, length, drop, get_or, map, Option, Some, None, ok_or, Result, Ok, Err, Bool, true, false, not, refl, sym, ap, ◌∙◌, append_assoc}
use Rattle.std.proofs.lemmas.Bool.{lt-ltb, le-ltb, not-true}
use Rattle.std.proofs.lemmas.List.{at_drop_more, map-append}
use Rattle.std.proofs.lemmas.List.Elements.{All-map}
use Rattle.std.proofs.lemmas.List.Sums.{fold-append}
use Rattle.std.proofs.lemmas.Map.Keys.{IsDistinct-push}
use Rattle.std.proofs.lemmas.Cmp.{nat_list_eq_equiv}
use Rattle.std.specs.BTreeSet.{insert_key}
use Rattle.std.specs.List.{IsDistinct}
use Rattle.std.specs.Str.{bytes_eq}
use Rattle.serde_json.specs.Data.{Data, Items, item}
use Rattle.serde_json.specs.Find.{as_array}
use Rattle.node_json.specs.Tree.{Tree, view, items_view}
use Rattle.fbas_model.specs.Names.{Name, name_cmp, is_among}
use Rattle.fbas_model.specs.declared.TheConstants.{MOST_ORGS}
use Rattle.node_json.specs.NamesInOrder.{in_order, with_names}
use Rattle.node_json.proofs.NamesInOrder.{is_among-in_order}
use Rattle.fbas_model.proofs.Marks.{length-marks}
use Rattle.node_json.specs.Organisations as spec
use Rattle.node_json.specs.Organisations.{org_of, org_id_of, org_validators_of, orgs_from, orgs_in, named_orgs_of, among_nodes, orgs_of, within_orgs}
use Rattle.node_json.specs.Reading.{after, and_then, tree_of}
use Rattle.node_json.specs.OrgsView.{named_org_view, named_orgs_view, named_ids}
use Rattle.node_json.specs.declared.faults.OrgFault.{OrgFault}
use Rattle.node_json.specs.declared.faults.OrgFault.TheVariants.{NotJson, NotOrgs, DuplicateOrg, TooManyOrgs}
use Rattle.node_json.specs.declared.named_orgs.NamedOrg.{NamedOrg}

-- ---- the tree

pub orgs_in-top : (d : Data) (top : Option Items) → as_array d ≡ top → orgs_in d ≡ and_then (orgs_from 0 []) (ok_or top NotOrgs)
unfolding orgs_in
orgs_in-top d top a = rw a refl

-- ---- the whole file

pub orgs_of-no_tree : (names : List Name) (bytes : List ℕ) → tree_of bytes ≡ None → orgs_of names bytes ≡ Err NotJson
unfolding orgs_of named_orgs_of
orgs_of-no_tree names bytes e = rw e refl

pub orgs_of-tree : (names : List Name) (bytes : List ℕ) (d : Data) → tree_of bytes ≡ Some d → orgs_of names bytes ≡ after (map (among_nodes names)) (and_then within_orgs (orgs_in d))
unfolding orgs_of named_orgs_of
orgs_of-tree names bytes d tree = rw tree refl

pub orgs_in-fault : (names : List Name) (d : Data) (e : OrgFault) → orgs_in d ≡ Err e → after (map (among_nodes names)) (and_then within_orgs (orgs_in d)) ≡ Err e
orgs_in-fault names d e fault = rw fault refl

module _ (names : List Name) (d : Data) (orgs : List spec.NamedOrg) (n : ℕ) (read : orgs_in d ≡ Ok orgs) (counted : n ≡ length orgs) where
  pub too_many_orgs : MOST_ORGS < n → after (map (among_nodes names)) (and_then within_orgs (orgs_in d)) ≡ Err (TooManyOrgs n)
  too_many_orgs h = let t : nat_lt MOST_ORGS (length orgs) ≡ true = lt-ltb MOST_ORGS (length orgs) (omega arith) in rw (read, t, counted) refl

  pub few_orgs : n ≤ MOST_ORGS → after (map (among_nodes names)) (and_then within_orgs (orgs_in d)) ≡ Ok (map (among_nodes names) orgs)
  few_orgs h = let f : nat_lt MOST_ORGS (length orgs) ≡ false = le-ltb MOST_ORGS (length orgs) (omega arith) in rw (read, f) refl

-- each has a mark for each name
pub all_sized : (names : List Name) (orgs : List spec.NamedOrg) → All (λ org. length org.members ≡ length names) (map (among_nodes names) orgs)
all_sized names orgs = All-map (λ (org : spec.Org). length org.members ≡ length names) (among_nodes names) orgs (λ k d h. length-marks names (get_or orgs k d).validators)

-- ---- one element

-- whether the id is new, by the set of those that were seen
pub is_new : (seen earlier : List Name) (id : Name) (new : Bool) → new ≡ not (is_among id seen) → seen ≡ in_order earlier → new ≡ not (is_among id earlier)
is_new seen earlier id new e s = e ∙ ap (λ ks. not (is_among id ks)) s ∙ ap not (is_among-in_order id earlier)

pub org_of-no_id : (i : ℕ) (earlier : List Name) (d : Data) (e : OrgFault) → org_id_of i d ≡ Err e → org_of i earlier d ≡ Err e
org_of-no_id i earlier d e fault = rw fault refl

pub org_of-known : (i : ℕ) (earlier : List Name) (d : Data) (id : Name) → org_id_of i d ≡ Ok id → not (is_among id earlier) ≡ false → org_of i earlier d ≡ Err (DuplicateOrg i)
org_of-known i earlier d id ok known = rw (ok, known) refl

pub org_of-no_validators : (i : ℕ) (earlier : List Name) (d : Data) (id : Name) (e : OrgFault) → org_id_of i d ≡ Ok id → not (is_among id earlier) ≡ true → org_validators_of i d ≡ Err e → org_of i earlier d ≡ Err e
org_of-no_validators i earlier d id e ok new fault = rw (ok, new, fault) refl

pub org_of-read : (i : ℕ) (earlier : List Name) (d : Data) (id : Name) (validators : List Name) → org_id_of i d ≡ Ok id → not (is_among id earlier) ≡ true → org_validators_of i d ≡ Ok validators
    → org_of i earlier d ≡ Ok (record { id = id; validators = validators })
org_of-read i earlier d id validators ok new es = rw (ok, new, es) refl

-- ---- the elements one after another

-- the organisations read so far, and then the others
abbrev pub then_more : List NamedOrg → ℕ → Items → Result (List spec.NamedOrg) OrgFault
then_more done i ds = after (λ more. named_orgs_view done ++ more) (orgs_from i (named_ids done) ds)

ids-more : (done : List NamedOrg) (org : NamedOrg) → named_ids (done ++ org ∷ []) ≡ named_ids done ++ org.id.now ∷ []
ids-more done org = map-append (λ (o : NamedOrg). o.id.now) done (org ∷ [])

-- one more organisation that was read
then_more-one : (i : ℕ) (done : List NamedOrg) (org : NamedOrg) (d : Data) (ds : Items) → org_of i (named_ids done) d ≡ Ok (named_org_view org) → then_more done i (item d ds) ≡ then_more (done ++ org ∷ []) (i + 1) ds
then_more-one i done org d ds e = rw e (rw (ids-more done org) (after_one (orgs_from (i + 1) (named_ids done ++ org.id.now ∷ []) ds)))
  where
    after_one : (r : Result (List spec.NamedOrg) OrgFault) → after (λ more. named_orgs_view done ++ more) (after (λ orgs. named_org_view org ∷ orgs) r) ≡ after (λ more. named_orgs_view (done ++ org ∷ []) ++ more) r
    after_one (Ok more) = ap Ok (sym (ap (λ os. os ++ more) (map-append named_org_view done (org ∷ [])) ∙ append_assoc (named_orgs_view done) (named_org_view org ∷ []) more))
    after_one (Err e) = refl

module _ (all : Result (List spec.NamedOrg) OrgFault) (done : List NamedOrg) (xs : List Tree) (i : ℕ) (v : Tree) (h : i < length xs) (is : v ≡ get_or xs i v) (inv : all ≡ then_more done i (items_view (drop i xs))) where
  at_item : all ≡ then_more done i (item (view v) (items_view (drop (i + 1) xs)))
  at_item = inv ∙ at_drop_more (λ vs. then_more done i (items_view vs)) xs i v h ∙ ap (λ w. then_more done i (item (view w) (items_view (drop (i + 1) xs)))) (sym is)

  -- a step of the loop
  pub orgs_loop : (more : List NamedOrg) (org : NamedOrg) → org_of i (named_ids done) (view v) ≡ Ok (named_org_view org) → more ≡ done ++ org ∷ [] → all ≡ then_more more (i + 1) (items_view (drop (i + 1) xs))
  orgs_loop more org e m = at_item ∙ then_more-one i done org (view v) (items_view (drop (i + 1) xs)) e ∙ ap (λ os. then_more os (i + 1) (items_view (drop (i + 1) xs))) (sym m)

  -- an element that has a fault is the first
  pub orgs_fault : (e : OrgFault) → org_of i (named_ids done) (view v) ≡ Err e → all ≡ Err e
  orgs_fault e fault = at_item ∙ rw fault refl

-- the ids that were seen, with one more
pub seen_loop : (seen more : List Name) (done then : List NamedOrg) (org : NamedOrg) → then ≡ done ++ org ∷ [] → more ≡ with_names seen (org.id.now ∷ []) → seen ≡ in_order (named_ids done) → more ≡ in_order (named_ids then)
seen_loop seen more done then org t m s =
    m ∙ ap (λ ks. with_names ks (org.id.now ∷ [])) s ∙ sym (ap in_order (ap named_ids t ∙ ids-more done org) ∙ fold-append (insert_key name_cmp) [] (named_ids done) (org.id.now ∷ []))

-- a new id is apart from those before it
pub apart_loop : (done then : List NamedOrg) (org : NamedOrg) → then ≡ done ++ org ∷ [] → not (is_among org.id.now (named_ids done)) ≡ true → IsDistinct bytes_eq (named_ids done) → IsDistinct bytes_eq (named_ids then)
apart_loop done then org t new apart = rw (ap named_ids t ∙ ids-more done org) (IsDistinct-push nat_list_eq_equiv (named_ids done) org.id.now apart (not-true (is_among org.id.now (named_ids done)) new))

-- ---- the loop's beginning

pub then-none : (ds : Items) (done : List NamedOrg) → done ≡ [] → orgs_from 0 [] ds ≡ then_more done 0 ds
then-none ds done e = rw e (as_it_is (orgs_from 0 [] ds))
  where
    as_it_is : (r : Result (List spec.NamedOrg) OrgFault) → r ≡ after (λ more. [] ++ more) r
    as_it_is (Ok more) = refl
    as_it_is (Err e) = refl

pub apart-none : IsDistinct bytes_eq []
unfolding IsDistinct
apart-none = tt
