-- The loops that make groups, step by step.
use Rattle.std.proofs.Common.{◌≡◌, ℕ, ◌+◌, ◌<◌, ◌≤◌, ◌==◌, ◌||◌, ◌&&◌, Bool, true, false, not, nat_lt, List, [], ◌∷◌, ◌++◌, length, map, take, get_or, slice_get, slice_index_or, Some, refl, sym, ap, ap₂, ◌∙◌, subst, arith, take_all}
use Rattle.std.specs.Prelude.{codes, All, Result, Ok, Err, IfOk}
use Rattle.std.proofs.Math.Bool.{or-false}
use Rattle.std.proofs.lemmas.Bool.{lt-ltb}
use Rattle.std.proofs.lemmas.List.{map-append, take_more, get_or-map, length-map}
use Rattle.std.proofs.lemmas.List.Folds.{list_any-append}
use Rattle.std.proofs.lemmas.Option.{get_or_from_slice_get, slice_get-get_or}
use Rattle.fbas_model.specs.Names.{Name, AreNamesOf}
use Rattle.fbas_model.specs.Nodes.{Nodes, Table, members, ∅, only, ◌∪◌, ◌∖◌, listed_from}
use Rattle.fbas_model.specs.Restriction.{table_from}
use Rattle.fbas_model.proofs.Tables.{table_is}
use Rattle.node_json.specs.Groups as spec
use Rattle.node_json.specs.Groups.{grouped, loose, node_group, org_group, org_groups, with_loose, tables_of, texts_of}
use Rattle.node_json.specs.GroupsView.{group_view, groups_view}
use Rattle.node_json.specs.NamesInOrder.{in_order}
use Rattle.node_json.specs.Organisations.{Org as Organisation, ids_of}
use Rattle.node_json.specs.OrgsView.{orgs_view}
use Rattle.node_json.specs.declared.groups.Group.{Group}
use Rattle.node_json.specs.declared.organisations.Org.{Org}
use Rattle.node_json.proofs.NamesInOrder.{names_in_order}

-- one group more
pub view_more : (list then : List Group) (one : Group) → then ≡ list ++ one ∷ [] → groups_view then ≡ groups_view list ++ group_view one ∷ []
view_more list then one grown = ap groups_view grown ∙ map-append group_view list (one ∷ [])

-- the groups that were made of the first items are one more
pub made_more : {A : Type 0} (make : A → spec.Group) (items : List A) (list then : List Group) (one : Group) (x : A) → then ≡ list ++ one ∷ [] → group_view one ≡ make x → groups_view list ≡ map make items → groups_view then ≡ map make (items ++ x ∷ [])
made_more make items list then one x grown is so_far =
    view_more list then one grown ∙ ap₂ (λ gs g. gs ++ g ∷ []) so_far is ∙ sym (map-append make items (x ∷ []))

-- the first names up to one more
pub names_more : (names : List Name) (i : ℕ) (name : Name) → i < length names → slice_get names i ≡ Some name → take (i + 1) names ≡ take i names ++ name ∷ []
names_more names i name low at = take_more names i [] low ∙ ap (λ (n : Name). take i names ++ n ∷ []) (get_or_from_slice_get names i name [] at)

-- ---- the nodes that are in none of the groups

abbrev pub AreLoose : ℕ → List spec.Group → Table → Type 0
AreLoose n groups nodes = (length nodes ≡ n) × ((v : ℕ) → members nodes v ≡ (nat_lt v n && not (grouped groups v)))

pub loose_first : (n : ℕ) (nodes : Table) → length nodes ≡ n → members nodes ≡ (λ v. nat_lt v n) → AreLoose n [] nodes
loose_first n nodes size all = (size, λ v. ap (λ (s : Nodes). s v) all ∙ sym (alone (nat_lt v n)))
  where
    alone : (b : Bool) → (b && not false) ≡ b
    alone true = refl
    alone false = refl

pub loose_more : (n : ℕ) (groups : List Group) (i : ℕ) (one : Group) (nodes next : Table) → i < length groups → one ≡ get_or groups i one → length next ≡ length nodes → members next ≡ members nodes ∖ members one.members
    → AreLoose n (groups_view (take i groups)) nodes → AreLoose n (groups_view (take (i + 1) groups)) next
loose_more n groups i one nodes next low is size left before = (
  size ∙ before.0,
  λ v.
      let views : groups_view (take (i + 1) groups) ≡ groups_view (take i groups) ++ group_view one ∷ [] =
      ap groups_view (take_more groups i one low ∙ ap (λ (g : Group). take i groups ++ g ∷ []) (sym is)) ∙ map-append group_view (take i groups) (one ∷ [])
      in
      let more : grouped (groups_view (take (i + 1) groups)) v ≡ (grouped (groups_view (take i groups)) v || members one.members v) =
      ap (λ (gs : List spec.Group). grouped gs v) views ∙ list_any-append (λ (g : spec.Group). members g.members v) (groups_view (take i groups)) (group_view one ∷ [])
      ∙ ap (λ (b : Bool). grouped (groups_view (take i groups)) v || b) (or-false (members one.members v))
      in
      ap (λ (s : Nodes). s v) left ∙ ap (λ (b : Bool). b && not (members one.members v)) (before.1 v) ∙ both (nat_lt v n) (grouped (groups_view (take i groups)) v) (members one.members v) ∙ ap (λ (b : Bool). nat_lt v n && not b) (sym more),
)
  where
    both : (a b c : Bool) → ((a && not b) && not c) ≡ (a && not (b || c))
    both true true c = refl
    both true false c = refl
    both false b c = refl

pub loose_whole : (n : ℕ) (groups : List Group) (i : ℕ) (nodes : Table) → length groups ≤ i → AreLoose n (groups_view (take i groups)) nodes → nodes ≡ loose n (groups_view groups)
loose_whole n groups i nodes past all =
    let whole : take i groups ≡ groups = take_all i groups past in
    table_is n nodes (λ v. not (grouped (groups_view groups) v)) all.0 (λ v low.
    all.1 v ∙ ap₂ (λ (b : Bool) (gs : List Group). b && not (grouped (groups_view gs) v)) (lt-ltb v n low) whole)

-- ---- one of the groups

pub members_at : (list : List Group) (view : List spec.Group) (at : ℕ) (one : Group) → groups_view list ≡ view → at < length view → one ≡ get_or list at one → slice_index_or (tables_of view) at [] ≡ one.members
members_at list view at one same low is =
    let seen : at < length (groups_view list) = subst (λ (gs : List spec.Group). at < length gs) (sym same) low in
    let within : at < length list = omega (arith, seen, length-map list group_view) in
    ap (λ (gs : List spec.Group). slice_index_or (tables_of gs) at []) (sym same)
    ∙ get_or-map (λ (g : spec.Group). g.members) (groups_view list) at (group_view one) [] seen
    ∙ ap (λ (g : spec.Group). g.members) (get_or-map group_view list at one (group_view one) within)
    ∙ ap (λ (g : Group). g.members) (sym is)

pub text_at : (list : List Group) (view : List spec.Group) (at : ℕ) (one : Group) → groups_view list ≡ view → at < length view → one ≡ get_or list at one → slice_get (texts_of view) at ≡ Some one.text.items
text_at list view at one same low is =
    let seen : at < length (groups_view list) = subst (λ (gs : List spec.Group). at < length gs) (sym same) low in
    let within : at < length list = omega (arith, seen, length-map list group_view) in
    let text_low : at < length (texts_of (groups_view list)) = omega (arith, seen, length-map (groups_view list) (λ (g : spec.Group). g.text)) in
    ap (λ (gs : List spec.Group). slice_get (texts_of gs) at) (sym same)
    ∙ slice_get-get_or (texts_of (groups_view list)) at [] text_low
    ∙ ap Some (get_or-map (λ (g : spec.Group). g.text) (groups_view list) at (group_view one) [] seen
    ∙ ap (λ (g : spec.Group). g.text) (get_or-map group_view list at one (group_view one) within)
    ∙ ap (λ (g : Group). g.text.items) (sym is))

-- the set of one node
pub only_node : (n v : ℕ) (none some : Table) → length none ≡ n → members none ≡ ∅ → length some ≡ length none → members some ≡ members none ∪ only v → some ≡ table_from 0 n (only v)
only_node n v none some size empty same put = table_is n some (only v) (same ∙ size) (λ w low. ap (λ (s : Nodes). s w) put ∙ ap (λ (s : Nodes). s w || (w == v)) empty)

abbrev made_of : Name → Table → spec.Group
made_of text members = record { text = text; members = members }

pub node_made : (kept : List Name) (v : ℕ) (text name : Name) (members : Table) → text ≡ codes "node:" ++ name → slice_get kept v ≡ Some name → members ≡ table_from 0 (length kept) (only v) → record { text = text; members = members } ≡ node_group kept v
node_made kept v text name members text_is at members_is =
    ap₂ made_of (text_is ∙ ap (λ (n : Name). codes "node:" ++ n) (sym (get_or_from_slice_get kept v name [] at))) members_is

-- ---- the ids of organisations

ids_seen : (list : List Org) → map (λ org. org.id.items) list ≡ ids_of (orgs_view list)
ids_seen [] = refl
ids_seen (org ∷ list) = ap (λ (ids : List Name). org.id.items ∷ ids) (ids_seen list)

pub ids_all : (given : List Name) (items list : List Org) (i : ℕ) (view : List Organisation) → given ≡ map (λ org. org.id.items) (take i items) → length items ≤ i → items ≡ list → orgs_view list ≡ view → given ≡ ids_of view
ids_all given items list i view so_far past same seen =
    so_far ∙ ap (map (λ (org : Org). org.id.items)) (take_all i items past ∙ same) ∙ ids_seen list ∙ ap ids_of seen

pub names_made : {E : Type 0} (r : Result (List Name) E) (given all : List Name) → given ≡ all → IfOk r (λ names. AreNamesOf given names) → IfOk r (λ names. names ≡ in_order all)
names_made (Ok names) given all same are = names_in_order given names are ∙ ap in_order same
names_made (Err e) given all same are = tt

-- ---- all groups

-- what is so of the groups as they are seen is so of the program's
pub sized_back : (list : List Group) (view : List spec.Group) (n : ℕ) → groups_view list ≡ view → All (λ (g : spec.Group). length g.members ≡ n) view → All (λ (g : Group). length g.members ≡ n) list
sized_back list view n same all i d low =
    let seen : All (λ (g : spec.Group). length g.members ≡ n) (groups_view list) = subst (λ (gs : List spec.Group). All (λ (g : spec.Group). length g.members ≡ n) gs) (sym same) all in
    ap (λ (g : spec.Group). length g.members) (sym (get_or-map group_view list i d (group_view d) low)) ∙ seen i (group_view d) (omega (arith, low, length-map list group_view))

pub named_made : (names kept n k : List Name) (orgs : List Organisation) (ids : List Name) (view : List spec.Group) → view ≡ map (org_group n k orgs) ids → n ≡ names → k ≡ kept → ids ≡ in_order (ids_of orgs) → view ≡ org_groups names kept orgs
named_made names kept n k orgs ids view is n_is k_is ids_are =
    is ∙ ap₂ (λ (a b : List Name). map (org_group a b orgs) ids) n_is k_is ∙ ap (map (org_group names kept orgs)) ids_are

all_made : (kept k : List Name) (groups : List spec.Group) (len : ℕ) (nodes : Table) (named borrowed list whole : List Group) → groups_view named ≡ groups
    → nodes ≡ loose len (groups_view borrowed) → borrowed ≡ named → len ≡ length kept → groups_view list ≡ map (node_group k) (listed_from 0 nodes) → k ≡ kept → whole ≡ list ++ named
    → groups_view whole ≡ with_loose kept groups
all_made kept k groups len nodes named borrowed list whole named_is nodes_are same len_is list_is k_is whole_is =
    let left : nodes ≡ loose (length kept) groups = nodes_are ∙ ap₂ (λ (n : ℕ) (gs : List spec.Group). loose n gs) len_is (ap groups_view same ∙ named_is) in
    ap groups_view whole_is ∙ map-append group_view list named
    ∙ ap₂ (λ (xs ys : List spec.Group). xs ++ ys) (list_is ∙ ap₂ (λ (ns : List Name) (t : Table). map (node_group ns) (listed_from 0 t)) k_is left) named_is

-- the groups that are made of the organisations and then of the loose nodes
pub all_groups : (wn kn n k loose_k : List Name) (orgs : List Organisation) (ids : List Name) (len : ℕ) (nodes : Table) (named borrowed list whole : List Group) → groups_view named ≡ map (org_group n k orgs) ids → n ≡ wn → k ≡ kn → ids ≡ in_order (ids_of orgs)
    → nodes ≡ loose len (groups_view borrowed) → borrowed ≡ named → len ≡ length kn → groups_view list ≡ map (node_group loose_k) (listed_from 0 nodes) → loose_k ≡ kn → whole ≡ list ++ named
    → groups_view whole ≡ with_loose kn (org_groups wn kn orgs)
all_groups wn kn n k loose_k orgs ids len nodes named borrowed list whole named_is n_is k_is ids_are nodes_are same len_is list_is loose_is whole_is =
    all_made kn loose_k (org_groups wn kn orgs) len nodes named borrowed list whole (named_made wn kn n k orgs ids (groups_view named) named_is n_is k_is ids_are) nodes_are same len_is list_is loose_is whole_is
