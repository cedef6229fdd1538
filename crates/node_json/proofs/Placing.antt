-- The quorum sets at the places of their names.
use Rattle.std.proofs.Common.{◌≡◌, ℕ, zero, suc, ◌+◌, ◌<◌, List, [], ◌∷◌, ◌++◌, length, map, fold, take, set, get_or, false, Option, Some, None, option_map, slice_get, if◌then◌else◌, Less, Contains, refl, sym, ap, ap₂, ◌∙◌, arith}
use Rattle.std.proofs.lemmas.Bool.{false_from_ne_true}
use Rattle.std.proofs.lemmas.Cmp.{nat_list_eq_equiv}
use Rattle.std.proofs.lemmas.List.{take_more, map-append}
use Rattle.std.proofs.lemmas.List.Sums.{fold-append}
use Rattle.std.proofs.lemmas.Map.Text.{is_eq-slice_cmp}
use Rattle.std.proofs.lemmas.Slice.Eq.{bytes_eq-Decides}
use Rattle.std.specs.List.{AllByRecursion}
use Rattle.std.specs.List.Sorted.{IsStrictlySortedBy}
use Rattle.std.specs.Ordering.{is_eq}
use Rattle.std.specs.Str.{bytes_eq}
use Rattle.fbas_model.specs.Names.{Name, name_cmp}
use Rattle.fbas_model.specs.Trees.{QuorumSet}
use Rattle.node_json.specs.Configuration.{numbered, set_named}
use Rattle.node_json.specs.Named as spec
use Rattle.node_json.specs.View.{node_view, nodes_view}
use Rattle.node_json.specs.declared.nodes.NamedNode.{NamedNode}

-- one more place
pub none_more : {Y : Type 0} (names : List Name) (i : ℕ) (y : Y) → i < length names → map (λ _. y) (take (i + 1) names) ≡ map (λ _. y) (take i names) ++ y ∷ []
none_more names i y h = ap (map (λ _. y)) (take_more names i [] h) ∙ map-append (λ _. y) (take i names) (get_or names i [] ∷ [])

-- ---- one place of sorted names

-- a name that comes before others is none of them
later_differs : (k x : Name) → name_cmp k x ≡ Less → bytes_eq k x ≡ false
later_differs k x less = sym (is_eq-slice_cmp k x) ∙ ap is_eq less

module _ {Y : Type 0} (f g : Name → Y) (k : Name) (same : (x : Name) → bytes_eq k x ≡ false → f x ≡ g x) where
  map_later : (names : List Name) → AllByRecursion (λ x. name_cmp k x ≡ Less) names → map f names ≡ map g names
  map_later [] h = refl
  map_later (x ∷ xs) h = ap₂ (λ y ys. y ∷ ys) (same x (later_differs k x h.0)) (map_later xs h.1)

  head_differs : (x : Name) (xs : List Name) (at : ℕ) → AllByRecursion (λ z. name_cmp x z ≡ Less) xs → slice_get xs at ≡ Some k → bytes_eq k x ≡ false
  head_differs x [] at h e = cc
  head_differs x (y ∷ ys) zero h e = let here : y ≡ k = cc in nat_list_eq_equiv.symm k x ∙ rw (← here) (later_differs x y h.0)
  head_differs x (y ∷ ys) (suc at) h e = head_differs x ys at h.1 e

  -- where the two functions differ at one name alone, only its place changes
  pub set-map : (names : List Name) (at : ℕ) → IsStrictlySortedBy name_cmp names → slice_get names at ≡ Some k → set (map f names) at (g k) ≡ map g names
  unfolding IsStrictlySortedBy
  set-map [] at h e = cc
  set-map (x ∷ xs) zero h e = let here : x ≡ k = cc in rw here (ap (λ ys. g k ∷ ys) (map_later xs (rw (← here) h.0)))
  set-map (x ∷ xs) (suc at) h e = ap₂ (λ y ys. y ∷ ys) (same x (head_differs x xs at h.0 e)) (set-map xs at h.1 e)

  -- and where that name is not there, nothing changes
  pub map-absent : (names : List Name) → (Contains names k → ⊥) → map f names ≡ map g names
  map-absent [] h = refl
  map-absent (x ∷ xs) h =
      let differs : bytes_eq k x ≡ false = false_from_ne_true (bytes_eq k x) (λ e. h (0, omega arith, sym ((bytes_eq-Decides k x).0 e))) in
      ap₂ (λ y ys. y ∷ ys) (same x differs) (map-absent xs (λ c. h (suc c.0, omega arith, c.2)))

-- ---- one more node

-- what the nodes declare, with one more
set_named-more : (nodes : List NamedNode) (i : ℕ) (n : NamedNode) (name : Name) → i < length nodes → n ≡ get_or nodes i n
    → set_named (nodes_view (take (i + 1) nodes)) name ≡ (if bytes_eq n.key.now name then (node_view n).quorum_set else set_named (nodes_view (take i nodes)) name)
set_named-more nodes i n name h is =
    let step = λ (found : Option spec.NamedSet) (m : spec.NamedNode). if bytes_eq m.key name then m.quorum_set else found in
    let grown : nodes_view (take (i + 1) nodes) ≡ nodes_view (take i nodes) ++ node_view n ∷ [] =
    ap nodes_view (take_more nodes i n h) ∙ map-append node_view (take i nodes) (get_or nodes i n ∷ []) ∙ ap (λ m. nodes_view (take i nodes) ++ node_view m ∷ []) (sym is) in
    ap (fold step None) grown ∙ fold-append step None (nodes_view (take i nodes)) (node_view n ∷ [])

-- the quorum set of each name, by the nodes
abbrev pub sets_by : List Name → List NamedNode → List (Option QuorumSet)
sets_by names nodes = map (λ name. option_map (numbered names) (set_named (nodes_view nodes) name)) names

module _ (names : List Name) (nodes : List NamedNode) (i : ℕ) (n : NamedNode) (h : i < length nodes) (is : n ≡ get_or nodes i n) where
  differs : (x : Name) → bytes_eq n.key.now x ≡ false
      → option_map (numbered names) (set_named (nodes_view (take i nodes)) x) ≡ option_map (numbered names) (set_named (nodes_view (take (i + 1) nodes)) x)
  differs x e = sym (ap (option_map (numbered names)) (set_named-more nodes i n x h is ∙ rw e refl))

  own : option_map (numbered names) (set_named (nodes_view (take (i + 1) nodes)) n.key.now) ≡ option_map (numbered names) (node_view n).quorum_set
  own = ap (option_map (numbered names)) (set_named-more nodes i n n.key.now h is ∙ rw ((bytes_eq-Decides n.key.now n.key.now).1 refl) refl)

  -- the quorum set of one more node, put at its place
  pub placed : (sets more : List (Option QuorumSet)) (set_here : Option QuorumSet) (at : ℕ) → IsStrictlySortedBy name_cmp names → slice_get names at ≡ Some n.key.now
      → set_here ≡ option_map (numbered names) (node_view n).quorum_set → sets ≡ sets_by names (take i nodes) → more ≡ set sets at set_here → more ≡ sets_by names (take (i + 1) nodes)
  placed sets more set_here at sorted found s inv m =
      m ∙ ap₂ (λ ss o. set ss at o) inv (s ∙ sym own)
      ∙ set-map (λ x. option_map (numbered names) (set_named (nodes_view (take i nodes)) x)) (λ x. option_map (numbered names) (set_named (nodes_view (take (i + 1) nodes)) x)) n.key.now differs names at sorted found

  -- a node whose name has no place
  pub unplaced : (sets : List (Option QuorumSet)) → (Contains names n.key.now → ⊥) → sets ≡ sets_by names (take i nodes) → sets ≡ sets_by names (take (i + 1) nodes)
  unplaced sets absent inv =
      inv ∙ map-absent (λ x. option_map (numbered names) (set_named (nodes_view (take i nodes)) x)) (λ x. option_map (numbered names) (set_named (nodes_view (take (i + 1) nodes)) x)) n.key.now differs names absent
