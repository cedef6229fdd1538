-- That the system that is made of the declared nodes is theirs.
use Rattle.std.proofs.Common.{◌≡◌, ℕ, zero, suc, ◌+◌, ◌<◌, List, [], ◌∷◌, length, map, fold, get_or, Option, Some, None, option_map, Bool, true, false, not, cond, nat_lt, if◌then◌else◌, Ok, Err, All, Contains, slice_get, refl, ap, subst, ◌∙◌, arith}
use Rattle.std.proofs.lemmas.Bool.{false_from_ne_true, lt-ltb, not-false, cond-false, cond-true}
use Rattle.std.proofs.lemmas.List.Elements.{All-head, All-tail, Contains-append_right}
use Rattle.std.proofs.lemmas.List.{get_or_default}
use Rattle.std.proofs.lemmas.List.Sums.{prefix_len_stops}
use Rattle.std.proofs.lemmas.Option.{slice_get-get_or, slice_get-map}
use Rattle.std.proofs.lemmas.Slice.Eq.{bytes_eq-Decides}
use Rattle.std.specs.List.{prefix_len}
use Rattle.std.specs.Str.{bytes_eq}
use Rattle.fbas_model.specs.Names.{Name, AreNamesOf}
use Rattle.fbas_model.specs.Systems.{System, entries_in}
use Rattle.fbas_model.specs.declared.TheConstants.{MOST_NODES, MOST_ENTRIES}
use Rattle.node_json.proofs.NamesInOrder.{in_order-names}
use Rattle.node_json.specs.Configuration.{all_names, names_if_any, number_of, numbered, set_named, system_by, within_entries, within_nodes, system_with}
use Rattle.node_json.specs.Named.{NamedSet, NamedNode}
use Rattle.node_json.specs.NamesInOrder.{in_order}
use Rattle.node_json.specs.Sound.{AreApart}
use Rattle.node_json.specs.SystemOf.{IsSystemOf}
use Rattle.node_json.specs.declared.faults.ConfigFault.TheVariants.{TooManyNodes, TooManyEntries}

-- ---- numbers

-- how many names come before the first that is this one
abbrev before : List Name → Name → ℕ
before names name = prefix_len (λ n. not (bytes_eq n name)) names

before-within : (names : List Name) (name : Name) → Contains names name → before names name < length names
before-within [] name h = absurd (omega arith)
before-within (x ∷ xs) name (zero, low, at) =
    let same : bytes_eq x name ≡ true = (bytes_eq-Decides x name).1 at in
    rw same (omega arith)
before-within (x ∷ xs) name (suc k, low, at) = by_test (bytes_eq x name) (before-within xs name (k, omega arith, at))
  where
    by_test : (b : Bool) → before xs name < length xs → cond (not b) (1 + before xs name) 0 < length (x ∷ xs)
    by_test true h = omega arith
    by_test false h = omega arith

-- the name of a name's number is that name
pub named : (names : List Name) (name : Name) → Contains names name → slice_get names (number_of names name) ≡ Some name
named names name h =
    let at = before names name in
    let within : at < length names = before-within names name h in
    let low : nat_lt at (length names) ≡ true = lt-ltb at (length names) within in
    let first : bytes_eq (get_or names at []) name ≡ true = not-false (bytes_eq (get_or names at []) name) (prefix_len_stops (λ n. not (bytes_eq n name)) names [] within) in
    rw low (slice_get-get_or names at [] within ∙ ap Some ((bytes_eq-Decides (get_or names at []) name).0 first))

-- ---- quorum sets

abbrev declared_next : Name → Option NamedSet → NamedNode → Option NamedSet
declared_next name found n = if bytes_eq n.key name then n.quorum_set else found

-- nodes of other names change nothing
others : (nodes : List NamedNode) (name : Name) (found : Option NamedSet) → All (λ m. bytes_eq m.key name ≡ false) nodes → fold (declared_next name) found nodes ≡ found
others [] name found h = refl
others (n ∷ ns) name found h =
    let P = λ (m : NamedNode). bytes_eq m.key name ≡ false in
    others ns name (declared_next name found n) (All-tail P n ns h) ∙ cond-false (bytes_eq n.key name) n.quorum_set found (All-head P n ns h)

declared_by : (nodes : List NamedNode) (n : NamedNode) (found : Option NamedSet) → AreApart nodes → Contains nodes n → fold (declared_next n.key) found nodes ≡ n.quorum_set
declared_by [] n found apart h = absurd (omega arith)
declared_by (x ∷ xs) n found apart (zero, low, at) =
    let rest : All (λ m. bytes_eq m.key n.key ≡ false) xs = subst (λ (m : NamedNode). All (λ z. bytes_eq z.key m.key ≡ false) xs) at apart.0 in
    let here : bytes_eq x.key n.key ≡ true = (bytes_eq-Decides x.key n.key).1 (ap (λ (m : NamedNode). m.key) at) in
    others xs n.key (declared_next n.key found x) rest ∙ cond-true (bytes_eq x.key n.key) x.quorum_set found here ∙ ap (λ (m : NamedNode). m.quorum_set) at
declared_by (x ∷ xs) n found apart (suc k, low, at) = declared_by xs n (declared_next n.key found x) apart.1 (k, omega arith, at)

undeclared_by : (nodes : List NamedNode) (name : Name) → ((n : NamedNode) → Contains nodes n → n.key ≡ name → ⊥) → set_named nodes name ≡ None
undeclared_by nodes name none = others nodes name None (λ k d h.
    false_from_ne_true (bytes_eq (get_or nodes k d).key name) (λ e. none (get_or nodes k d) (k, h, get_or_default nodes k (get_or nodes k d) d h) ((bytes_eq-Decides (get_or nodes k d).key name).0 e)))

-- ---- the system

key-among : (nodes : List NamedNode) (n : NamedNode) → Contains nodes n → Contains (all_names nodes) n.key
key-among [] n h = absurd (omega arith)
key-among (x ∷ xs) n (zero, low, at) = (0, omega arith, ap (λ (m : NamedNode). m.key) at)
key-among (x ∷ xs) n (suc k, low, at) = Contains-append_right (x.key ∷ names_if_any x.quorum_set) (all_names xs) n.key (key-among xs n (k, omega arith, at))

module _ (nodes : List NamedNode) (apart : AreApart nodes) (names : List Name) (are : AreNamesOf (all_names nodes) names) where
  set_at : (name : Name) → Contains names name → slice_get (map (λ k. option_map (numbered names) (set_named nodes k)) names) (number_of names name) ≡ Some (option_map (numbered names) (set_named nodes name))
  set_at name h = slice_get-map (λ k. option_map (numbered names) (set_named nodes k)) names (number_of names name) ∙ ap (option_map (λ k. option_map (numbered names) (set_named nodes k))) (named names name h)

  system_by-is : IsSystemOf nodes (system_by names nodes)
  system_by-is = record {
    names = are;
    numbers = λ name h. named names name ((are.same name).1 h);
    declared = λ n h. set_at n.key ((are.same n.key).1 (key-among nodes n h)) ∙ ap (λ o. Some (option_map (numbered names) o)) (declared_by nodes n None apart h);
    undeclared = λ name h none. set_at name h ∙ ap (λ o. Some (option_map (numbered names) o)) (undeclared_by nodes name none);
  }

within_entries-same : (system s : System) → within_entries system ≡ Ok s → system ≡ s
within_entries-same system s h = by_test (nat_lt MOST_ENTRIES (entries_in system.sets)) h
  where
    by_test : (b : Bool) → cond b (Err (TooManyEntries (entries_in system.sets))) (Ok system) ≡ Ok s → system ≡ s
    by_test true g = cc
    by_test false g = cc

within_nodes-same : (names : List Name) (nodes : List NamedNode) (s : System) → within_nodes names nodes ≡ Ok s → system_by names nodes ≡ s
within_nodes-same names nodes s h = by_test (nat_lt MOST_NODES (length names)) h
  where
    by_test : (b : Bool) → cond b (Err (TooManyNodes (length names))) (within_entries (system_by names nodes)) ≡ Ok s → system_by names nodes ≡ s
    by_test true g = cc
    by_test false g = within_entries-same (system_by names nodes) s g

-- the system of nodes is theirs
pub system_with-is : (nodes : List NamedNode) (s : System) → AreApart nodes → system_with nodes ≡ Ok s → IsSystemOf nodes s
unfolding system_with
system_with-is nodes s apart h =
    subst (IsSystemOf nodes) (within_nodes-same (in_order (all_names nodes)) nodes s h) (system_by-is nodes apart (in_order (all_names nodes)) (in_order-names (all_names nodes)))
