-- Quorum sets by numbers, and how many entries they have.
use Rattle.std.proofs.Common.{◌≡◌, ℕ, ◌+◌, ◌≤◌, ◌<◌, List, [], ◌∷◌, ◌++◌, slice_index_or, length, map, take, drop, get_or, refl, sym, ap, ap₂, ◌∙◌, arith}
use Rattle.std.proofs.Math.ListN.{drop_of_length-le}
use Rattle.std.proofs.lemmas.List.{take_all, take_more, map-append}
use Rattle.std.proofs.lemmas.Simd.{map-map}
use denote.Ref.{Bor}
use Rattle.fbas_model.specs.Names.{Name}
use Rattle.fbas_model.specs.QuorumSets.{all_entries, all_entries_of}
use Rattle.fbas_model.specs.Trees.{QuorumSet, quorum_set, node, inner}
use Rattle.fbas_model.specs.Lists.{entries_of, inner_entries}
use Rattle.node_json.specs.Configuration.{number_of, nodes_then, numbered, all_numbered}
use Rattle.node_json.specs.Named as spec
use Rattle.node_json.specs.View.{names_view, sets_in, set_view, sets_view}
use Rattle.node_json.specs.declared.quorum_sets.NamedSet.{NamedSet}

-- what a function makes of one more item
pub mapped_more : {X Y : Type 0} (f : X → Y) (xs : List X) (i : ℕ) (x : X) (ys more : List Y) (y : Y) → i < length xs → x ≡ get_or xs i x → y ≡ f x → more ≡ ys ++ y ∷ [] → ys ≡ map f (take i xs) → more ≡ map f (take (i + 1) xs)
mapped_more f xs i x ys more y h is e m inv =
    m ∙ ap₂ (λ zs z. zs ++ z ∷ []) inv (e ∙ ap f is) ∙ sym (ap (map f) (take_more xs i x h) ∙ map-append f (take i xs) (get_or xs i x ∷ []))

-- the numbers of one more name
pub numbers_more : (names : List Name) (list : List (Bor (List ℕ))) (i : ℕ) (d : Bor (List ℕ)) → i < length list
    → map (number_of names) (names_view (take i list)) ++ number_of names (slice_index_or list i d).now ∷ [] ≡ map (number_of names) (names_view (take (i + 1) list))
numbers_more names list i d inside =
    let item = slice_index_or list i d in
    sym (ap (λ xs. map (number_of names) (names_view xs)) (take_more list i d inside)
    ∙ ap (map (number_of names)) (map-append (λ (name : Bor (List ℕ)). name.now) (take i list) (item ∷ []))
    ∙ map-append (number_of names) (names_view (take i list)) (item.now ∷ []))

entries_of-nodes_then : (vs : List ℕ) (qs : List QuorumSet) → entries_of vs qs ≡ nodes_then vs (inner_entries qs)
entries_of-nodes_then [] qs = refl
entries_of-nodes_then (v ∷ vs) qs = ap (node v) (entries_of-nodes_then vs qs)

inner_entries-numbered : (names : List Name) (ss : List spec.NamedSet) → inner_entries (map (numbered names) ss) ≡ all_numbered names (sets_in ss)
inner_entries-numbered names [] = refl
inner_entries-numbered names (s ∷ ss) = ap (inner (numbered names s)) (inner_entries-numbered names ss)

-- the quorum set that was made of numbers, after the loop over the inner ones
pub numbered_end : (names : List Name) (threshold : ℕ) (validators : List Name) (vs : List ℕ) (qs : List QuorumSet) (xs : List NamedSet) (i : ℕ) → length xs ≤ i
    → vs ≡ map (number_of names) validators → qs ≡ map (λ s. numbered names (set_view s)) (take i xs)
    → quorum_set threshold (entries_of vs qs) ≡ numbered names (spec.named_set threshold validators (sets_view xs))
numbered_end names threshold validators vs qs xs i h v q =
    let inners : qs ≡ map (numbered names) (map set_view xs) = q ∙ ap (map (λ s. numbered names (set_view s))) (take_all i xs h) ∙ sym (map-map (numbered names) set_view xs) in
    ap (quorum_set threshold) (entries_of-nodes_then vs qs ∙ rw (v, inners, inner_entries-numbered names (map set_view xs)) refl)

all_entries-nodes : (vs : List ℕ) (qs : List QuorumSet) → all_entries_of (entries_of vs qs) ≡ length vs + all_entries_of (inner_entries qs)
all_entries-nodes [] qs = omega arith
all_entries-nodes (v ∷ vs) qs = omega (arith, all_entries-nodes vs qs)

-- how many entries were counted, after the loop over the inner quorum sets
pub entries_end : (threshold n : ℕ) (vs : List ℕ) (qs : List QuorumSet) (i : ℕ) → length qs ≤ i → length vs + all_entries_of (inner_entries qs) ≡ n + all_entries_of (inner_entries (drop i qs))
    → n ≡ all_entries (quorum_set threshold (entries_of vs qs))
entries_end threshold n vs qs i h inv =
    let none : all_entries_of (inner_entries (drop i qs)) ≡ 0 = ap (λ ys. all_entries_of (inner_entries ys)) (drop_of_length-le qs h) in
    omega (arith, all_entries-nodes vs qs)
