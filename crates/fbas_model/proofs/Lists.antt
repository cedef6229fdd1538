-- What holds of a quorum set and of the two lists that it is made of.
use Rattle.std.proofs.Common.{◌≡◌, ℕ, zero, suc, ◌+◌, ◌≤◌, ◌<◌, ◌==◌, ◌||◌, Bool, List, [], ◌∷◌, length, slice_index_or, refl, sym, ◌∙◌, ap, subst, arith}
use Rattle.std.specs.List.{list_any}
use Rattle.std.proofs.Math.Bool.{or_assoc}
use Rattle.std.specs.Prelude.{All}
use Rattle.std.proofs.lemmas.List.Elements.{All-nil, All-cons, All-head, All-tail}
use Rattle.fbas_model.specs.Nodes.{Nodes}
use Rattle.fbas_model.specs.Trees.{QuorumSet}
use Rattle.fbas_model.specs.QuorumSets.{count, IsBelow, AreBelow, weight, weight_of, mentioned, mentioned_by}
use Rattle.fbas_model.specs.Lists.{inner_entries, entries_of, among}

pub item_of_all : (P : QuorumSet → Type 0) (qs : List QuorumSet) (i : ℕ) (q : QuorumSet) → i < length qs → q ≡ slice_index_or qs i q → All P qs → P q
item_of_all P qs i q h e all = subst P (sym e) (all i q h)

-- ---- the numbers of their nodes

below_inner : (n : ℕ) (qs : List QuorumSet) → AreBelow n (inner_entries qs) → All (IsBelow n) qs
below_inner n [] h = All-nil (IsBelow n)
below_inner n (q ∷ qs) h = All-cons (IsBelow n) q qs h.0 (below_inner n qs h.1)

pub below_nodes : (n : ℕ) (ws : List ℕ) (qs : List QuorumSet) → AreBelow n (entries_of ws qs) → All (λ w. w < n) ws
below_nodes n [] qs h = All-nil (λ w. w < n)
below_nodes n (w ∷ ws) qs h = All-cons (λ w. w < n) w ws h.0 (below_nodes n ws qs h.1)

pub below_inners : (n : ℕ) (ws : List ℕ) (qs : List QuorumSet) → AreBelow n (entries_of ws qs) → All (IsBelow n) qs
below_inners n [] qs h = below_inner n qs h
below_inners n (w ∷ ws) qs h = below_inners n ws qs h.1

pub below_inner_entries : (n : ℕ) (ws : List ℕ) (qs : List QuorumSet) → AreBelow n (entries_of ws qs) → AreBelow n (inner_entries qs)
below_inner_entries n [] qs h = h
below_inner_entries n (w ∷ ws) qs h = below_inner_entries n ws qs h.1

below_of_inner : (n : ℕ) (qs : List QuorumSet) → All (IsBelow n) qs → AreBelow n (inner_entries qs)
below_of_inner n [] h = tt
below_of_inner n (q ∷ qs) h = (All-head (IsBelow n) q qs h, below_of_inner n qs (All-tail (IsBelow n) q qs h))

-- the entries' nodes are below n where the validators and the inner quorum sets are
pub below_lists : (n : ℕ) (ws : List ℕ) (qs : List QuorumSet) → All (λ w. w < n) ws → All (IsBelow n) qs → AreBelow n (entries_of ws qs)
below_lists n [] qs h all = below_of_inner n qs all
below_lists n (w ∷ ws) qs h all = (All-head (λ w. w < n) w ws h, below_lists n ws qs (All-tail (λ w. w < n) w ws h) all)

-- ---- their numbers of entries and weights

count-inner : (qs : List QuorumSet) → count (inner_entries qs) ≡ length qs
count-inner [] = refl
count-inner (q ∷ qs) = omega (arith, count-inner qs)

pub count-lists : (ws : List ℕ) (qs : List QuorumSet) → count (entries_of ws qs) ≡ length ws + length qs
count-lists [] qs = omega (arith, count-inner qs)
count-lists (w ∷ ws) qs = omega (arith, count-lists ws qs)

lighter_inner : (qs : List QuorumSet) (i : ℕ) (d : QuorumSet) → i < length qs → weight (slice_index_or qs i d) ≤ weight_of (inner_entries qs)
lighter_inner [] i d h = absurd (omega arith)
lighter_inner (q ∷ qs) zero d h = omega arith
lighter_inner (q ∷ qs) (suc i) d h = omega (arith, lighter_inner qs i d (omega arith))

-- an inner quorum set weighs less than the quorum set that it stands in
pub lighter : (ws : List ℕ) (qs : List QuorumSet) (i : ℕ) (q : QuorumSet) → i < length qs → q ≡ slice_index_or qs i q → weight q ≤ weight_of (entries_of ws qs)
lighter [] qs i q h e = subst (λ (x : QuorumSet). weight x ≤ weight_of (inner_entries qs)) (sym e) (lighter_inner qs i q h)
lighter (w ∷ ws) qs i q h e = lighter ws qs i q h e

-- ---- the nodes that they mention

-- the nodes that stand in the quorum sets of a list
abbrev pub mentioned_in : List QuorumSet → Nodes
mentioned_in qs v = list_any (λ (q : QuorumSet). mentioned q v) qs

mentioned-inner : (qs : List QuorumSet) (v : ℕ) → mentioned_by (inner_entries qs) v ≡ mentioned_in qs v
mentioned-inner [] v = refl
mentioned-inner (q ∷ qs) v = ap (λ (b : Bool). mentioned q v || b) (mentioned-inner qs v)

pub mentioned-lists : (ws : List ℕ) (qs : List QuorumSet) (v : ℕ) → mentioned_by (entries_of ws qs) v ≡ (among ws v || mentioned_in qs v)
mentioned-lists [] qs v = mentioned-inner qs v
mentioned-lists (w ∷ ws) qs v = ap (λ (b : Bool). (v == w) || b) (mentioned-lists ws qs v) ∙ sym (or_assoc (v == w) (among ws v) (mentioned_in qs v))
