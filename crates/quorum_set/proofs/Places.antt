-- The places of inner sets fit 32 bits, list by list, and if there are few entries.
use Rattle.std.proofs.Common.{◌≡◌, ℕ, ◌<◌, ◌≤◌, ◌^◌, refl, arith, List, [], ◌∷◌, length}
use Rattle.std.specs.Prelude.{All}
use Rattle.std.proofs.lemmas.List.Elements.{All-nil, All-cons}
use Rattle.fbas_model.specs.Trees.{QuorumSet, quorum_set, Entries, none, node, inner}
use Rattle.fbas_model.specs.QuorumSets.{all_entries, all_entries_of}
use Rattle.fbas_model.specs.Lists.{inner_entries, entries_of}
use Rattle.quorum_set.specs.Findings.{inner_sets, HasPlaces, HavePlaces}

inner_sets-inner : (qs : List QuorumSet) → inner_sets (inner_entries qs) ≡ length qs
inner_sets-inner [] = refl
inner_sets-inner (q ∷ qs) = omega (arith, inner_sets-inner qs)

pub inner_sets-lists : (ws : List ℕ) (qs : List QuorumSet) → inner_sets (entries_of ws qs) ≡ length qs
inner_sets-lists [] qs = inner_sets-inner qs
inner_sets-lists (w ∷ ws) qs = inner_sets-lists ws qs

places_inner : (qs : List QuorumSet) → HavePlaces (inner_entries qs) → All HasPlaces qs
places_inner [] h = All-nil HasPlaces
places_inner (q ∷ qs) h = All-cons HasPlaces q qs h.0 (places_inner qs h.1)

pub places_inners : (ws : List ℕ) (qs : List QuorumSet) → HavePlaces (entries_of ws qs) → All HasPlaces qs
places_inners [] qs h = places_inner qs h
places_inners (w ∷ ws) qs h = places_inners ws qs h

inner_sets-le : (entries : Entries) → inner_sets entries ≤ all_entries_of entries
inner_sets-le none = omega arith
inner_sets-le (node w rest) = omega (arith, inner_sets-le rest)
inner_sets-le (inner q rest) = omega (arith, inner_sets-le rest)

mutual
  pub few_entries : (q : QuorumSet) → all_entries q < 2 ^ 32 → HasPlaces q
  few_entries (quorum_set k entries) h = (omega (arith, inner_sets-le entries, h), few_of entries h)

  few_of : (entries : Entries) → all_entries_of entries < 2 ^ 32 → HavePlaces entries
  few_of none h = tt
  few_of (node w rest) h = few_of rest (omega (arith, h))
  few_of (inner q rest) h = (few_entries q (omega (arith, h)), few_of rest (omega (arith, h)))
