-- The entries at all depths, summed list by list.
use Rattle.std.proofs.Common.{◌≡◌, ℕ, ◌+◌, ◌≤◌, ◌<◌, refl, sym, ◌∙◌, ap, arith, length, take, List, [], ◌∷◌}
use Rattle.std.specs.Prelude.{sum_by, slice_index_or}
use Rattle.std.proofs.lemmas.List.Sums.{sum_by-cons, sum_by_more, sum_by-take-le}
use Rattle.fbas_model.specs.Trees.{QuorumSet}
use Rattle.fbas_model.specs.QuorumSets.{all_entries, all_entries_of}
use Rattle.fbas_model.specs.Lists.{inner_entries, entries_of}

-- an inner quorum set as an entry, with its own
abbrev pub with_own : QuorumSet → ℕ
with_own q = 1 + all_entries q

entries-inner : (qs : List QuorumSet) → all_entries_of (inner_entries qs) ≡ sum_by with_own qs
entries-inner [] = refl
entries-inner (q ∷ qs) = omega (arith, entries-inner qs, sum_by-cons with_own q qs)

pub entries-lists : (ws : List ℕ) (qs : List QuorumSet) → all_entries_of (entries_of ws qs) ≡ length ws + sum_by with_own qs
entries-lists [] qs = omega (arith, entries-inner qs)
entries-lists (w ∷ ws) qs = omega (arith, entries-lists ws qs)

pub entries_more : (qs : List QuorumSet) (i : ℕ) (q : QuorumSet) → i < length qs → q ≡ slice_index_or qs i q → sum_by with_own (take (i + 1) qs) ≡ sum_by with_own (take i qs) + (1 + all_entries q)
entries_more qs i q h e = sum_by_more with_own qs i q h ∙ ap (λ (x : QuorumSet). sum_by with_own (take i qs) + (1 + all_entries x)) (sym e)

-- what is counted with one more inner quorum set is no more than all
pub entries_within : (ws : List ℕ) (qs : List QuorumSet) (i : ℕ) (q : QuorumSet) → i < length qs → q ≡ slice_index_or qs i q → length ws + sum_by with_own (take i qs) + (1 + all_entries q) ≤ all_entries_of (entries_of ws qs)
entries_within ws qs i q h e = omega (arith, entries-lists ws qs, entries_more qs i q h e, sum_by-take-le with_own qs (i + 1))
