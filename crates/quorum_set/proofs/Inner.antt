-- What a walk knows of the inner quorum set at hand, and of the nodes that stand beside it.
use Rattle.std.proofs.Common.{◌≡◌, ℕ, ◌+◌, ◌≤◌, ◌<◌, List, length, take, arith}
use Rattle.std.specs.Prelude.{All, sum_by, slice_index_or}
use Rattle.fbas_model.specs.Trees.{QuorumSet, quorum_set}
use Rattle.fbas_model.specs.QuorumSets.{IsBelow, weight, all_entries}
use Rattle.fbas_model.specs.Lists.{entries_of}
use Rattle.fbas_model.proofs.Lists.{below_nodes, below_inners, lighter, item_of_all}
use Rattle.quorum_set.specs.Findings.{HasPlaces}
use Rattle.quorum_set.proofs.Entries.{with_own, entries_within}
use Rattle.quorum_set.proofs.Places.{places_inners}

-- q stands at place i of the inner sets of a set, which has the nodes ws beside them
pub record Inner (ws : List ℕ) (set : QuorumSet) (inners : List QuorumSet) (i : ℕ) (q : QuorumSet) : Type 0 where
  pub lighter : weight q < weight set
  pub below : (n : ℕ) → IsBelow n set → IsBelow n q
  pub places : HasPlaces set → HasPlaces q
  pub entries : length ws + sum_by with_own (take i inners) + (1 + all_entries q) ≤ all_entries set

module _ (k : ℕ) (ws : List ℕ) (qs : List QuorumSet) (set : QuorumSet) (is : quorum_set k (entries_of ws qs) ≡ set) where
  pub own_below : (n : ℕ) (nodes : List ℕ) → nodes ≡ ws → IsBelow n set → All (λ w. w < n) nodes
  own_below n nodes same h = rw same (below_nodes n ws qs (rw (← is) at h))

  pub inner_at : (inners : List QuorumSet) (i : ℕ) (q : QuorumSet) → inners ≡ qs → i < length inners → q ≡ slice_index_or inners i q → Inner ws set inners i q
  inner_at inners i q same low at =
      let low : i < length qs = rw (← same) low in
      let at : q ≡ slice_index_or qs i q = rw same at at in
      record {
        lighter = rw (← is) (omega (arith, lighter ws qs i q low at));
        below = λ n h. item_of_all (IsBelow n) qs i q low at (below_inners n ws qs (rw (← is) at h));
        places = λ h. item_of_all HasPlaces qs i q low at (places_inners ws qs (rw (← is) at h).1);
        entries = rw (same, ← is) (entries_within ws qs i q low at);
      }
