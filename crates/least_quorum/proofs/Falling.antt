-- Quorums that fall in size.
use Rattle.std.proofs.Common.{◌≡◌, ℕ, ◌+◌, ◌<◌, ◌≤◌, List, [], ◌∷◌, ◌++◌, length, refl, arith}
use Rattle.fbas_model.specs.Nodes.{Table, size}
use Rattle.least_journal.specs.Least.{AreSmaller, FallFrom}
use Rattle.least_quorum.specs.Search.{best_of}

pub best_push : (n : ℕ) (xs : List Table) (u : Table) → best_of n (xs ++ u ∷ []) ≡ size u
best_push n [] u = refl
best_push n (x ∷ xs) u = best_push (size x) xs u

pub falling_push : (n : ℕ) (xs : List Table) (u : Table) → AreSmaller n xs → size u < best_of n xs → AreSmaller n (xs ++ u ∷ [])
falling_push n [] u h low = (low, tt)
falling_push n (x ∷ xs) u h low = (h.0, falling_push (size x) xs u h.1 low)

-- there are no more of them than sizes
pub falling_count : (n : ℕ) (xs : List Table) → AreSmaller n xs → length xs + best_of n xs ≤ n
falling_count n [] h = omega arith
falling_count n (x ∷ xs) h = omega (arith, h.0, falling_count (size x) xs h.1)

pub falls_from : (n : ℕ) (xs : List Table) → AreSmaller n xs → FallFrom xs
falls_from n [] h = tt
falls_from n (x ∷ xs) h = h.1
