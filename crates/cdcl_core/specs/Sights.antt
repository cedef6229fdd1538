-- What is seen of a clause that watches a false literal.
use Rattle.std.specs.Prelude.{◌≡◌, ◌≢◌, ◌⊎◌, true, false, List}
use Rattle.lrat_model.specs.Literal.{Literal, negated, same, has}
use Rattle.cdcl_core.specs.declared.watches.Pair.{Pair}
use Rattle.cdcl_core.specs.declared.visit.Sight.{Sight}
use Rattle.cdcl_core.specs.declared.visit.Sight.TheVariants.{Holds, Stale, Moves, Forces, Fails}
use Rattle.cdcl_core.specs.Watches.{IsShort}

-- the pair are these two, in any order
abbrev pub AreWatched : Pair → Literal → Literal → Type 0
AreWatched pair l o = ((pair.first ≡ l) × (pair.second ≡ o)) ⊎ ((pair.second ≡ l) × (pair.first ≡ o))

-- of a clause that watches l, which is false: it is true; it watches others; beside o it may watch m; o is the only one that is not false; or all are false
abbrev pub IsSeen : List Literal → List Literal → Pair → Literal → Sight → Type 0
IsSeen trues clause pair l (Holds b t) = (has clause b ≡ true) × (has trues b ≡ true) × (same t l ≡ false → IsShort clause l b t)
IsSeen trues clause pair l Stale = same pair.first pair.second ≡ false → (pair.first ≢ l) × (pair.second ≢ l)
IsSeen trues clause pair l (Moves o m b t) = (same pair.first pair.second ≡ false) × AreWatched pair l o × (has clause m ≡ true) × (same m o ≡ false) × (has trues (negated m) ≡ false) × (has clause b ≡ true) × (same t m ≡ false → IsShort clause m b t)
IsSeen trues clause pair l (Forces o t) = (has clause o ≡ true) × (has trues o ≡ false) × (has trues (negated o) ≡ false) × ((m : Literal) → has clause m ≡ true → (m ≡ o) ⊎ (has trues (negated m) ≡ true)) × (same t l ≡ false → IsShort clause l o t)
IsSeen trues clause pair l Fails = (m : Literal) → has clause m ≡ true → has trues (negated m) ≡ true
