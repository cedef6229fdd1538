-- Gates that say that at least this many of some inputs are true where a head is, by a counter each, and with the sets of their
-- inputs written out.
use Rattle.std.specs.Prelude.{◌≡◌, ◌≢◌, ◌⊎◌, ℕ, suc, true, ◌+◌, ◌<◌, ◌≤◌, List, [], ◌∷◌, length, map}
use Rattle.lrat_model.specs.Literal.{Literal, negated, has}
use Rattle.lrat_model.specs.Clauses.{Held}
use Rattle.counter_expansion.specs.Finding.{IsHeld, IsNeedless}

-- s i j says that j of the inputs x 1 .. x i are true; a row has at most k columns. Where one of the heads is true, k of all
-- inputs are. Past the first `rows` rows of the n, a row stays where the gate is written out: then each of its literals is a
-- head of as many inputs as its column says
pub record Gate : Type 0 where
  pub n : ℕ
  pub k : ℕ
  pub rows : ℕ
  pub x : ℕ → Literal
  pub s : ℕ → ℕ → Literal
  pub heads : List Literal

-- gates by their numbers; one without inputs stands for none
abbrev pub Gates : Type 0
Gates = ℕ → Gate

-- the positions rise strictly, past the one bound and up to the other
abbrev pub Rises : ℕ → ℕ → List ℕ → Type 0
Rises low high [] = low ≤ high
Rises low high (p ∷ ps) = (low < p) × Rises p high ps

-- the cells of a gate's counter
abbrev pub IsCell : Gate → ℕ → ℕ → Type 0
IsCell gate i j = (1 ≤ j) × (j ≤ i) × (i ≤ gate.n) × (j ≤ gate.k)

-- the cells that go
abbrev pub IsPlace : Gate → ℕ → ℕ → Type 0
IsPlace gate i j = (i ≤ gate.rows) × IsCell gate i j

-- where h is true, at least t of the inputs are
abbrev pub IsHeadOf : Gate → Literal → ℕ → Type 0
IsHeadOf gate h t = ((has gate.heads h ≡ true) × (t ≡ gate.k)) ⊎ ((gate.rows < gate.n) × IsCell gate gate.n t × (h ≡ gate.s gate.n t))

-- where a head of t inputs is true, one of any n - t + 1 of the inputs is: no such clause is needed beside those held
abbrev pub IsWritten : Gate → Held → Type 0
IsWritten gate held = (h : Literal) (t : ℕ) (ps : List ℕ) → IsHeadOf gate h t → Rises 0 gate.n ps → length ps + t ≡ suc gate.n → IsNeedless held (negated h ∷ map gate.x ps)

abbrev pub AreWritten : Gates → Held → Type 0
AreWritten gates held = (g : ℕ) → IsWritten (gates g) held

-- l is the literal of a place or its negation
abbrev pub IsInner : Gates → Literal → Type 0
IsInner gates l = (g i j : ℕ) × IsPlace (gates g) i j × ((l ≡ (gates g).s i j) ⊎ (l ≡ negated ((gates g).s i j)))

abbrev pub IsOuter : Gates → Literal → Type 0
IsOuter gates l = IsInner gates l → ⊥

-- s i+1 j → s i j or x i+1, where s i j is false for j > i
abbrev pub IsFirst : Gate → List Literal → Type 0
IsFirst gate clause = (i j : ℕ) × IsCell gate (suc i) j × (has clause (negated (gate.s (suc i) j)) ≡ true) × ((j ≡ suc i) ⊎ ((j ≤ i) × (has clause (gate.s i j) ≡ true))) × (has clause (gate.x (suc i)) ≡ true)

-- s i+1 j+1 → s i j, or another
abbrev pub IsSecond : Gate → List Literal → Type 0
IsSecond gate clause = (i j : ℕ) × (1 ≤ j) × IsCell gate (suc i) (suc j) × (has clause (negated (gate.s (suc i) (suc j))) ≡ true) × (has clause (gate.s i j) ≡ true)

-- a head → s n k
abbrev pub IsHead : Gate → List Literal → Type 0
IsHead gate clause = (h : Literal) × IsPlace gate gate.n gate.k × (has gate.heads h ≡ true) × (has clause (negated h) ≡ true) × (has clause (gate.s gate.n gate.k) ≡ true)

-- a clause of a gate's counter
abbrev pub IsOfCounter : Gates → List Literal → Type 0
IsOfCounter gates clause = (g : ℕ) × (IsFirst (gates g) clause ⊎ (IsSecond (gates g) clause ⊎ IsHead (gates g) clause))

-- no literal of the clause is a place's
abbrev pub AreOuter : Gates → List Literal → Type 0
AreOuter gates clause = (m : Literal) → has clause m ≡ true → IsOuter gates m

-- each clause before is one of a counter, or has no literal of a place and is not needed after
abbrev pub IsCounted : Gates → Held → Held → Type 0
IsCounted gates before after = (clause : List Literal) → IsHeld before clause → (AreOuter gates clause × IsNeedless after clause) ⊎ IsOfCounter gates clause

-- the literals of places are told apart, and from inputs and heads; at most one row stays
pub record AreApart (gates : Gates) : Type 0 where
  pub same_place : (g h i j a b : ℕ) → IsPlace (gates g) i j → IsPlace (gates h) a b → (gates g).s i j ≡ (gates h).s a b → (g ≡ h) × (i ≡ a) × (j ≡ b)
  pub not_negated : (g h i j a b : ℕ) → (gates g).s i j ≢ negated ((gates h).s a b)
  pub inputs_outer : (g i : ℕ) → suc i ≤ (gates g).n → IsOuter gates ((gates g).x (suc i))
  pub heads_outer : (g t : ℕ) (h : Literal) → IsHeadOf (gates g) h t → IsOuter gates h
  pub one_row_stays : (g : ℕ) → (gates g).n ≤ suc (gates g).rows
