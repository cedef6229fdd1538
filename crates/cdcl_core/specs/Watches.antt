-- Clauses that are watched, and what watches keep.
use Rattle.std.specs.Prelude.{◌≡◌, ◌⊎◌, ℕ, ◌+◌, ◌*◌, ◌^◌, ◌<◌, ◌≤◌, ◌==◌, ◌++◌, Bool, true, false, List, [], ◌∷◌, length, take, slice_index, slice_index_or, All, Option, None, Some}
use Rattle.std.specs.List.{list_any}
use Rattle.lrat_model.specs.Literal.{Literal, Plus, Minus, negated, same, has}
use Rattle.lrat_model.specs.Clauses.{Held, clause_at}
use Rattle.cdcl_core.specs.declared.watches.Watch.{Watch}
use Rattle.cdcl_core.specs.declared.watches.Pair.{Pair}
use Rattle.cdcl_core.specs.Search.{IsState}
use Rattle.cdcl_core.specs.Trail.{InRange}

-- where the list of a literal stands
abbrev pub index_of : Literal → ℕ
index_of (Plus x) = 2 * x
index_of (Minus x) = 2 * x + 1

-- the watches of a literal
abbrev pub list_at : List (List Watch) → Literal → List Watch
list_at lists l = slice_index_or lists (index_of l) []

-- the id and the literals of the clause at a place
abbrev pub id_at : Held → ℕ → ℕ
id_at held p = (slice_index_or held p (0, [])).0

abbrev pub lits_at : Held → ℕ → List Literal
lits_at held p = (slice_index_or held p (0, [])).1

-- the literals that the clause at a place watches
abbrev pub pair_at : List Pair → ℕ → Pair
pair_at pairs p = slice_index_or pairs p (record { first = Plus 0; second = Plus 0; is_counted = false })

-- whether the clause at a place is among these watches
abbrev pub mentions : List Watch → ℕ → Bool
mentions list p = list_any (λ w. w.place == p) list

-- a literal of the clause is true
abbrev pub IsTrueIn : List Literal → List Literal → Type 0
IsTrueIn trues clause = (l : Literal) × (has clause l ≡ true) × (has trues l ≡ true)

-- two different literals, none of them false where these are true
pub record IsOpenPair (trues : List Literal) (pair : Pair) : Type 0 where
  pub differ : same pair.first pair.second ≡ false
  pub first_free : has trues (negated pair.first) ≡ false
  pub second_free : has trues (negated pair.second) ≡ false

-- a clause that is counted watches none
abbrev pub IsCounted : Pair → Type 0
IsCounted pair = (pair.is_counted ≡ true) × (same pair.first pair.second ≡ true)

-- the clause is true, or watches two literals that the visited ones do not make false, or is counted
abbrev pub IsKept : List Literal → List Literal → List Literal → Pair → Type 0
IsKept visited trues clause pair = IsTrueIn trues clause ⊎ (IsOpenPair visited pair ⊎ IsCounted pair)

abbrev pub AreKept : Held → List Pair → List Literal → List Literal → Type 0
AreKept held pairs visited trues = (p : ℕ) → p < length held → IsKept visited trues (lits_at held p) (pair_at pairs p)

-- the clause has no literals but these three; the first and the last are in it
abbrev pub IsShort : List Literal → Literal → Literal → Literal → Type 0
IsShort clause l a b = (has clause l ≡ true) × (has clause b ≡ true) × ((m : Literal) → has clause m ≡ true → (m ≡ l) ⊎ (m ≡ a) ⊎ (m ≡ b))

-- the watch of l names a clause, and a literal of it; where the third is not l again, the clause has no other literals than these
abbrev pub IsSound : Held → Literal → Watch → Type 0
IsSound held l watch = (watch.place < length held) × (has (lits_at held watch.place) watch.blocker ≡ true) × (same watch.third l ≡ false → IsShort (lits_at held watch.place) l watch.blocker watch.third)

-- the clause at the place stands in the list of this literal, or in the one that was taken out, which is l's
abbrev pub IsListed : List (List Watch) → Literal → List Watch → ℕ → Literal → Type 0
IsListed lists l spare p w = (mentions (list_at lists w) p ≡ true) ⊎ ((w ≡ l) × (mentions spare p ≡ true))

-- the pair of each clause are two of its literals, and it stands in the lists of both where they differ
pub record IsWatched (held : Held) (pairs : List Pair) (lists : List (List Watch)) (l : Literal) (spare : List Watch) : Type 0 where
  pub long : length pairs ≡ length held
  pub inside : (p : ℕ) → p < length held → (has (lits_at held p) (pair_at pairs p).first ≡ true) × (has (lits_at held p) (pair_at pairs p).second ≡ true)
  pub listed : (p : ℕ) → p < length held → same (pair_at pairs p).first (pair_at pairs p).second ≡ false → IsListed lists l spare p (pair_at pairs p).first × IsListed lists l spare p (pair_at pairs p).second
  pub sound : (m : Literal) → All (IsSound held m) (list_at lists m)
  pub sound_spare : All (IsSound held l) spare

-- before each decision, and at the head of the queue, each clause is true, or watches two literals that are not false, or is counted
pub record IsQueued (held : Held) (pairs : List Pair) (trues : List Literal) (reasons : List ℕ) (head : ℕ) : Type 0 where
  pub within : head ≤ length trues
  pub kept : AreKept held pairs (take head trues) trues
  pub at_decisions : (q : ℕ) → q < length trues → slice_index reasons q ≡ 0 → AreKept held pairs (take q trues) (take q trues)

-- what is propagated: the clauses held are over the first n variables, each under its id; the trail is derived from them, and each literal has a list
pub record IsPropagating (n : ℕ) (held : Held) (lists : List (List Watch)) (trues : List Literal) (reasons : List ℕ) : Type 0 where
  pub range : InRange n held
  pub ids : (p : ℕ) → p < length held → (0 < id_at held p) × (id_at held p < 2 ^ 63) × (clause_at held (id_at held p) ≡ Some (lits_at held p))
  pub state : IsState n held trues reasons
  pub long : length lists ≡ 2 * (n + 1)

-- while the watches of l are visited, which the literal at the head makes false: these are done, those are to come
pub record IsVisiting (held : Held) (pairs : List Pair) (lists : List (List Watch)) (trues : List Literal) (reasons : List ℕ) (head : ℕ) (l : Literal) (done coming : List Watch) : Type 0 where
  pub within : head < length trues
  pub at_head : (d : Literal) → l ≡ negated (slice_index_or trues head d)
  pub watched : IsWatched held pairs lists l (done ++ coming)
  pub taken_out : list_at lists l ≡ []
  pub queued : IsQueued held pairs trues reasons head
  pub visited : (p : ℕ) → p < length held → (mentions coming p ≡ true) ⊎ IsKept (take (head + 1) trues) trues (lits_at held p) (pair_at pairs p)

-- cut at the jump the clause forces the first of the pair; where the trail is cut at a decision below, neither of the pair is false
pub record IsAsserting (trues : List Literal) (reasons : List ℕ) (jump : ℕ) (lits : List Literal) (pair : Pair) : Type 0 where
  pub first_in : has lits pair.first ≡ true
  pub second_in : has lits pair.second ≡ true
  pub watched : pair.is_counted ≡ false
  pub first_false : has trues (negated pair.first) ≡ true
  pub first_free : has (take jump trues) (negated pair.first) ≡ false
  pub others_false : (m : Literal) → has lits m ≡ true → (m ≡ pair.first) ⊎ (has (take jump trues) (negated m) ≡ true)
  pub second_free : (q : ℕ) → q < jump → slice_index reasons q ≡ 0 → (same pair.first pair.second ≡ false) × (has (take q trues) (negated pair.second) ≡ false)

-- the pair are the first two literals, or twice the only one
abbrev pub IsPairOf : List Literal → Pair → Type 0
IsPairOf lits pair = ((lits ≡ pair.first ∷ []) × (pair.second ≡ pair.first)) ⊎ ((rest : List Literal) × (lits ≡ pair.first ∷ pair.second ∷ rest))

-- of the literals seen so far all are false, or all but this one, which is not
abbrev pub IsFoundFree : List Literal → List Literal → List Literal → Option Literal → Type 0
IsFoundFree trues clause seen None = (m : Literal) → has seen m ≡ true → has trues (negated m) ≡ true
IsFoundFree trues clause seen (Some l) = (has clause l ≡ true) × (has trues (negated l) ≡ false) × ((m : Literal) → has seen m ≡ true → (m ≡ l) ⊎ (has trues (negated m) ≡ true))
