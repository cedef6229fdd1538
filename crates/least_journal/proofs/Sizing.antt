-- The variable of a size, and the range of a clause.
use Rattle.std.proofs.Common.{◌≡◌, ℕ, zero, suc, ◌+◌, ◌<◌, ◌≤◌, true, false, [], ◌∷◌, List, length, arith}
use Rattle.std.proofs.lemmas.Bool.{false≢true}
use Rattle.std.proofs.lemmas.List.Elements.{All-weaker}
use Rattle.fbas_model.specs.Nodes.{Table, members, ◌⊆◌, IsInhabited, size}
use Rattle.fbas_model.proofs.Sizes.{size-cons, size_le}
use Rattle.lrat_model.specs.Literal.{Literal, variable_of}
use Rattle.lrat_model.specs.Ranges.{IsInRange}
use Rattle.clause_encoder.specs.NameCounter.{counted, counter_vars}
use Rattle.clause_encoder.proofs.NameWriting.{next_cells}

-- the variables of the last row are the last
pub last_row : (g m : ℕ) → counted g g m + g ≡ counter_vars g + m
last_row g m = omega (arith, next_cells g)

member_some : (t : Table) (v : ℕ) → members t v ≡ true → 0 < size t
member_some [] v here = absurd (false≢true here)
member_some (true ∷ t) zero here = omega (arith, size-cons true t)
member_some (false ∷ t) zero here = absurd (false≢true here)
member_some (m ∷ t) (suc v) here = let rest = member_some t v here in omega (arith, size-cons m t, rest)

pub some_size : (t : Table) → IsInhabited (members t) → 0 < size t
some_size t some = member_some t some.0 some.1

-- the variable of a set's size is one of the counter's
pub size_place : (g u : Table) → length u ≡ length g → members u ⊆ members g → IsInhabited (members u) → (0 < counted (size g) (size g) (size u)) × (counted (size g) (size g) (size u) ≤ counter_vars (size g)) × (size u ≤ size g)
size_place g u same within some =
    let le = size_le u g same within in
    let at = last_row (size g) (size u) in
    (omega (arith, some_size u some), omega (arith, le, at), le)

pub wider : (g : ℕ) (lits : List Literal) → IsInRange g lits → IsInRange (counter_vars g) lits
wider g lits low = All-weaker (λ (l : Literal). variable_of l ≤ g) (λ (l : Literal). variable_of l ≤ counter_vars g) (λ l h. omega (arith, h)) lits low
