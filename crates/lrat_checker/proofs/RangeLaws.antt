-- Literals in range.
use Rattle.std.proofs.Common.{◌≡◌, ℕ, ◌≤◌, true, false, not, cond, List, [], ◌∷◌, Some, sym, subst, ⊎_elim}
use Rattle.std.specs.Prelude.{◌==◌}
use Rattle.std.proofs.lemmas.Bool.{false≢true}
use Rattle.std.proofs.lemmas.List.Elements.{All-head, All-tail, All-push, All-nil, All-cons}
use Rattle.lrat_model.specs.Literal.{Literal, variable_of, has}
use Rattle.lrat_model.specs.Clauses.{Held, clause_at, with_clause, without, has_id}
use Rattle.lrat_model.proofs.Literals.{has-cons}
use Rattle.lrat_model.specs.Ranges.{IsInRange, AreInRange}

-- a literal of a list that is in range
pub range_of : (vars : ℕ) (ls : List Literal) (l : Literal) → IsInRange vars ls → has ls l ≡ true → variable_of l ≤ vars
range_of vars [] l inside there = absurd (false≢true there)
range_of vars (m ∷ ls) l inside there =
    ⊎_elim (λ first. subst (λ k. variable_of k ≤ vars) (sym first) (All-head (λ k. variable_of k ≤ vars) m ls inside))
    (λ rest. range_of vars ls l (All-tail (λ k. variable_of k ≤ vars) m ls inside) rest) (has-cons m l ls there)

-- a clause that is held
pub range_at : (vars : ℕ) (held : Held) (id : ℕ) (clause : List Literal) → AreInRange vars held → clause_at held id ≡ Some clause → IsInRange vars clause
range_at vars [] id clause inside at = cc
range_at vars (e ∷ held) id clause inside at =
    elim (e.0 == id) as (λ b. cond b (Some e.1) (clause_at held id) ≡ Some clause → IsInRange vars clause) [
      | true ↦ λ found. (let is : e.1 ≡ clause = cc in subst (λ ls. IsInRange vars ls) is (All-head (λ f. IsInRange vars f.1) e held inside))
      | false ↦ λ found. range_at vars held id clause (All-tail (λ f. IsInRange vars f.1) e held inside) found
    ] at

pub range-with_clause : (vars : ℕ) (held : Held) (id : ℕ) (clause : List Literal) → AreInRange vars held → IsInRange vars clause → AreInRange vars (with_clause held id clause)
range-with_clause vars held id clause inside now = All-push (λ e. IsInRange vars e.1) held (id, clause) inside now

pub range-without : (vars : ℕ) (held : Held) (ids : List ℕ) → AreInRange vars held → AreInRange vars (without held ids)
range-without vars [] ids inside = All-nil (λ e. IsInRange vars e.1)
range-without vars (e ∷ held) ids inside =
    let rest : AreInRange vars (without held ids) = range-without vars held ids (All-tail (λ f. IsInRange vars f.1) e held inside) in
    elim (has_id ids e.0) as (λ b. AreInRange vars (cond (not b) (e ∷ without held ids) (without held ids))) [
      | true ↦ rest
      | false ↦ All-cons (λ f. IsInRange vars f.1) e (without held ids) (All-head (λ f. IsInRange vars f.1) e held inside) rest
    ]
