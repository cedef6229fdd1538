-- How often a literal stands in the clauses that RAT hints name.
use Rattle.std.specs.Prelude.{◌≡◌, ℕ, ◌≤◌, true, List}
use Rattle.lrat_model.specs.Literal.{Literal}
use Rattle.lrat_model.specs.Clauses.{Held, has_id}
use Rattle.rat_candidates.specs.Occurrences.{occurrences_in}
use Rattle.rat_candidates.specs.declared.hints.Named.{Named}

-- none of the ids is higher, and the literal stands in their clauses at least so often
pub record AreNamed (held : Held) (l : Literal) (ids : List ℕ) (named : Named) : Type 0 where
  pub below : (k : ℕ) → has_id ids k ≡ true → k ≤ named.highest
  pub count : named.count ≤ occurrences_in l ids held
