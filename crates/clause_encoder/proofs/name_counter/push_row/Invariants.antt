use Rattle.std.proofs.Common.{◌≡◌, ℕ, ◌+◌, ◌++◌}
use Rattle.clause_encoder.specs.NameCounter.{cells_before, row_of}
use Rattle.clause_encoder.proofs.name_counter.push_row.Given as goal

abbrev pub invariant-loop-j : goal.invariant-loop-j
invariant-loop-j l = (g : ℕ) → l.above ≡ g + cells_before l.i → l.clauses ≡ l.initial.clauses ++ row_of g l.i l.j
