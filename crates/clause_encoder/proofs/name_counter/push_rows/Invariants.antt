use Rattle.std.proofs.Common.{◌≡◌, ◌+◌, ◌++◌}
use Rattle.clause_encoder.specs.NameCounter.{cells_before, rows_of}
use Rattle.clause_encoder.proofs.name_counter.push_rows.Given as goal

abbrev pub invariant-loop-i : goal.invariant-loop-i
invariant-loop-i l = record {
  place : l.above ≡ l.g + cells_before l.i;
  written : l.clauses ≡ l.initial.clauses ++ rows_of l.g l.i;
}
