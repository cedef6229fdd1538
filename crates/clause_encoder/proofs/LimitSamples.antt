-- The limits as numbers: another number in the code is another promise, and is refused here.
use Rattle.std.proofs.Common.{◌≡◌, refl}
use Rattle.clause_encoder.specs.declared.limits.TheConstants.{MOST_VARS, MOST_CLAUSES}

vars : MOST_VARS ≡ 4000000
vars = refl

clauses : MOST_CLAUSES ≡ 4611686018427387904
clauses = refl
