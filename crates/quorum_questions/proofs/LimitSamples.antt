-- The limit as a number: another number in the code is another promise, and is refused here.
use Rattle.std.proofs.Common.{◌≡◌, refl}
use Rattle.quorum_questions.specs.declared.asking.TheConstants.{MOST_UNITS}

units : MOST_UNITS ≡ 4000000000
units = refl
