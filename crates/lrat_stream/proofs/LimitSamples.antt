-- The limits as numbers: another number in the code is another promise, and is refused here.
use Rattle.std.proofs.Common.{◌≡◌, refl}
use Rattle.lrat_stream.specs.declared.words.TheConstants.{MOST_HINTS}
use Rattle.lrat_stream.specs.declared.spelled.TheConstants.{MOST_TENTH}

most_hints : MOST_HINTS ≡ 1000000000000
most_hints = refl

tenth : MOST_TENTH ≡ 100000000000000000
tenth = refl
