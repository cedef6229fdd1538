-- The limits as numbers: another number in the code is another promise, and is refused here.
use Rattle.std.proofs.Common.{◌≡◌, refl}
use Rattle.whatif_session.specs.declared.numbers.TheConstants.{MOST_THRESHOLD, MOST_PLACE}

threshold : MOST_THRESHOLD ≡ 18446744073709551615
threshold = refl

place : MOST_PLACE ≡ 4294967295
place = refl
