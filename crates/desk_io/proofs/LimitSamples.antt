-- The limits as numbers: another number in the code is another promise, and is refused here.
use Rattle.std.proofs.Common.{◌≡◌, refl}
use Rattle.desk_io.specs.declared.names.TheConstants.{PATH}
use Rattle.desk_io.specs.declared.opening.TheConstants.{TRIES}
use Rattle.desk_io.specs.declared.spare.TheConstants.{MOST_KEPT}
use Rattle.desk_io.specs.declared.whole.TheConstants.{PIECE}

tries : TRIES ≡ 1000
tries = refl

most_kept : MOST_KEPT ≡ 1000000
most_kept = refl

path : PATH ≡ 4096
path = refl

piece : PIECE ≡ 16384
piece = refl
