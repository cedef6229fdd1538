-- The limits as numbers: another number in the code is another promise, and is refused here.
use Rattle.std.proofs.Common.{◌≡◌, refl}
use Rattle.cdcl_core.specs.declared.memory.TheConstants.{FEWEST_DELETED, MOST_DELETED, FEWEST_LIVE, MOST_LIVE}

fewest_deleted : FEWEST_DELETED ≡ 500
fewest_deleted = refl

most_deleted : MOST_DELETED ≡ 1000
most_deleted = refl

fewest_live : FEWEST_LIVE ≡ 2000
fewest_live = refl

most_live : MOST_LIVE ≡ 8000
most_live = refl
