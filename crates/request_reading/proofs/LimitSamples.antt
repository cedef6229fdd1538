-- The limits as numbers: another number in the code is another promise, and is refused here.
use Rattle.std.proofs.Common.{◌≡◌, refl}
use Rattle.request_reading.specs.declared.files.TheConstants.{MAX_FILE, MAX_SCRIPT}

file : MAX_FILE ≡ 16777216
file = refl

script : MAX_SCRIPT ≡ 1048576
script = refl
