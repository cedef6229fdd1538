-- The buffer as a number: another size in the code is another promise, and is refused here.
use Rattle.std.proofs.Common.{◌≡◌, refl}
use Rattle.cert_writer.specs.declared.writer.TheConstants.{BUFFER}

buffer : BUFFER ≡ 65536
buffer = refl
