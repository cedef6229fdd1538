-- The limits as numbers: another number in the code is another promise, and is refused here.
use Rattle.std.proofs.Common.{◌≡◌, refl}
use Rattle.cert_lines.specs.declared.lines.TheConstants.{MAX_LINES, MAX_LINE_BYTES}
use Rattle.cert_lines.specs.declared.pieces.TheConstants.{PIECE}

lines : MAX_LINES ≡ 17179869184
lines = refl

line_bytes : MAX_LINE_BYTES ≡ 134217728
line_bytes = refl

piece : PIECE ≡ 65536
piece = refl
