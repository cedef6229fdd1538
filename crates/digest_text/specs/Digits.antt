-- What digits say.
use Rattle.std.specs.Prelude.{ℕ, List, Option, Some, None, Result, Ok, Err, if◌then◌else◌}
use Rattle.std.specs.Str.{bytes_eq}
use Rattle.hex.specs.Hex.{decode_sized, encode_lower}
use Rattle.hex.specs.declared.error.FromHexError.{FromHexError}

abbrev pub digest_if : List ℕ → Result (List ℕ) FromHexError → Option (List ℕ)
digest_if digits (Ok d) = if bytes_eq (encode_lower d) digits then Some d else None
digest_if digits (Err e) = None

-- the digest of 32 bytes that 64 digits with lower-case letters say
abbrev pub digest_of : List ℕ → Option (List ℕ)
digest_of digits = digest_if digits (decode_sized digits 32)
