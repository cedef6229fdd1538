-- A number of a JSON text: one that has a minus is no whole number, and one is in range where its nearest float is finite.
use Rattle.std.proofs.Common.{◌≡◌, ◌^◌, ◌&&◌, Bool, true, false, ℤ, Float, Some, None, is_some, option_and_then, if◌then◌else◌, nat_lt, nat_le, refl}
use Rattle.std.specs.Float.{binary64, float_is_finite}
use Rattle.fast_float.specs.Text.{Parts, digits_of, nearest, with_sign}
use Rattle.serde_json.specs.Data.{Num, negative, float}
use Rattle.serde_json.specs.Find.{as_u64}
use Rattle.serde_json.specs.Read.{is_integer, float_of, number_from}

by_tests : (a b : Bool) (z : ℤ) (x : Float) → option_and_then as_u64 (if a then Some (negative z) else (if b then Some (float x) else None)) ≡ None
by_tests true b z x = refl
by_tests false true z x = refl
by_tests false false z x = refl

pub no_whole-negative : (p : Parts) → option_and_then as_u64 (number_from true p) ≡ None
no_whole-negative p = by_tests (is_integer p && nat_lt 0 (digits_of p) && nat_le (digits_of p) (2 ^ 63)) (float_is_finite (nearest binary64 true p)) (with_sign true (digits_of p)) (nearest binary64 true p)

given : (b : Bool) (n : Num) → b ≡ is_some (if b then Some n else None)
given true n = refl
given false n = refl

pub in_range-float : (sign : Bool) (p : Parts) → float_is_finite (nearest binary64 sign p) ≡ is_some (float_of sign p)
in_range-float sign p = given (float_is_finite (nearest binary64 sign p)) (float (nearest binary64 sign p))
