use Rattle.std.proofs.Common.{◌≡◌, ◌<◌, ◌≤◌, ◌-◌, length, take, get_or, true}
use Rattle.std.specs.List.{list_all}
use Rattle.std.specs.Char.{is_ascii_digit}
use Rattle.std.specs.Str.Parse.{digits_value}
use Rattle.lrat_stream.proofs.spelled.front_digits.Given as goal

abbrev pub invariant-loop-len : goal.invariant-loop-len
invariant-loop-len l = record {
  some : 0 < l.len;
  within : l.len ≤ length l.text;
  first : 48 < get_or l.text 0 0;
  digits : list_all is_ascii_digit (take l.len l.text) ≡ true;
  value : digits_value 10 (take l.len l.text) ≡ l.number;
  small : l.number ≤ 1000000000000000009;
}

abbrev pub decreases-loop-len : goal.decreases-loop-len
decreases-loop-len l = length l.text - l.len
