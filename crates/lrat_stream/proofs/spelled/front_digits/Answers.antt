use Rattle.std.proofs.Common.{◌≡◌, ℕ, ◌+◌, ◌*◌, get_or, true, refl, sym, ap, ◌∙◌, arith, rules}
use Rattle.std.specs.Char.{is_ascii_digit}
use Rattle.lrat_text.proofs.DigitSums.{digit_is}
use Rattle.lrat_stream.proofs.SpelledLaws.{digits_more, value_more, front_of_digits}
use Rattle.lrat_stream.proofs.spelled.front_digits.Goals as goal

pub returns-then-is_blank-clause-front : goal.returns-then-is_blank-clause-front
returns-then-is_blank-clause-front c =
    let inv = c.loop-len.invariant in
    front_of_digits c.args.text.now c.loop-len.number c.loop-len.len inv.some inv.within inv.first inv.digits inv.value (omega (arith, inv.small)) (λ _. sym c.is_blank.ensures ∙ c.if-is_blank.true)

pub loop-len-preserved : goal.loop-len-preserved
loop-len-preserved c =
    let inv = c.loop-len.invariant in
    let text = c.args.text.now in
    let byte : ℕ = get_or text c.loop-len.len 0 in
    let is : is_ascii_digit byte ≡ true = search rules in
    let digit = digit_is byte is in
    record {
      some = omega arith;
      within = omega (arith, c.loop-len-test.true);
      first = inv.first;
      digits = digits_more text c.loop-len.len byte c.loop-len-test.true refl is inv.digits;
      value = value_more text c.loop-len.len byte c.loop-len.number c.loop-len-test.true refl is inv.value ∙ ap (λ v. c.loop-len.number * 10 + v) (sym c.from.ensures);
      small = omega (arith, c.if-number-gt-MOST_TENTH.false, c.from.ensures, digit.1);
    }

pub returns-clause-front : goal.returns-clause-front
returns-clause-front c =
    let inv = c.loop-len.invariant in
    front_of_digits c.args.text.now c.loop-len.number c.loop-len.len inv.some inv.within inv.first inv.digits inv.value (omega (arith, inv.small)) (λ less. absurd (omega (arith, less, c.loop-len-test.false)))
