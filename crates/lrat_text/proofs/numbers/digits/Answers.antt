use Rattle.std.proofs.Common.{refl, get_or}
use Rattle.lrat_text.proofs.DigitSums.{too_great}
use Rattle.lrat_text.proofs.numbers.digits.Goals as goal

pub returns-then-number-gt-MOST_TENTH-clause-value : goal.returns-then-number-gt-MOST_TENTH-clause-value
returns-then-number-gt-MOST_TENTH-clause-value c =
    let i = c.loop-byte.byte-index in
    let word = c.args.word.now in
    too_great word i (get_or word i 0) c.loop-byte-test.true refl c.args.most c.loop-byte.number c.requires c.if-number-gt-MOST_TENTH.true c.loop-byte.invariant.value
