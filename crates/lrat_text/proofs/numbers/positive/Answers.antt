use Rattle.std.proofs.Common.{rules}
use Rattle.lrat_text.proofs.DigitSums.{some_positive}
use Rattle.lrat_text.proofs.numbers.positive.Goals as goal

pub returns-in-Some-clause-range : goal.returns-in-Some-clause-range
returns-in-Some-clause-range c = some_positive c.args.most c.args.word.now c.digits.result (search rules) c.digits.ensures.value c.digits.ensures.range
