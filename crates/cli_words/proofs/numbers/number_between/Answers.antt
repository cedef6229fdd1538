use Rattle.std.proofs.Common.{sym, ap, ◌∙◌}
use Rattle.cli_words.specs.Numbers.{is_number}
use Rattle.cli_words.proofs.Digits.{parsed_none}
use Rattle.cli_words.proofs.numbers.number_between.Goals as goal

pub returns-in_default-3-clause-value : goal.returns-in_default-3-clause-value
returns-in_default-3-clause-value c = sym (parsed_none c.args.least c.args.most c.args.text.now c.parse.result c.in_default.field-0 (c.ranges.most.fits) (ap is_number (sym c.as_bytes.ensures.value) ∙ sym c.if-not-is_number.ensures) c.parse.ensures.value.0 c.in_default.is)
