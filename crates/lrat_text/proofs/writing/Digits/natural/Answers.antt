use Rattle.std.proofs.Common.{rules, arith}
use Rattle.std.proofs.lemmas.List.{append-nil}
use Rattle.std.proofs.lemmas.Fmt.{length-decimal-le}
use Rattle.lrat_text.proofs.writing.Digits.natural.Goals as goal

pub write_digits-at-requires : goal.write_digits-at-requires
write_digits-at-requires c = search (rules, length-decimal-le 21)

pub returns-clause-short : goal.returns-clause-short
returns-clause-short c = rw (c.write_digits-at.ensures.written, append-nil) (length-decimal-le 20 c.args.number (omega arith) (omega (arith, c.ranges.number.fits)) c.ranges.number.fits)
