use Rattle.std.proofs.Common.{map, take}
use Rattle.lrat_text.specs.Left.{spaced}
use Rattle.cert_writer.specs.Writing.{Writes}
use Rattle.cert_writer.proofs.writer.CertWriter.integers.Given as goal

abbrev pub invariant-loop-number : goal.invariant-loop-number
invariant-loop-number g l = Writes g.D.Desk.tells (spaced (map g.I.Integer.text (take l.number-index l.numbers))) l.fn.self (g.D.Desk.state l.fn.desk) (g.D.Desk.faults l.fn.desk) l.self (g.D.Desk.state l.desk) (g.D.Desk.faults l.desk)
