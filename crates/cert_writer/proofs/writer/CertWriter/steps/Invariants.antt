use Rattle.std.proofs.Common.{map, take}
use Rattle.lrat_text.specs.Texts.{line_of}
use Rattle.cert_writer.specs.Texts.{joined}
use Rattle.cert_writer.specs.Writing.{Writes}
use Rattle.cert_writer.proofs.writer.CertWriter.steps.Given as goal

abbrev pub invariant-loop-place : goal.invariant-loop-place
invariant-loop-place g l = Writes g.D.Desk.tells (joined (map line_of (take l.place l.log))) l.fn.self (g.D.Desk.state l.fn.desk) (g.D.Desk.faults l.fn.desk) l.self (g.D.Desk.state l.desk) (g.D.Desk.faults l.desk)
