use Rattle.std.proofs.Common.{map, take}
use Rattle.lrat_text.specs.Left.{spaced}
use Rattle.lrat_text.specs.Texts.{literal_text}
use Rattle.cert_writer.specs.Writing.{Writes}
use Rattle.cert_writer.proofs.writer.CertWriter.literals.Given as goal

abbrev pub invariant-loop-l : goal.invariant-loop-l
invariant-loop-l g l = Writes g.D.Desk.tells (spaced (map literal_text (take l.l-index l.lits))) l.fn.self (g.D.Desk.state l.fn.desk) (g.D.Desk.faults l.fn.desk) l.self (g.D.Desk.state l.desk) (g.D.Desk.faults l.desk)
