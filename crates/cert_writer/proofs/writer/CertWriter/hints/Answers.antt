use Rattle.std.proofs.Common.{ap}
use Rattle.lrat_text.specs.Left.{spaced}
use Rattle.cert_writer.proofs.WritingLaws.{writes_same}
use Rattle.cert_writer.proofs.StepTexts.{short_hints}
use Rattle.cert_writer.proofs.writer.CertWriter.hints.Goals as goal

pub returns-in-Short : goal.returns-in-Short
returns-in-Short g c = rw c.in-Short.is (writes_same _ _ _ _ _ _ _ _ _ (ap spaced (short_hints c.in-Short.ids.now)) c.integers.ensures)
