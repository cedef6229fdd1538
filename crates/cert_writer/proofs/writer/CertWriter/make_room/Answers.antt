use Rattle.cert_writer.proofs.writer.CertWriter.make_room.Goals as goal

pub returns-then-self-eq-BUFFER-clause-writes : goal.returns-then-self-eq-BUFFER-clause-writes
returns-then-self-eq-BUFFER-clause-writes g c = c.flush.ensures.writes
