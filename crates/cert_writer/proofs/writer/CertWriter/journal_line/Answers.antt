use Rattle.cert_writer.proofs.writer.CertWriter.journal_line.Goals as goal

pub returns-in-Quorum : goal.returns-in-Quorum
returns-in-Quorum g c = rw c.in-Quorum.is c.set_line.ensures

pub returns-in-Blocking : goal.returns-in-Blocking
returns-in-Blocking g c = rw c.in-Blocking.is c.set_line-in-Blocking.ensures

pub returns-in-Smaller : goal.returns-in-Smaller
returns-in-Smaller g c = rw c.in-Smaller.is c.set_line-in-Smaller.ensures
