use Rattle.cert_writer.proofs.writer.CertWriter.content.Goals as goal

pub returns-in-Pair : goal.returns-in-Pair
returns-in-Pair g c = rw c.in-Pair.is c.pair_lines.ensures

pub returns-in-Steps : goal.returns-in-Steps
returns-in-Steps g c = rw c.in-Steps.is c.log_lines.ensures

pub returns-in-Minimal : goal.returns-in-Minimal
returns-in-Minimal g c = rw c.in-Minimal.is c.list_lines.ensures

pub returns-in-Least : goal.returns-in-Least
returns-in-Least g c = rw c.in-Least.is c.least_lines.ensures

pub returns-in-OrgBlocking : goal.returns-in-OrgBlocking
returns-in-OrgBlocking g c = rw c.in-OrgBlocking.is c.group_lines.ensures
