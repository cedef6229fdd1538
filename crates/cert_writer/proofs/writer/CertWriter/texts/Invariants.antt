use Rattle.std.proofs.Common.{◌≡◌, ◌++◌}
use Rattle.fbas_model.specs.Nodes.{listed_from}
use Rattle.lrat_text.specs.Left.{spaced}
use Rattle.node_json.specs.Groups.{texts_of}
use Rattle.cert_writer.specs.Writing.{Writes}
use Rattle.cert_writer.proofs.TextSteps.{names_at}
use Rattle.cert_writer.proofs.writer.CertWriter.texts.Given as goal

abbrev pub invariant-loop-at : goal.invariant-loop-at
invariant-loop-at g l = (l.yielded ++ l.at-iterator ≡ listed_from 0 l.set) × Writes g.D.Desk.tells (spaced (names_at (texts_of l.groups) l.yielded)) l.fn.self (g.D.Desk.state l.fn.desk) (g.D.Desk.faults l.fn.desk) l.self (g.D.Desk.state l.desk) (g.D.Desk.faults l.desk)
