use Rattle.desk_io.specs.State.{left_of}
use Rattle.desk_io.specs.declared.desk.Which.TheVariants.{Cert}
use Rattle.std.proofs.lemmas.Result.{IfOk-weaker}
use Rattle.request_reading.proofs.checking.check_file.Goals as goal

pub returns-clause-shows : goal.returns-clause-shows
returns-clause-shows g c = IfOk-weaker c.check_begun.result _ _ (λ reply shows tells yes. record { bytes = left_of Cert (g.D.Desk.state c.begin.new.self); held = (c.in-Ok.ensures.begun tells).file; means = shows tells yes }) c.check_begun.ensures.shows
