use Rattle.std.proofs.Common.{Err, Some, sym, ◌∙◌, ap}
use Rattle.desk_io.specs.State.{left_of}
use Rattle.request_reading.proofs.Readings.{file_read, file_refused}
use Rattle.request_reading.proofs.files.read_within.Goals as goal

pub returns-in-Ok-read_all-clause-ok : goal.returns-in-Ok-read_all-clause-ok
returns-in-Ok-read_all-clause-ok g c = λ tells. file_read c.args.limit.most _ _ c.in-Ok-read_all.bytes.items ((c.in-Ok.ensures.begun tells).file ∙ ap Some (sym (c.in-Ok-read_all.ensures.all tells))) c.in-Ok-read_all.ensures.fits

pub returns-in_ok-says-in-Err-Longer-clause-err : goal.returns-in_ok-says-in-Err-Longer-clause-err
returns-in_ok-says-in-Err-Longer-clause-err g c = λ tells. file_refused c.args.limit.most _ _ (left_of c.args.which (g.D.Desk.state c.begin.new.self)) c.in_ok-says-in-Err-Longer.field-0 (c.in-Ok.ensures.begun tells).file (c.in-Err-Longer.ensures.longer (ap Err c.in-Err-Longer.field-0-is) tells) c.in_ok-says-in-Err-Longer.ensures
