use Rattle.std.proofs.Common.{ap, ◌∙◌}
use Rattle.whatif_session.specs.EditView.{texts}
use Rattle.whatif_session.proofs.LineLaws.{edit_read, edit_ok, edit_err, edit_has_keys}
use Rattle.whatif_session.proofs.lines.read_edit.Goals as goal

pub returns-clause-ok : goal.returns-clause-ok
returns-clause-ok c =
    let line = c.args.line.now in
    let read = edit_read line (texts c.deref.result.now) c.in_ok-edit.edit (ap texts c.deref.ensures.value ∙ c.in_ok-words.ensures) c.in_ok-edit.ensures in
    rw c.ok_or.ensures.value (edit_ok line c.in_ok-edit.edit read)

pub returns-clause-err : goal.returns-clause-err
returns-clause-err c =
    let line = c.args.line.now in
    let read = edit_read line (texts c.deref.result.now) c.in_ok-edit.edit (ap texts c.deref.ensures.value ∙ c.in_ok-words.ensures) c.in_ok-edit.ensures in
    rw c.ok_or.ensures.value (edit_err line c.in_ok-edit.edit read)

pub returns-clause-keys : goal.returns-clause-keys
returns-clause-keys c =
    let line = c.args.line.now in
    let read = edit_read line (texts c.deref.result.now) c.in_ok-edit.edit (ap texts c.deref.ensures.value ∙ c.in_ok-words.ensures) c.in_ok-edit.ensures in
    rw c.ok_or.ensures.value (edit_has_keys line c.in_ok-edit.edit read)
