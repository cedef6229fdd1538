use Rattle.std.proofs.Common.{rules, refl}
use Rattle.lent_desk.specs.Files.{files_named}
use Rattle.lent_desk.specs.LentDesk.{state_of, said_in}
use Rattle.request_reading.specs.Answers.{words_of}
use Rattle.command_run.specs.Running.{Runs}
use Rattle.quorum_answers.proofs.Endings.{attempted_as}
use Rattle.quorum_answers.proofs.answer.attempt.Goals as goal

pub returns-clause-answered : goal.returns-clause-answered
returns-clause-answered c =
    let ran = c.run-status.ensures in
    let before = c.new-desk.result in
    let after = c.run-status.new.desk in
    let end = c.close.new.desk in
    let runs : Runs (words_of c.args.words.now) (state_of before) (state_of after) c.run-status.result = record {
      answered = ran.answered refl;
      headline = ran.headline refl;
      too_large = ran.too_large refl;
      part = ran.part refl;
      silent = ran.silent refl;
      untouched = ran.untouched refl;
      files = ran.files refl;
      unread = ran.unread refl;
      plain_read = ran.plain_read refl;
    } in
    attempted_as (words_of c.args.words.now) (files_named c.args.files.config.now c.args.files.orgs.now c.args.files.script.now c.args.files.cert.now)
    _ after.room.ghost_name end.room.ghost_name c.args.room.now _ after.room.now end.room.now (said_in after)
    (state_of before) (state_of after) c.run-status.result c.close.result c.new-desk.ensures.state runs refl c.close.ensures.same_room
    (search rules) (search rules) c.close.ensures.len c.close.ensures.status c.close.ensures.holds
    c.close.ensures.within c.close.ensures.nothing c.close.ensures.wanting
