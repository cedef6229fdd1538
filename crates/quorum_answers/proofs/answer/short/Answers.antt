use Rattle.std.proofs.Common.{refl}
use Rattle.lent_desk.specs.Files.{files_named}
use Rattle.lent_desk.specs.EndlessDesk.{state_of}
use Rattle.request_reading.specs.Answers.{words_of}
use Rattle.command_run.specs.Running.{Runs}
use Rattle.quorum_answers.proofs.Endings.{ends_short}
use Rattle.quorum_answers.proofs.answer.short.Goals as goal

pub returns : goal.returns
returns c =
    let ran = c.run-status.ensures in
    let before = c.new-desk.result in
    let after = c.run-status.new.desk in
    let runs : Runs (words_of c.args.words.now) (state_of before) (state_of after) c.run-status.result = record {
      answered = ran.answered refl;
      headline = ran.headline refl;
      too_large = ran.too_large refl;
      part = ran.part refl;
      silent = ran.silent refl;
      untouched = ran.untouched refl;
      files = ran.files refl;
      unread = ran.unread refl;
      plain_read = ran.plain_read refl;
    } in
    ends_short (words_of c.args.words.now) (files_named c.args.files.config.now c.args.files.orgs.now c.args.files.script.now c.args.files.cert.now)
    c.args.room (state_of before) (state_of after) c.run-status.result c.wanting-total.result c.measured.result c.new-desk.ensures.state runs
    c.wanting-total.ensures.value c.wanting-total.ensures.within c.measured.ensures.nothing c.measured.ensures.status c.measured.ensures.memory
    c.measured.ensures.more c.measured.ensures.answer c.measured.ensures.fault c.measured.ensures.never
