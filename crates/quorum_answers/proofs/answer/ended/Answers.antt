use Rattle.std.proofs.Common.{rules}
use Rattle.lent_desk.specs.Files.{files_named}
use Rattle.request_reading.specs.Answers.{words_of}
use Rattle.quorum_answers.proofs.Endings.{answers_short}
use Rattle.quorum_answers.proofs.answer.ended.Goals as goal

pub returns-then-first-eq7-clause-answered : goal.returns-then-first-eq7-clause-answered
returns-then-first-eq7-clause-answered c =
    answers_short (words_of c.args.words.now) (files_named c.args.files.config.now c.args.files.orgs.now c.args.files.script.now c.args.files.cert.now)
    c.attempt-first.new.room c.attempt-first.result c.short.result c.attempt-first.ensures.answered (search rules) c.short.ensures
