use Rattle.std.proofs.Common.{◌≡◌, Result, Ok, Err, IfErr, sym, ◌∙◌, subst}
use Rattle.request_reading.specs.Answers.{words_of, asked_of}
use Rattle.cli_words.specs.Words.{order_of}
use Rattle.request_reading.specs.Reading.{FailsReading, IsRefusal}
use Rattle.command_run.specs.Printing.{PrintsAnswer, PrintsAsked}
use Rattle.request_reading.specs.declared.early.Early.{Early}
use Rattle.request_reading.specs.declared.early.Early.TheVariants.{Refused}
use Rattle.request_reading.specs.declared.reading.Asked.{Asked}
use Rattle.command_run.proofs.After.{prints_ok, prints_refused, part_ok, files_ok}
use Rattle.command_run.proofs.Checks.{said_yes, refused_yes}
use Rattle.command_run.proofs.Headlines.{headline_of}
use Rattle.command_run.proofs.Large.{too_large_of}
use Rattle.request_reading.specs.Meaning.{WordsMean}
use Rattle.request_reading.proofs.Meanings.{check_checks, check_lrat_checks, accepted_by, verified_by}
use Rattle.command_run.proofs.run.Goals as goal

pub returns-in-Ok-clause-answered : goal.returns-in-Ok-clause-answered
returns-in-Ok-clause-answered g c = λ tell is.
    prints_ok _ c.in-Ok.asked (g.D.Desk.state c.args.desk.now) (g.D.Desk.state c.ask_by_words.new.desk) (g.D.Desk.state c.answer.new.desk) _ (c.in-Ok.ensures.gives tell) (c.in-Ok.ensures.reads tell) (c.answer.ensures.answered tell is)

pub returns-in-Ok-clause-headline : goal.returns-in-Ok-clause-headline
returns-in-Ok-clause-headline g c = λ tell is.
    let words = words_of c.args.words.now in
    let old = g.D.Desk.state c.args.desk.now in
    let middle = g.D.Desk.state c.ask_by_words.new.desk in
    let new = g.D.Desk.state c.answer.new.desk in
    let printed : PrintsAsked c.in-Ok.asked middle new c.answer.result = c.answer.ensures.answered tell is in
    headline_of words old new c.answer.result (subst (λ (r : Result Asked Early). IfErr r IsRefusal) (sym (c.in-Ok.ensures.gives tell)) tt) (prints_ok _ c.in-Ok.asked old middle new c.answer.result (c.in-Ok.ensures.gives tell) (c.in-Ok.ensures.reads tell) printed)
    (λ check yes. accepted_by words old.files check (said_yes (WordsMean words old.files) c.in-Ok.asked middle new c.answer.result (c.in-Ok.ensures.shows (check_checks (order_of words) check) tell) printed yes))
    (λ check yes. verified_by words old.files check (said_yes (WordsMean words old.files) c.in-Ok.asked middle new c.answer.result (c.in-Ok.ensures.shows (check_lrat_checks (order_of words) check) tell) printed yes))

pub returns-in-Err-Refused-clause-headline : goal.returns-in-Err-Refused-clause-headline
returns-in-Err-Refused-clause-headline g c = λ tell is.
    let old = g.D.Desk.state c.args.desk.now in
    let new = g.D.Desk.state c.print.new.desk in
    let words = words_of c.args.words.now in
    let asked : Result Asked Early = asked_of words old.files in
    let middle = g.D.Desk.state c.ask_by_words.new.desk in
    let printed : PrintsAnswer c.in-Err-Refused.reply middle new c.print.result = rw c.in-Err-Refused.field-0-is at (c.print.ensures.printed tell is) in
    let gives = subst (λ (e : Early). FailsReading old.plain e asked) c.in-Err-Refused.field-0-is (c.in-Err-Refused.ensures.gives tell) in
    let refused : IsRefusal (Refused c.in-Err-Refused.reply) = subst IsRefusal c.in-Err-Refused.field-0-is c.in-Err-Refused.ensures.refused in
    headline_of words old new c.print.result (subst (λ (r : Result Asked Early). IfErr r IsRefusal) (sym gives) refused) (prints_refused asked c.in-Err-Refused.reply old middle new c.print.result gives (c.in-Err-Refused.ensures.reads tell) printed)
    (λ check yes. absurd (refused_yes c.in-Err-Refused.reply.status refused (sym printed.status_is ∙ yes)))
    (λ check yes. absurd (refused_yes c.in-Err-Refused.reply.status refused (sym printed.status_is ∙ yes)))

pub returns-in-Ok-clause-too_large : goal.returns-in-Ok-clause-too_large
returns-in-Ok-clause-too_large g c = λ tell is.
    let old = g.D.Desk.state c.args.desk.now in
    let new = g.D.Desk.state c.answer.new.desk in
    let asked : Result Asked Early = asked_of (words_of c.args.words.now) old.files in
    let gives : asked ≡ Ok c.in-Ok.asked = c.in-Ok.ensures.gives tell in
    too_large_of asked old new c.answer.result (subst (λ (r : Result Asked Early). IfErr r IsRefusal) (sym gives) tt) (prints_ok asked c.in-Ok.asked old (g.D.Desk.state c.ask_by_words.new.desk) new c.answer.result gives (c.in-Ok.ensures.reads tell) (c.answer.ensures.answered tell is))

pub returns-in-Err-Refused-clause-too_large : goal.returns-in-Err-Refused-clause-too_large
returns-in-Err-Refused-clause-too_large g c = λ tell is.
    let old = g.D.Desk.state c.args.desk.now in
    let new = g.D.Desk.state c.print.new.desk in
    let middle = g.D.Desk.state c.ask_by_words.new.desk in
    let asked : Result Asked Early = asked_of (words_of c.args.words.now) old.files in
    let printed : PrintsAnswer c.in-Err-Refused.reply middle new c.print.result = rw c.in-Err-Refused.field-0-is at (c.print.ensures.printed tell is) in
    let gives : asked ≡ Err (Refused c.in-Err-Refused.reply) = subst (λ (e : Early). FailsReading old.plain e asked) c.in-Err-Refused.field-0-is (c.in-Err-Refused.ensures.gives tell) in
    let refused : IsRefusal (Refused c.in-Err-Refused.reply) = subst IsRefusal c.in-Err-Refused.field-0-is c.in-Err-Refused.ensures.refused in
    too_large_of asked old new c.print.result (subst (λ (r : Result Asked Early). IfErr r IsRefusal) (sym gives) refused) (prints_refused asked c.in-Err-Refused.reply old middle new c.print.result gives (c.in-Err-Refused.ensures.reads tell) printed)

pub returns-in-Ok-clause-part : goal.returns-in-Ok-clause-part
returns-in-Ok-clause-part g c = λ tell failed.
    part_ok _ c.in-Ok.asked (g.D.Desk.state c.args.desk.now) (g.D.Desk.state c.ask_by_words.new.desk) (g.D.Desk.state c.answer.new.desk) (c.in-Ok.ensures.gives tell) (c.in-Ok.ensures.reads tell) (c.answer.ensures.part tell failed)

pub returns-in-Ok-clause-files : goal.returns-in-Ok-clause-files
returns-in-Ok-clause-files g c = λ tell path other.
    files_ok _ c.in-Ok.asked (g.D.Desk.state c.args.desk.now) (g.D.Desk.state c.ask_by_words.new.desk) (g.D.Desk.state c.answer.new.desk) c.answer.result path (c.in-Ok.ensures.gives tell) (c.in-Ok.ensures.reads tell) other (record {
      answered = c.answer.ensures.answered tell;
      part = c.answer.ensures.part tell;
      silent = c.answer.ensures.silent tell;
      ends = c.answer.ensures.ends;
    })
