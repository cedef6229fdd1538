use Rattle.std.proofs.Common.{ℕ, List}
use Rattle.command_run.specs.Running.{Runs, RunsOnAny}
use Rattle.command_run.specs.Ending.{words_given}
use Rattle.command_run.proofs.Ends.{ends, wanting, wanting_on_any}
use Rattle.command_run.proofs.ending.end.Goals as goal

pub returns-clause-told : goal.returns-clause-told
returns-clause-told g c = λ tell.
    let old = g.D.Desk.state c.args.desk in
    let new = g.D.Desk.state c.run_words-status.new.desk in
    let status = c.run_words-status.result in
    ends (words_given c.args.args) c.words-words.result (λ (w : List (List ℕ)). Runs w old new status) c.words-words.ensures.given (c.run_words-status.ensures.told tell)
    (λ err w. wanting w old new status (c.run_words-status.ensures.memory err) (c.run_words-status.ensures.untouched err tell))

pub returns-clause-any : goal.returns-clause-any
returns-clause-any g c =
    let old = g.D.Desk.faults c.args.desk in
    let new = g.D.Desk.faults c.run_words-status.new.desk in
    let status = c.run_words-status.result in
    ends (words_given c.args.args) c.words-words.result (λ (w : List (List ℕ)). RunsOnAny w old new status) c.words-words.ensures.given c.run_words-status.ensures.any
    (λ err w. wanting_on_any w old new status (c.run_words-status.ensures.memory err) (c.run_words-status.ensures.uncounted err))
