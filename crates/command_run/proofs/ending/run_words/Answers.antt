use Rattle.std.proofs.Common.{ℕ, List}
use Rattle.request_reading.specs.Answers.{words_of}
use Rattle.command_run.specs.Running.{Runs, RunsOnAny}
use Rattle.command_run.proofs.Ends.{of_held}
use Rattle.command_run.proofs.ending.run_words.Goals as goal

pub returns-in-Ok-clause-told : goal.returns-in-Ok-clause-told
returns-in-Ok-clause-told g c = λ tell.
    let old = g.D.Desk.state c.args.desk.now in
    let new = g.D.Desk.state c.run.new.desk in
    let ran : Runs (words_of c.deref.result.now) old new c.run.result = record {
      answered = c.run.ensures.answered tell;
      headline = c.run.ensures.headline tell;
      too_large = c.run.ensures.too_large tell;
      part = c.run.ensures.part tell;
      silent = c.run.ensures.silent tell;
      untouched = c.run.ensures.untouched tell;
      files = c.run.ensures.files tell;
      unread = c.run.ensures.unread tell;
      plain_read = c.run.ensures.plain_read tell;
    } in
    of_held c.args.words.now c.in-Ok.words c.deref.result.now (λ (w : List (List ℕ)). Runs w old new c.run.result) c.in-Ok.is c.deref.ensures.value ran

pub returns-in-Ok-clause-any : goal.returns-in-Ok-clause-any
returns-in-Ok-clause-any g c =
    let old = g.D.Desk.faults c.args.desk.now in
    let new = g.D.Desk.faults c.run.new.desk in
    let ran : RunsOnAny (words_of c.deref.result.now) old new c.run.result = record {
      refused = c.run.ensures.refused;
      taken = c.run.ensures.taken;
      read_faults = c.run.ensures.read_faults;
      write_faults = c.run.ensures.write_faults;
      complete = c.run.ensures.complete;
    } in
    of_held c.args.words.now c.in-Ok.words c.deref.result.now (λ (w : List (List ℕ)). RunsOnAny w old new c.run.result) c.in-Ok.is c.deref.ensures.value ran
