use Rattle.std.proofs.lemmas.Result.{IfOk-weaker, on_ok_weaker}
use Rattle.std.proofs.Common.{arith}
use Rattle.quorum_questions.specs.Evidence.{Shows}
use Rattle.command_run.specs.Sought.{request}
use Rattle.command_run.proofs.Over.{asked_there}
use Rattle.command_run.proofs.commands.ask.Goals as goal

pub returns-clause-found : goal.returns-clause-found
returns-clause-found c = IfOk-weaker c.intersect.result _ _ (λ a shows.
    let s = c.args.over.now.search.now in
    let fits = c.requires.fits in
    let there = asked_there c.args.over.now (λ f b. Shows f.sets b s.budget a) c.requires shows in
    (there, (c.what_is_shown_is_found.ensures.found (request s) a c.len.ensures.system c.len.ensures.sorted fits.long fits.bytes fits.header fits.few there).accepted)) c.intersect.ensures.shows

pub returns-clause-small : goal.returns-clause-small
returns-clause-small c = on_ok_weaker c.intersect.result (λ low n many. let high = many.1 in let same = many.0 in omega arith) c.intersect.ensures.small
