use Rattle.std.proofs.Common.{◌<◌, rules}
use Rattle.counter_expansion.proofs.Choosing.{held_new, held_still}
use Rattle.counter_expansion.proofs.choices.push_choice.Goals as goal

pub returns-clause-needless : goal.returns-clause-needless
returns-clause-needless c =
    let above : c.args.written.now.last < c.in-Some.id = search rules in
    held_new c.args.written.now.held c.push.new.self.held c.in-Some.id c.args.clause.now (c.last.ensures.none_above c.in-Some.id above) c.in_ok-push.ensures.held

pub returns-clause-kept : goal.returns-clause-kept
returns-clause-kept c = λ before at. held_still c.args.written.now.held c.push.new.self.held c.in-Some.id c.args.clause.now before c.in_ok-push.ensures.held at
