use Rattle.std.proofs.Common.{◌<◌, rules}
use Rattle.counter_expansion.proofs.Choosing.{held_still}
use Rattle.counter_expansion.proofs.WrittenLaws.{held_there}
use Rattle.counter_expansion.proofs.writing.push_next.Goals as goal

pub returns-clause-held : goal.returns-clause-held
returns-clause-held c =
    let above : c.args.store.now.last < c.in-Some.id = search rules in
    held_there c.args.store.now.held c.push.new.self.held c.in-Some.id c.args.clause.now (c.last.ensures.none_above c.in-Some.id above) c.in_ok-push.ensures.held

pub returns-clause-kept : goal.returns-clause-kept
returns-clause-kept c = λ before at. held_still c.args.store.now.held c.push.new.self.held c.in-Some.id c.args.clause.now before c.in_ok-push.ensures.held at
