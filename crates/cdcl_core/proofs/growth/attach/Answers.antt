use Rattle.cdcl_core.proofs.Grows.{watched_with, watched_without}
use Rattle.cdcl_core.proofs.growth.attach.Goals as goal

pub returns-clause-watched : goal.returns-clause-watched
returns-clause-watched c = λ held id long has_first has_second alike w l.
    let pairs = c.args.pairs.now.items in
    let lists = c.args.lists.now in
    let made = watched_with held pairs id c.args.lits.now c.args.pair (w l).long lists c.third_of.result c.third_of-2.result (c.third_of.ensures has_first has_second) (c.third_of-2.ensures has_second has_first) has_first has_second c.requires.inside_first c.requires.inside_second w l in
    rw (c.in_ok-push.ensures.items, c.in_ok-push-3.ensures, c.in_ok-push-2.ensures, ← long) made

pub returns-then-is_counted-clause-watched : goal.returns-then-is_counted-clause-watched
returns-then-is_counted-clause-watched c = λ held id long has_first has_second alike w l.
    rw c.in_ok-push.ensures.items (watched_without held c.args.pairs.now.items id c.args.lits.now c.args.pair (w l).long c.args.lists.now (alike c.if-is_counted.true) has_first has_second w l)
