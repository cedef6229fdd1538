use Rattle.std.proofs.Common.{sym}
use Rattle.lrat_checker.proofs.RangeLaws.{range_at}
use Rattle.lrat_checker.proofs.rat.open_group.Goals as goal

pub make_false-requires : goal.make_false-requires
make_false-requires c = range_at c.args.assignment.now.vars c.args.store.now.held c.args.id c.in-Some.clause.now c.requires (sym c.in-Some.ensures)
