use Rattle.reach_kinds.proofs.ListLaws.{within_says}
use Rattle.reach_kinds.proofs.list_sets.is_inside.Goals as goal

pub returns : goal.returns
returns c = rw c.if-not-asked.false (within_says c.lies_in.result c.args.set.now c.args.part.now.greatest c.lies_in.ensures)
