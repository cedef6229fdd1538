use Rattle.reach_kinds.proofs.Starts.{list_part_of}
use Rattle.reach_kinds.proofs.list_kinds.list_part.Goals as goal

pub returns-clause-part : goal.returns-clause-part
returns-clause-part c = list_part_of c.args.scope.now.system.now c.args.scope.now.nodes.now c.args.scope.now.faulty.now c.in_ok-restricted.restricted c.cut-faulty.result c.greatest-greatest.result c.in_ok-restricted.ensures.part c.cut-faulty.ensures.part c.greatest-greatest.ensures.counted
