use Rattle.fbas_model.specs.Nodes.{members}
use Rattle.greatest_quorum.proofs.Shrinking.{with_or_none}
use Rattle.greatest_quorum.proofs.quorum_with.Goals as goal

pub returns-clause-found : goal.returns-clause-found
returns-clause-found c =
    with_or_none c.args.system.now.sets (members c.args.faulty.now) (members c.args.u.now) (members c.args.needed.now) c.settle.new.u c.is_empty.result c.is_empty.ensures c.if-not-settle.ensures.settled.0 c.if-not-settle.ensures.settled.1
