use Rattle.std.proofs.Common.{ap}
use Rattle.std.proofs.lemmas.Bool.{both_ways}
use Rattle.fbas_model.specs.Nodes.{members}
use Rattle.greatest_quorum.proofs.Shrinking.{none_first, all_waiting, settled_with}
use Rattle.greatest_quorum.proofs.settle.Goals as goal

pub returns-then-not-lies_in-clause-settled : goal.returns-then-not-lies_in-clause-settled
returns-then-not-lies_in-clause-settled c =
    none_first c.args.system.now.sets (members c.args.faulty.now) c.args.u.now c.minus.new.self c.args.needed.now c.minus.ensures.left (λ h. both_ways c.lies_in.result c.if-not-lies_in.true (c.lies_in.ensures.1 h))

pub returns-clause-settled : goal.returns-clause-settled
returns-clause-settled c =
    let f = c.args.system.now.sets in
    let b = members c.args.faulty.now in
    settled_with f b (members c.args.u.now) (members c.minus.new.self) (members c.args.needed.now) (members c.settle_from.new.u) c.settle_from.result c.minus.ensures.left
    (c.settle_from.ensures.settled (all_waiting f b (members c.args.u.now) (members c.minus.new.self) (members c.copy-again.result) c.minus.ensures.left (ap members c.copy-again.ensures)) (c.lies_in.ensures.0 c.if-not-lies_in.false))
