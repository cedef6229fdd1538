use Rattle.std.proofs.Common.{◌∙◌}
use Rattle.fbas_model.proofs.Marks.{marks-found, marks-missing}
use Rattle.whatif_session.proofs.naming.mark.Goals as goal

pub returns-in-Some-clause-marked : goal.returns-in-Some-clause-marked
returns-in-Some-clause-marked c = λ chosen was.
    marks-found c.args.names.now c.args.nodes.now c.put.new.self chosen c.args.name.now c.in-Some.node c.in-Some.ensures.found c.in-Some.ensures.only (c.put.ensures.size ∙ c.requires) c.put.ensures.added was

pub returns-in_default-clause-marked : goal.returns-in_default-clause-marked
returns-in_default-clause-marked c = λ chosen was. marks-missing c.args.names.now c.args.nodes.now chosen c.args.name.now c.in_default.ensures.found c.requires was
