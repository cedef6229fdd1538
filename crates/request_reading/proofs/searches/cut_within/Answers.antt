use Rattle.std.proofs.Common.{◌∙◌, ap}
use Rattle.fbas_model.specs.Nodes.{Table, members, ◌∩◌}
use Rattle.fbas_model.specs.Restriction.{closure_of}
use Rattle.request_reading.proofs.Cuts.{is_met}
use Rattle.request_reading.proofs.searches.cut_within.Goals as goal

pub returns-in-Some-clause-cut : goal.returns-in-Some-clause-cut
returns-in-Some-clause-cut c =
    rw c.in-Some.is (is_met c.args.set (closure_of c.args.system.now.sets c.in-Some.node) c.meet.new.self c.meet.ensures.size
    (c.meet.ensures.shared ∙ ap (λ (t : Table). members c.args.set ∩ members t) c.closure.ensures.table))
