use Rattle.std.proofs.Common.{length, ap, ◌∙◌}
use Rattle.fbas_model.specs.Nodes.{Table}
use Rattle.greatest_quorum.proofs.GreatestLaws.{length-greatest_of}
use Rattle.whatif_session.specs.Sessions.{nobody}
use Rattle.whatif_session.proofs.session.Session.greatest.Goals as goal

pub returns-clause-same_n : goal.returns-clause-same_n
returns-clause-same_n c =
    let s = c.self.inside.system in
    rw (← c.self.view_is) (ap (λ (t : Table). length t) c.self.invariant.0 ∙ length-greatest_of s.sets (nobody s))
