use Rattle.std.proofs.Common.{ap, ◌∙◌}
use Rattle.fbas_model.specs.Nodes.{Table}
use Rattle.certificate_file.specs.declared.places.Place.TheVariants.{AtFaulty}
use Rattle.certificate_file.specs.declared.places.State.{State}
use Rattle.certificate_file.specs.declared.places.State.TheVariants.{Going}
use Rattle.std.proofs.Common.{length, None}
use Rattle.certificate_file.proofs.PartLaws.{is_everyone}
use Rattle.certificate_file.proofs.parts.whole.Goals as goal

pub returns-clause-state : goal.returns-clause-state
returns-clause-state c =
    let all = is_everyone c.args.system.now.sets c.fill.new.self (length c.new-nodes.result) (c.new-nodes.ensures.size ∙ c.len.ensures.sets) c.fill.ensures.size c.fill.ensures.all in
    ap {B = State} (λ (t : Table). Going (AtFaulty c.args.version None t)) all
