use Rattle.std.proofs.Common.{length, ap, ◌∙◌}
use Rattle.fbas_model.specs.Nodes.{Table}
use Rattle.greatest_quorum.proofs.UnmetLaws.{length-unmet_of}
use Rattle.whatif_session.proofs.unmet.ask.Goals as goal

pub available-requires-clause-same_scratch : goal.available-requires-clause-same_scratch
available-requires-clause-same_scratch c = ap (λ (t : Table). length t) c.requires.known ∙ length-unmet_of c.args.system.now.sets c.args.asked.now
