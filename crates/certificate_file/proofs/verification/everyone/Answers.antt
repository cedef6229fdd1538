use Rattle.std.proofs.Common.{length, ◌∙◌}
use Rattle.certificate_file.proofs.PartLaws.{is_everyone}
use Rattle.certificate_file.proofs.verification.everyone.Goals as goal

pub returns-clause-nodes : goal.returns-clause-nodes
returns-clause-nodes c =
    is_everyone c.args.system.now.sets c.fill.new.self (length c.new-nodes.result) (c.new-nodes.ensures.size ∙ c.len.ensures.sets) c.fill.ensures.size c.fill.ensures.all
