use Rattle.std.proofs.Common.{ap, ◌∙◌, true, set, Bool, List}
use Rattle.cdcl_core.proofs.Rounds.{set_round}
use Rattle.cdcl_core.proofs.marks.Marks.set.Goals as goal

pub returns : goal.returns
returns c = set_round c.self.inside.rounds.items c.self.inside.round c.args.x ∙ ap (λ (ms : List Bool). set ms c.args.x true) c.self.view_is
