use Rattle.std.proofs.Common.{ap, ◌∙◌, Option, ℕ, unwrap_or}
use Rattle.witness_pair.proofs.PairLaws.{least_is}
use Rattle.witness_pair.proofs.least.Goals as goal

pub returns : goal.returns
returns c = c.unwrap_or.ensures ∙ ap (λ (o : Option ℕ). unwrap_or o 0) (least_is c.args.u.now c.least.result c.least.ensures)
