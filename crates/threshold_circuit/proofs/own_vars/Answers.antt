use Rattle.std.proofs.Common.{arith}
use Rattle.threshold_circuit.proofs.CountLaws.{own_count}
use Rattle.threshold_circuit.proofs.own_vars.Goals as goal

pub returns-else-k-eq1 : goal.returns-else-k-eq1
returns-else-k-eq1 c = own_count c.args.k c.args.n (λ all. absurd (omega (arith, all))) c.if-k-eq1.false c.requires.within
