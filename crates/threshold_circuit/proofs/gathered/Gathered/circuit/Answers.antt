use Rattle.std.proofs.Common.{arith}
use Rattle.threshold_circuit.proofs.GatheredLaws.{never_threshold, at_least_threshold}
use Rattle.threshold_circuit.proofs.gathered.Gathered.circuit.Goals as goal

pub returns-then-self-len : goal.returns-then-self-len
returns-then-self-len c = never_threshold c.args.self.threshold c.args.self.entries.items (omega arith)

pub returns-else-self-len : goal.returns-else-self-len
returns-else-self-len c = at_least_threshold c.args.self.threshold c.args.self.entries (omega arith) (omega arith)
