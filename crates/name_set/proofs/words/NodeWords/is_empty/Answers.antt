use Rattle.std.proofs.Common.{arith}
use Rattle.name_set.proofs.WordFinds.{inhabited_here, inhabited_nowhere}
use Rattle.name_set.proofs.words.NodeWords.is_empty.Goals as goal

pub returns-then-self-i-ne0 : goal.returns-then-self-i-ne0
returns-then-self-i-ne0 g c = inhabited_here g.row.W c.self.inside.n c.self.inside.words c.args.self.now c.self.invariant c.self.view_is c.loop-i.i c.if-self-i-ne0.true (omega arith)

pub returns : goal.returns
returns g c = inhabited_nowhere g.row.W c.self.inside.n c.self.inside.words c.args.self.now c.self.invariant c.self.view_is c.loop-i.i (omega arith) c.loop-i.invariant
