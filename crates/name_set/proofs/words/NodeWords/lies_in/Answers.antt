use Rattle.std.proofs.Common.{arith, refl}
use Rattle.std.proofs.lemmas.Bool.{false≢true}
use Rattle.name_set.proofs.WordFinds.{outside_here, outside_nowhere}
use Rattle.name_set.proofs.words.NodeWords.lies_in.Goals as goal

pub returns-then-self-i-ne0 : goal.returns-then-self-i-ne0
returns-then-self-i-ne0 g c = (λ e. absurd (false≢true e), λ h. absurd (outside_here g.row.W c.self.inside.n c.other.inside.n c.self.inside.words c.other.inside.words c.args.self.now c.args.other.now c.self.invariant c.other.invariant c.self.view_is c.other.view_is c.loop-i.i c.if-self-i-ne0.true (omega arith) (omega arith) h))

pub returns : goal.returns
returns g c = (λ _. outside_nowhere g.row.W c.self.inside.n c.other.inside.n c.self.inside.words c.other.inside.words c.args.self.now c.args.other.now c.self.invariant c.other.invariant c.self.view_is c.other.view_is c.loop-i.i (omega arith) c.loop-i.invariant.none c.loop-i.invariant.read, λ _. refl)
