use Rattle.std.proofs.Common.{arith, refl}
use Rattle.std.proofs.lemmas.Bool.{false≢true}
use Rattle.name_set.proofs.WordFinds.{meets_here, meets_nowhere}
use Rattle.name_set.proofs.words.NodeWords.meets.Goals as goal

pub returns-then-self-i-ne0 : goal.returns-then-self-i-ne0
returns-then-self-i-ne0 g c = (λ _. meets_here g.row.W c.self.inside.n c.other.inside.n c.self.inside.words c.other.inside.words c.args.self.now c.args.other.now c.self.invariant c.other.invariant c.self.view_is c.other.view_is c.loop-i.i c.if-self-i-ne0.true (omega arith), λ _. refl)

pub returns : goal.returns
returns g c = (λ e. absurd (false≢true e), λ m. absurd (meets_nowhere g.row.W c.self.inside.n c.other.inside.n c.self.inside.words c.other.inside.words c.args.self.now c.args.other.now c.self.invariant c.other.invariant c.self.view_is c.other.view_is c.loop-i.i (omega arith) c.loop-i.invariant m))
