use Rattle.std.proofs.Common.{arith, refl}
use Rattle.std.proofs.lemmas.Bool.{false≢true}
use Rattle.name_set.proofs.WordLaws.{same_n}
use Rattle.name_set.proofs.WordFinds.{differ_here, differ_nowhere}
use Rattle.name_set.proofs.words.NodeWords.same.Goals as goal

pub returns-then-self-i : goal.returns-then-self-i
returns-then-self-i g c = (λ e. absurd (false≢true e), λ h. absurd (differ_here g.row.W c.self.inside.n c.other.inside.n c.self.inside.words c.other.inside.words c.args.self.now c.args.other.now c.self.invariant c.other.invariant c.self.view_is c.other.view_is c.loop-i.i c.if-self-i.true (omega arith) (omega arith) h))

pub returns : goal.returns
returns g c =
    let same_n = same_n g.row.W c.self.inside.n c.other.inside.n c.self.inside.words c.other.inside.words c.args.self.now c.args.other.now c.self.invariant c.other.invariant c.self.view_is c.other.view_is c.requires in
    (λ _. differ_nowhere g.row.W c.self.inside.n c.other.inside.n c.self.inside.words c.other.inside.words c.args.self.now c.args.other.now c.self.invariant c.other.invariant c.self.view_is c.other.view_is same_n c.loop-i.i (omega arith) c.loop-i.invariant, λ _. refl)
