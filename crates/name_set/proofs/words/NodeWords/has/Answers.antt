use Rattle.std.proofs.Common.{arith}
use Rattle.name_set.proofs.WordLaws.{same-length, member-has}
use Rattle.name_set.proofs.words.NodeWords.has.Goals as goal

pub bounds-self-inside-at : goal.bounds-self-inside-at
bounds-self-inside-at g c = omega (arith, same-length g.row.W c.self.inside.n c.self.inside.words c.args.self.now c.self.invariant c.self.view_is, c.self.invariant.fits)

pub returns : goal.returns
returns g c = member-has g.row.W c.self.inside.n c.self.inside.words c.args.self.now c.self.invariant c.self.view_is c.args.at
