use Rattle.std.proofs.Common.{arith}
use Rattle.fbas_model.specs.Nodes.{members}
use Rattle.fbas_model.proofs.Sizes.{member_lt}
use Rattle.name_set.proofs.WordLaws.{same-length}
use Rattle.name_set.proofs.WordRests.{first_same, first_behind}
use Rattle.name_set.proofs.words.NodeWords.first_left.Goals as goal

pub returns-then-rest-ne0 : goal.returns-then-rest-ne0
returns-then-rest-ne0 g c from r = first_same (members c.args.self.now) c.args.at from c.args.rest r c.if-rest-ne0.true (omega arith)

pub bounds-self-inside-next : goal.bounds-self-inside-next
bounds-self-inside-next g c = omega (arith, member_lt c.args.self.now c.in_ok-number.number c.in_ok-number.ensures.1, same-length g.row.W c.self.inside.n c.self.inside.words c.args.self.now c.self.invariant c.self.view_is, c.self.invariant.fits)

pub returns : goal.returns
returns g c from r = first_behind g.row.W c.self.inside.n c.self.inside.words c.args.self.now c.self.invariant c.self.view_is c.args.at from c.args.rest c.in_ok-number.number r c.if-rest-ne0.false c.in_ok-number.ensures (omega arith)
