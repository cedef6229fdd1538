use Rattle.std.proofs.Common.{get_or, arith}
use Rattle.std.proofs.lemmas.Nat.{xor_lt}
use Rattle.name_set.proofs.SetOrder.{part_here, part_nowhere}
use Rattle.name_set.proofs.words.cmp_sets.Goals as goal

pub cmp_from-requires : goal.cmp_from-requires
cmp_from-requires g c = (omega (arith, c.a.invariant.few), part_here g.row.W c.a.inside.n c.b.inside.n c.a.inside.words c.b.inside.words c.args.a.now c.args.b.now c.a.invariant c.b.invariant c.a.view_is c.b.view_is c.loop-i.i c.loop-i.invariant c.if-apart-ne0.true (xor_lt 64 (get_or c.a.inside.words c.loop-i.i 0) (get_or c.b.inside.words c.loop-i.i 0) (omega arith) (omega arith)))

pub returns : goal.returns
returns g c = part_nowhere g.row.W c.a.inside.n c.b.inside.n c.a.inside.words c.b.inside.words c.args.a.now c.args.b.now c.a.invariant c.b.invariant c.a.view_is c.b.view_is c.loop-i.i (omega arith) c.loop-i.invariant
