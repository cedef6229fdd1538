use Rattle.std.proofs.Common.{arith}
use Rattle.cdcl_core.proofs.Rounds.{zero_up_to}
use Rattle.cdcl_core.proofs.marks.forget.Goals as goal

pub returns-clause-none : goal.returns-clause-none
returns-clause-none c = zero_up_to c.loop-done.rounds.items c.loop-done.done (omega (arith, c.loop-done-test.false, c.len.ensures, c.loop-done.rounds.ok.0)) c.loop-done.invariant.2
