use Rattle.whatif_session.proofs.Brought.{Moving}
use Rattle.whatif_session.proofs.naming.moved_members.Given as goal

abbrev pub invariant-loop-v : goal.invariant-loop-v
invariant-loop-v l = Moving l.place l.n l.v l.set l.moved
