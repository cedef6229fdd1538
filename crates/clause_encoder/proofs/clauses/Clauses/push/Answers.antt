use Rattle.std.proofs.Common.{◌≡◌, ◌+◌, arith}
use Rattle.clause_encoder.proofs.NumberedLaws.{in_order_more}
use Rattle.clause_encoder.proofs.clauses.Clauses.push.Goals as goal

pub invariant_of-self-2 : goal.invariant_of-self-2
invariant_of-self-2 c =
    let last : c.push.new.self.last ≡ c.self.inside.store.last + 1 = rw c.last-last.ensures.value at c.in_ok-push.ensures.last in
    record {
      clauses = in_order_more c.self.inside.store c.push.new.self c.args.lits.now c.self.invariant.clauses (rw c.last-last.ensures.value at c.in_ok-push.ensures.held) last;
      few = omega (arith, last, c.last-last.ensures.value);
    }
