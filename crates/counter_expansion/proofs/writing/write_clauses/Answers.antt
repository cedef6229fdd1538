use Rattle.std.proofs.Common.{Ok, ap, arith}
use Rattle.counter_expansion.proofs.WrittenLaws.{passed_at_first, passed_more, all_passed, range_at}
use Rattle.counter_expansion.proofs.writing.write_clauses.Goals as goal

pub loop-above-init : goal.loop-above-init
loop-above-init c = passed_at_first c.args.counters.now c.args.cells.now c.args.formula.now.held c.args.store.now.held c.last-last.ensures.none_at_zero

pub loop-above-preserved : goal.loop-above-preserved
loop-above-preserved c =
    passed_more c.args.counters.now c.args.cells.now c.args.formula.now.held c.args.store.now.held c.loop-above.store.held c.write_clause.new.store.held c.loop-above.above c.in-Some.id c.in-Some.lits.now
    c.loop-above.invariant c.in-Some.ensures.some (c.in_ok-write_clause.ensures.passed (ap Ok c.if-not-branch.false)) c.in_ok-write_clause.ensures.kept c.in_ok-write_clause.ensures.range

pub returns-in_default-clause-passed : goal.returns-in_default-clause-passed
returns-in_default-clause-passed c = λ _.
    all_passed c.args.counters.now c.args.cells.now c.args.formula.now.held c.args.store.now.held c.loop-above.store.held c.loop-above.above c.loop-above.invariant
    (c.first_above.ensures.none (cc c.in_default.is))

pub returns-after-loop-above-clause-passed : goal.returns-after-loop-above-clause-passed
returns-after-loop-above-clause-passed c = λ _.
    all_passed c.args.counters.now c.args.cells.now c.args.formula.now.held c.args.store.now.held c.loop-above.store.held c.loop-above.above c.loop-above.invariant
    (λ k more. c.last-last.ensures.none_above k (omega (arith, more, c.last-last.ensures.value, c.loop-above-test.false)))

pub returns-then-not-branch-clause-range : goal.returns-then-not-branch-clause-range
returns-then-not-branch-clause-range c = λ vars whole old.
    c.in_ok-write_clause.ensures.range vars (c.loop-above.invariant.range vars whole old) (range_at vars c.args.formula.now.held whole c.in-Some.id c.in-Some.lits.now c.in-Some.ensures.some.there)
