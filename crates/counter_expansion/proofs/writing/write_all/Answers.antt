use Rattle.std.proofs.Common.{◌+◌, ◌^◌, arith, ap, Ok}
use Rattle.counter_expansion.proofs.Apart.{apart}
use Rattle.counter_expansion.proofs.WrittenLaws.{counted_of_passed, have_variables_below, none_in_range}
use Rattle.counter_expansion.proofs.writing.write_all.Goals as goal

pub write_gates-requires : goal.write_gates-requires
write_gates-requires c = have_variables_below (c.args.vars + 1) (2 ^ 31) c.args.counters.now (omega (arith, c.requires.small)) (c.are_sound.ensures.variables c.if-not-are_sound.false)

pub returns-clause-apart : goal.returns-clause-apart
returns-clause-apart c = λ _. apart c.args.counters.now c.args.cells.now (c.are_sound.ensures.placed c.if-not-are_sound.false) (c.are_sound.ensures.nowhere c.if-not-are_sound.false)

pub returns-clause-placed : goal.returns-clause-placed
returns-clause-placed c = λ _. c.are_sound.ensures.placed c.if-not-are_sound.false

pub returns-clause-counted : goal.returns-clause-counted
returns-clause-counted c = λ _.
    counted_of_passed c.args.counters.now c.args.cells.now c.args.formula.now.held c.write_clauses.new.store.held c.write_gates.new.store.held (c.are_sound.ensures.placed c.if-not-are_sound.false)
    c.in_ok-write_gates.ensures.kept (c.in_ok-is_whole.ensures.passed (ap Ok c.if-not-is_whole.false))

pub returns-clause-range : goal.returns-clause-range
returns-clause-range c = λ _.
    c.in_ok-write_gates.ensures.range c.args.vars
    (c.in_ok-is_whole.ensures.range c.args.vars c.requires.range (none_in_range c.args.vars c.args.store.now.held c.requires.none))
    (c.are_sound.ensures.variables c.if-not-are_sound.false)
