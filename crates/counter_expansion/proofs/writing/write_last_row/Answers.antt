use Rattle.std.proofs.Common.{◌^◌, arith}
use Rattle.counter_expansion.specs.Counters.{IsVariable}
use Rattle.counter_expansion.proofs.WrittenLaws.{more_of_row_written, whole_row_written, kept_at_last}
use Rattle.counter_expansion.proofs.writing.write_last_row.Goals as goal

pub variable_in_last-head-requires : goal.variable_in_last-head-requires
variable_in_last-head-requires c = kept_at_last (IsVariable (2 ^ 31)) c.args.counter.now c.loop-before.before c.requires.rows c.requires.stays (omega arith) (omega arith)

pub loop-before-preserved : goal.loop-before-preserved
loop-before-preserved c =
    more_of_row_written c.args.counter.now c.args.store.now.held c.loop-before.store.held c.write_choices.new.written.held c.loop-before.before c.variable_in_last-head.result c.loop-before.invariant c.requires.stays (omega arith) (omega arith)
    c.variable_in_last-head.ensures.value c.in_ok-write_choices.ensures.choices c.in_ok-write_choices.ensures.kept c.in_ok-write_choices.ensures.range

pub returns-clause-written : goal.returns-clause-written
returns-clause-written c = whole_row_written c.args.counter.now c.args.store.now.held c.loop-before.store.held c.loop-before.before c.loop-before.invariant (λ i within few. omega arith)
