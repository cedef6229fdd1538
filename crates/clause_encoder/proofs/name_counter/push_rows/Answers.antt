use Rattle.std.proofs.Common.{arith}
use Rattle.clause_encoder.proofs.NameWriting.{row_fits}
use Rattle.clause_encoder.proofs.name_counter.push_rows.Goals as goal

pub push_row-requires : goal.push_row-requires
push_row-requires c = record { room = omega (arith, c.loop-i.invariant.place, row_fits c.args.g c.loop-i.i (omega arith), c.requires.few) }

pub overflow_add-above : goal.overflow_add-above
overflow_add-above c = omega (arith, c.loop-i.invariant.place, row_fits c.args.g c.loop-i.i (omega arith), c.requires.few)
