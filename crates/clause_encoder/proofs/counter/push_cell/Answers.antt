use Rattle.std.proofs.Common.{arith}
use Rattle.clause_encoder.proofs.CounterWriting.{first_cell}
use Rattle.clause_encoder.proofs.counter.push_cell.Goals as goal

pub returns-else-j-ge2 : goal.returns-else-j-ge2
returns-else-j-ge2 c =
    first_cell c.args.above c.args.here c.args.i c.args.x c.args.j c.of-cell.result c.cell_of_row.result c.args.clauses.now c.push_cell_clause.new.clauses (omega arith) c.of-cell.ensures c.cell_of_row.ensures c.in_ok-push_cell_clause.ensures
