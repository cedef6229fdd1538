use Rattle.std.proofs.Common.{ap, ◌∙◌, arith}
use Rattle.lrat_model.specs.Literal.{Minus}
use Rattle.clause_encoder.proofs.NameWriting.{cell_written}
use Rattle.clause_encoder.proofs.name_counter.push_cell.Goals as goal

pub returns-then-j-i : goal.returns-then-j-i
returns-then-j-i c = λ g at.
    cell_written c.push_one_more.result g c.args.i c.args.above c.args.j c.of-name.result c.of-cell.result c.minus.result c.plus.result c.args.clauses.now c.push.new.self c.push_one_more.new.clauses
    c.of-name.ensures c.of-cell.ensures (c.minus.ensures ∙ ap Minus c.of.ensures) c.plus.ensures (omega arith) c.in_ok-push.ensures c.push_one_more.ensures.first c.push_one_more.ensures.later at
