use Rattle.std.proofs.Common.{◌++◌}
use Rattle.clause_encoder.specs.Dimacs.{clause_line}
use Rattle.clause_encoder.proofs.DimacsLaws.{line_more, line_end}
use Rattle.clause_encoder.proofs.dimacs.push_clause_line.Goals as goal

pub loop-lit-preserved : goal.loop-lit-preserved
loop-lit-preserved c =
    line_more c.args.lits.now c.loop-lit.lit-index c.lit-item.result c.loop-lit.text.items c.push_literal.new.text.items (c.args.text.now.items ++ clause_line c.args.lits.now)
    c.loop-lit-test.true c.lit-item.is c.in_ok-push_literal.ensures c.loop-lit.invariant

pub returns : goal.returns
returns c =
    line_end c.args.lits.now c.loop-lit.lit-index c.loop-lit.text.items c.extend_from_slice.new.self.items (c.args.text.now.items ++ clause_line c.args.lits.now) c.extend_from_slice.result
    c.loop-lit-test.false c.extend_from_slice.ensures.items c.loop-lit.invariant
