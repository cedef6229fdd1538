use Rattle.std.proofs.Common.{◌≡◌, arith, subst, get_or}
use Rattle.std.proofs.lemmas.List.{get_or_default}
use Rattle.counter_expansion.specs.Counters.{cell_at}
use Rattle.counter_expansion.specs.declared.cells.Cell.{Cell}
use Rattle.counter_expansion.proofs.Lists.{all_before_more}
use Rattle.counter_expansion.proofs.cells.are_nowhere.Goals as goal

pub loop-variable-preserved : goal.loop-variable-preserved
loop-variable-preserved c =
    let vs = c.args.variables.now in
    let i = c.loop-variable.variable-index in
    all_before_more (λ v. (cell_at c.args.cells.now v).row ≡ 0) vs i c.loop-variable.invariant (get_or vs i 0) (get_or_default vs i 0 (get_or vs i 0) c.loop-variable-test.true)
    (subst (λ (k : Cell). k.row ≡ 0) c.cell_at.ensures c.if-cell_at-ne0.false)

pub returns : goal.returns
returns c = λ _. λ k d within. c.loop-variable.invariant k d (omega arith) within
