use Rattle.std.proofs.Common.{◌∙◌}
use Rattle.desk_io.specs.Failing.{counted_at}
use Rattle.desk_io.proofs.Fronts.{front_more, front_all}
use Rattle.desk_io.proofs.memory.failing.count_all.Goals as goal

pub loop-listed-preserved : goal.loop-listed-preserved
loop-listed-preserved c =
    front_more (counted_at c.args.call) c.args.calls.now c.loop-listed.calls c.loop-listed.listed-index _ c.count_at.new.listed c.loop-listed.invariant c.loop-listed-test.true c.count_at.ensures

pub returns : goal.returns
returns c = c.loop-listed.invariant ∙ front_all (counted_at c.args.call) c.args.calls.now c.loop-listed.listed-index c.loop-listed-test.false
