use Rattle.std.proofs.Common.{◌^◌, ◌<◌, ◌∙◌, arith, get_or}
use lib.Count.{ones-le}
use Rattle.name_set.proofs.WordCounts.{counted-more, counted-all}
use Rattle.name_set.proofs.words.NodeWords.count.Goals as goal

pub loop-i-preserved : goal.loop-i-preserved
loop-i-preserved g c =
    let word = get_or c.self.inside.words c.loop-i.i 0 in
    let fits : word < 2 ^ 64 = omega arith in
    record {
      counted = omega (arith, counted-more c.self.inside.words c.loop-i.i fits, c.loop-i.invariant.counted);
      few = omega (arith, ones-le 64 word fits, c.loop-i.invariant.few);
    }

pub returns : goal.returns
returns g c = c.loop-i.invariant.counted ∙ counted-all g.row.W c.self.inside.n c.self.inside.words c.args.self.now c.loop-i.i c.self.invariant c.self.view_is (omega arith)
