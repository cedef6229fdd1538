use Rattle.lrat_checker.specs.Subsets.{is_watch_of}
use Rattle.lrat_checker.proofs.SubsetLaws.{none_more}
use Rattle.lrat_checker.proofs.subsets.is_in_list.Goals as goal

pub loop-watch-preserved : goal.loop-watch-preserved
loop-watch-preserved c = λ k clause early held subset.
    none_more (is_watch_of k clause) c.args.list.now c.loop-watch.watch-index _ c.loop-watch-test.true (c.loop-watch.invariant k clause early held subset) (c.is_asked.ensures.no c.if-is_asked.false k clause early held subset)
