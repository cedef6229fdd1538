use Rattle.std.proofs.Common.{sym, ap, ◌∙◌, arith}
use Rattle.std.specs.List.{list_any}
use Rattle.lrat_checker.specs.Subsets.{is_watch_of}
use Rattle.lrat_checker.proofs.SubsetLaws.{none_covers}
use Rattle.lrat_checker.proofs.subsets.SubsetIndex.covers.Goals as goal

pub returns : goal.returns
returns c =
    none_covers c.args.self.now c.args.store.now.held c.args.id c.args.lits.now c.requires
    (λ k clause early there subset. ap (list_any (is_watch_of k clause)) (sym c.list.ensures) ∙ c.is_in_list.ensures.no c.if-is_in_list.false k clause early there subset)
    (λ i m within. c.loop-l.invariant i m (omega (arith, within, c.loop-l-test.false)))
