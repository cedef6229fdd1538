use Rattle.lent_desk.proofs.endless.EndlessDesk.new.Goals as goal

pub invariant_of-result-clause-left_fits : goal.invariant_of-result-clause-left_fits
invariant_of-result-clause-left_fits c = c.none.ensures.fits 0
