use Rattle.std.proofs.Common.{sym, ◌∙◌, subst}
use Rattle.fbas_model.proofs.Renumbered.{length-restricted_sets}
use Rattle.request_reading.specs.Questions.{FitsClosure}
use Rattle.request_reading.proofs.parts.cut_to.Goals as goal

pub returns-in-Some-clause-places : goal.returns-in-Some-clause-places
returns-in-Some-clause-places c =
    let f = c.args.system.now in
    let fits = subst (FitsClosure f) c.in-Some.is c.requires.fits in
    rw c.in-Some.is (c.cut.ensures.size ∙ sym (length-restricted_sets c.in-Some.closure f.sets fits.0))
