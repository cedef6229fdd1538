use Rattle.request_reading.proofs.searches.look.Goals as goal

pub returns-clause-bytes : goal.returns-clause-bytes
returns-clause-bytes c = λ i. c.fits-digest i
