use Rattle.whatif_session.proofs.Touching.{touches}
use Rattle.whatif_session.proofs.an_edit_touches_one_quorum_set.Goals as goal

pub returns : goal.returns
returns c = λ s edit t is h. touches s t edit is h
