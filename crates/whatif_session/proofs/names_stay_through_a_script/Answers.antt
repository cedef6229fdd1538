use Rattle.whatif_session.proofs.NamesStay.{names_stay}
use Rattle.whatif_session.proofs.names_stay_through_a_script.Goals as goal

pub returns : goal.returns
returns c = λ s text script set states read h. names_stay s text script set states read h
