use Rattle.lrat_model.proofs.News.{useful_is_new}
use Rattle.lrat_model.proofs.a_useful_lemma_is_new.Goals as goal

pub returns : goal.returns
returns c = useful_is_new
