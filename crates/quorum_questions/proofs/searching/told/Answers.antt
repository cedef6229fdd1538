use Rattle.std.proofs.Common.{Bool, List, ◌∙◌, sym, subst}
use Rattle.quorum_questions.specs.Searching.{Tells}
use Rattle.quorum_questions.proofs.searching.told.Goals as goal

pub witness-requires-clause-tells : goal.witness-requires-clause-tells
witness-requires-clause-tells c = subst (λ (v : List Bool). Tells c.args.asked.now c.args.search.now.map v) (sym (c.deref.ensures.value ∙ c.in_ok-values.ensures)) c.requires.tells
