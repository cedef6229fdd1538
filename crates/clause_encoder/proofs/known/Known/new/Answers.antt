use Rattle.clause_encoder.proofs.KindLaws.{fresh, known_none}
use Rattle.clause_encoder.proofs.known.Known.new.Goals as goal

pub returns-clause-none : goal.returns-clause-none
returns-clause-none c gates circuits =
    known_none gates circuits c.args.kinds _ (fresh _ (λ x h. h) c.args.kinds _ c.in_ok-vec.ensures.items_if_clones_equal)
