use Rattle.std.proofs.Common.{sym, subst}
use Rattle.quorum_questions.specs.Searching.{IsStarted}
use Rattle.quorum_questions.specs.declared.searching.Search.{Search}
use Rattle.quorum_questions.proofs.asking.at_length.Goals as goal

pub search_from-requires-clause-started : goal.search_from-requires-clause-started
search_from-requires-clause-started c =
    let f = c.args.asked.now.system.now.sets in
    let b = c.args.asked.now.faulty.now in
    subst (λ (s : Search). IsStarted f b s) (sym c.with_plan.ensures) (c.in_ok-start.ensures.started f b c.requires.formula)
