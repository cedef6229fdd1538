use Rattle.std.proofs.Common.{All, List, sym, subst}
use Rattle.lrat_model.specs.Steps.{ProofStep}
use Rattle.lrat_text.specs.Texts.{HasNumbers}
use Rattle.quorum_questions.specs.Evidence.{IsRefutation, IsSpent}
use Rattle.quorum_questions.specs.Searching.{Ends}
use Rattle.quorum_questions.specs.declared.searching.End.{End}
use Rattle.quorum_questions.proofs.asking.search_from.Goals as goal

pub returns-in-Refuted : goal.returns-in-Refuted
returns-in-Refuted c =
    let f = c.args.asked.now.system.now.sets in
    let b = c.args.asked.now.faulty.now in
    let budget = c.args.asked.now.budget in
    let s = c.end_of.new.search in
    let end = subst (λ (e : End). Ends f b budget s e) c.in-Refuted.is c.in_ok-end.ensures in
    let shown : IsRefutation f b budget s.solver.log s.size = end (subst (λ (log : List ProofStep). All HasNumbers log) c.into_log-log.ensures.log c.into_log-log.ensures.numbers) in
    subst (λ (log : List ProofStep). IsRefutation f b budget log s.size) (sym c.into_log-log.ensures.log) shown

pub returns-in-Spent : goal.returns-in-Spent
returns-in-Spent c =
    let f = c.args.asked.now.system.now.sets in
    let b = c.args.asked.now.faulty.now in
    let budget = c.args.asked.now.budget in
    let s = c.end_of.new.search in
    let end = subst (λ (e : End). Ends f b budget s e) c.in-Spent.is c.in_ok-end.ensures in
    let shown : IsSpent f b budget s.solver.log s.size = end (subst (λ (log : List ProofStep). All HasNumbers log) c.into_log-log.ensures.log c.into_log-log.ensures.numbers) in
    subst (λ (log : List ProofStep). IsSpent f b budget log s.size) (sym c.into_log-log.ensures.log) shown
