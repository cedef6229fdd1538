use Rattle.std.proofs.Common.{arith, Option, IfSome, subst}
use Rattle.expanded_search.specs.Finding.{IsFound}
use Rattle.expanded_search.specs.declared.searching.Found.{Found}
use Rattle.quorum_questions.proofs.Over.{refutation_over, spent_over}
use Rattle.quorum_questions.proofs.gates.by_gates.Goals as goal

pub search-requires-clause-small : goal.search-requires-clause-small
search-requires-clause-small c = omega (arith, c.requires.formula.size.small)

pub returns-in-Some-Refuted : goal.returns-in-Some-Refuted
returns-in-Some-Refuted c =
    let s = c.args.formula.now in
    let asked = c.args.asked.now in
    let found : IsFound s.size.vars s.store asked.budget c.in-Some-Refuted.field-0 = subst (λ (o : Option Found). IfSome o (IsFound s.size.vars s.store asked.budget)) c.in-Some-Refuted.is c.in_ok-log.ensures in
    refutation_over asked.system.now.sets asked.faulty.now s asked.budget c.in-Some-Refuted.log c.requires.formula (subst (λ (o : Found). IsFound s.size.vars s.store asked.budget o) c.in-Some-Refuted.field-0-is found)

pub returns-in-Some-Spent : goal.returns-in-Some-Spent
returns-in-Some-Spent c =
    let s = c.args.formula.now in
    let asked = c.args.asked.now in
    let found : IsFound s.size.vars s.store asked.budget c.in-Some-Spent.field-0 = subst (λ (o : Option Found). IfSome o (IsFound s.size.vars s.store asked.budget)) c.in-Some-Spent.is c.in_ok-log.ensures in
    spent_over asked.system.now.sets asked.faulty.now s asked.budget c.in-Some-Spent.log c.requires.formula (subst (λ (o : Found). IsFound s.size.vars s.store asked.budget o) c.in-Some-Spent.field-0-is found)
