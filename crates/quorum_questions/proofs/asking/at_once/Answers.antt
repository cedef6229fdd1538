use Rattle.std.proofs.Common.{arith, subst}
use Rattle.quorum_questions.specs.Evidence.{Shows, IsRefutation}
use Rattle.quorum_questions.specs.declared.answers.Answer.{Answer}
use Rattle.quorum_questions.proofs.Over.{refutation_within}
use Rattle.quorum_questions.proofs.asking.at_once.Goals as goal

pub returns-in-Yes : goal.returns-in-Yes
returns-in-Yes c =
    let f = c.args.asked.now.system.now.sets in
    let b = c.args.asked.now.faulty.now in
    let first = c.first_units-first.result in
    let shown : IsRefutation f b first c.in-Yes.log c.in-Yes.size = subst (λ (a : Answer). Shows f b first a) c.in-Yes.is c.in_ok-log.ensures in
    refutation_within f b first c.args.asked.now.budget c.in-Yes.log c.in-Yes.size (omega (arith, c.if-asked-first.false)) shown
