use Rattle.std.proofs.Common.{◌≡◌, sym, ◌∙◌, subst}
use Rattle.lrat_model.specs.Steps.{Database}
use Rattle.lrat_model.specs.Rat.{groups_of, groups_fault}
use Rattle.lrat_checker.proofs.CourseLaws.{groups_stop}
use Rattle.lrat_checker.proofs.rat.pivot_fault.Goals as goal

pub returns-then-is_some-clause-fault : goal.returns-then-is_some-clause-fault
returns-then-is_some-clause-fault c = λ trues alike.
    let pivot = c.in-Some.pivot.now in
    let groups = groups_of 1 c.args.hints.now in
    let r = c.groups_fault-fault.result in
    let told : r ≡ groups_fault c.args.clauses.now.held trues pivot groups = subst (λ (d : Database). r ≡ groups_fault d.held trues pivot groups) c.store.ensures (c.groups_fault-fault.ensures.fault trues alike) in
    groups_stop c.args.clauses.now.held trues c.args.lits.now pivot groups r c.in-Some.ensures.value told (sym c.is_some.ensures ∙ c.if-is_some.true)
