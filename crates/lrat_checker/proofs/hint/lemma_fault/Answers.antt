use Rattle.std.proofs.Common.{[], refl, sym, ap, ◌∙◌, subst, map}
use Rattle.std.specs.Option.{option_or}
use Rattle.lrat_model.specs.Literal.{negated}
use Rattle.lrat_model.specs.Propagation.{propagate}
use Rattle.lrat_model.specs.Steps.{Database, literal_fault, outcome_fault}
use Rattle.lrat_model.specs.Rules.{hints_fault}
use Rattle.lrat_checker.specs.Hints.{Took}
use Rattle.lrat_checker.proofs.hint.lemma_fault.Goals as goal

pub returns-in-Rup-clause-fault : goal.returns-in-Rup-clause-fault
returns-in-Rup-clause-fault c =
    let lits = c.args.lits.now in
    let held = c.args.clauses.now.held in
    let end = propagate held (map negated lits) 1 c.args.hints.now in
    c.fault_of.ensures end c.propagate.new.assignment.trues
    (subst (λ (d : Database). Took (propagate d.held (map negated lits) 1 c.args.hints.now) c.propagate.result c.propagate.new.assignment.trues) c.store.ensures (c.propagate.ensures.outcome (map negated lits) (c.in_default.ensures.trues refl)))
    ∙ ap (λ o. option_or o (outcome_fault end)) c.in_default.ensures.fault
    ∙ ap (λ r. option_or (literal_fault c.args.assignment.now.vars [] lits) (hints_fault r held lits c.args.hints.now)) (sym c.in-Rup.is)
