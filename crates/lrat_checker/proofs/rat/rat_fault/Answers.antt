use Rattle.std.proofs.Common.{◌≡◌, List, map, take, sym, ap, ◌∙◌, subst}
use Rattle.lrat_model.specs.Literal.{Literal, negated}
use Rattle.lrat_model.specs.Propagation.{propagate, Conflict, Leaves}
use Rattle.lrat_model.specs.Steps.{Database}
use Rattle.lrat_model.specs.Alike.{Alike}
use Rattle.lrat_model.specs.Rat.{first_hints, groups_of, rest_fault}
use Rattle.lrat_checker.proofs.rat.rat_fault.Goals as goal

pub returns-in-Ok-Conflict-clause-fault : goal.returns-in-Ok-Conflict-clause-fault
returns-in-Ok-Conflict-clause-fault c =
    let held = c.args.clauses.now.held in
    let lits = c.args.lits.now in
    let took : propagate held (map negated lits) 1 (take c.first_count.result c.args.hints.now) ≡ Conflict =
    subst (λ (d : Database). propagate d.held (map negated lits) 1 (take c.first_count.result c.args.hints.now) ≡ Conflict) c.store.ensures (rw c.in-Ok-Conflict.field-0-is at (c.in-Ok-Conflict.ensures.outcome (map negated lits) c.requires.negated)) in
    let ends : propagate held (map negated lits) 1 (first_hints c.args.hints.now) ≡ Conflict = ap (propagate held (map negated lits) 1) (sym c.first_count.ensures.first) ∙ took in
    sym (ap (rest_fault held lits (groups_of 1 c.args.hints.now)) ends)

pub returns-in-Ok-More-clause-fault : goal.returns-in-Ok-More-clause-fault
returns-in-Ok-More-clause-fault c =
    let held = c.args.clauses.now.held in
    let lits = c.args.lits.now in
    let new = c.propagate.new.assignment.trues in
    let told : (left : List Literal) × (propagate held (map negated lits) 1 (take c.first_count.result c.args.hints.now) ≡ Leaves left) × Alike left new =
    subst (λ (d : Database). (left : List Literal) × (propagate d.held (map negated lits) 1 (take c.first_count.result c.args.hints.now) ≡ Leaves left) × Alike left new) c.store.ensures (rw c.in-Ok-More.field-0-is at (c.in-Ok-More.ensures.outcome (map negated lits) c.requires.negated)) in
    let ends : propagate held (map negated lits) 1 (first_hints c.args.hints.now) ≡ Leaves told.0 = ap (propagate held (map negated lits) 1) (sym c.first_count.ensures.first) ∙ told.1 in
    c.pivot_fault.ensures.fault told.0 told.2 ∙ sym (ap (rest_fault held lits (groups_of 1 c.args.hints.now)) ends)
