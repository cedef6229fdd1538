use Rattle.std.proofs.Common.{◌+◌, sym, ap, ◌∙◌, subst, Ok}
use Rattle.lrat_model.specs.Propagation.{propagate}
use Rattle.lrat_model.specs.Steps.{outcome_fault}
use Rattle.lrat_model.specs.Rat.{first_hints}
use Rattle.lrat_checker.specs.declared.hint.Hinting.TheVariants.{More, Conflict}
use Rattle.lrat_checker.specs.Hints.{Took}
use Rattle.lrat_checker.specs.Groups.{Opens}
use Rattle.lrat_checker.proofs.rat.group_fault.Goals as goal

pub returns-in-Ok-More-clause-fault : goal.returns-in-Ok-More-clause-fault
returns-in-Ok-More-clause-fault c = λ trues alike.
    let held = c.args.store.now.held in
    let hints = c.args.hints.now in
    let opens : Opens held trues c.args.pivot c.args.place c.args.id (Ok More) c.open_group.new.assignment.trues = rw c.in-Ok-More.field-0-is at (c.in-Ok-More.ensures.opens trues alike) in
    c.fault_of.ensures (propagate held opens.0 (c.args.place + 1) (first_hints hints)) c.propagate.new.assignment.trues
    (subst (λ hs. Took (propagate held opens.0 (c.args.place + 1) hs) c.propagate.result c.propagate.new.assignment.trues) c.first_count.ensures.first (c.propagate.ensures.outcome opens.0 opens.1))
    ∙ ap outcome_fault (sym (opens.2 (first_hints hints)))

pub returns-in-Ok-Conflict-clause-fault : goal.returns-in-Ok-Conflict-clause-fault
returns-in-Ok-Conflict-clause-fault c = λ trues alike.
    let opens : Opens c.args.store.now.held trues c.args.pivot c.args.place c.args.id (Ok Conflict) c.open_group.new.assignment.trues = rw c.in-Ok-Conflict.field-0-is at (c.in-Ok-Conflict.ensures.opens trues alike) in
    ap outcome_fault (sym (opens (first_hints c.args.hints.now)))
