use Rattle.std.proofs.Common.{List, ◌∷◌, [], ◌++◌, ◌∙◌, ap, refl}
use Rattle.lrat_model.specs.Steps.{ProofStep, Deletion}
use Rattle.lrat_text.proofs.LogLaws.{front_same, part_pushed, span_pushed, shown_same, shown_more, all_more, on_err}
use Rattle.lrat_text.proofs.log.Log.push_deletion.Goals as goal

pub returns-in_err-push-clause-unchanged : goal.returns-in_err-push-clause-unchanged
returns-in_err-push-clause-unchanged c =
    let inside = c.self.inside in
    let same = shown_same inside.lits.items inside.lits.items inside.short.items inside.short.items inside.wide.items inside.wide.items inside.ids.items c.push_all.new.arena.items
    (front_same inside.lits.items inside.lits.items refl) (front_same inside.short.items inside.short.items refl) (front_same inside.wide.items inside.wide.items refl) (c.args.ids.now, c.in_ok-ids.ensures.pushed.0)
    inside.entries.items c.push.new.self.items c.self.invariant c.in_err-push.ensures.items in
    on_err c.from_residual-in_err-push.result _ (same ∙ c.self.view_is)

pub invariant_of-self-2 : goal.invariant_of-self-2
invariant_of-self-2 c =
    let inside = c.self.inside in
    all_more inside.lits.items inside.lits.items inside.short.items inside.short.items inside.wide.items inside.wide.items inside.ids.items c.push_all.new.arena.items
    (front_same inside.lits.items inside.lits.items refl) (front_same inside.short.items inside.short.items refl) (front_same inside.wide.items inside.wide.items refl) (c.args.ids.now, c.in_ok-ids.ensures.pushed.0)
    inside.entries.items c.push.new.self.items c.self.invariant _ c.in_ok-push.ensures.items (span_pushed inside.ids.items c.push_all.new.arena.items c.args.ids.now c.in_ok-ids.ids c.in_ok-ids.ensures.pushed)

pub returns-clause-pushed : goal.returns-clause-pushed
returns-clause-pushed c =
    let inside = c.self.inside in
    let step : ProofStep = Deletion c.args.id c.args.ids.now in
    shown_more inside.lits.items inside.lits.items inside.short.items inside.short.items inside.wide.items inside.wide.items inside.ids.items c.push_all.new.arena.items
    (front_same inside.lits.items inside.lits.items refl) (front_same inside.short.items inside.short.items refl) (front_same inside.wide.items inside.wide.items refl) (c.args.ids.now, c.in_ok-ids.ensures.pushed.0)
    inside.entries.items c.push.new.self.items c.self.invariant _ c.in_ok-push.ensures.items step (ap (λ ids. Deletion c.args.id ids) (part_pushed inside.ids.items c.push_all.new.arena.items c.args.ids.now c.in_ok-ids.ids c.in_ok-ids.ensures.pushed))
    ∙ ap (λ (steps : List ProofStep). steps ++ step ∷ []) c.self.view_is
