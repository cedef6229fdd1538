use Rattle.std.proofs.Common.{List, ◌∷◌, [], ◌++◌, ◌∙◌, ap, refl}
use Rattle.lrat_model.specs.Steps.{ProofStep, Addition}
use Rattle.lrat_text.proofs.LogLaws.{front_same, shown_same, shown_more, all_more, on_err}
use Rattle.lrat_text.proofs.log.Log.push_addition.Goals as goal

pub returns-in_err-entry-clause-unchanged : goal.returns-in_err-entry-clause-unchanged
returns-in_err-entry-clause-unchanged c =
    let inside = c.self.inside in
    let same = shown_same inside.lits.items c.push_lemma.new.all_lits.items inside.short.items c.push_lemma.new.short.items inside.wide.items c.push_lemma.new.wide.items inside.ids.items inside.ids.items
    c.push_lemma.ensures.lits c.push_lemma.ensures.short c.push_lemma.ensures.wide (front_same inside.ids.items inside.ids.items refl)
    inside.entries.items inside.entries.items c.self.invariant refl in
    on_err c.from_residual.result _ (same ∙ c.self.view_is)

pub returns-in_err-push-clause-unchanged : goal.returns-in_err-push-clause-unchanged
returns-in_err-push-clause-unchanged c =
    let inside = c.self.inside in
    let same = shown_same inside.lits.items c.push_lemma.new.all_lits.items inside.short.items c.push_lemma.new.short.items inside.wide.items c.push_lemma.new.wide.items inside.ids.items inside.ids.items
    c.push_lemma.ensures.lits c.push_lemma.ensures.short c.push_lemma.ensures.wide (front_same inside.ids.items inside.ids.items refl)
    inside.entries.items c.push.new.self.items c.self.invariant c.in_err-push.ensures.items in
    on_err c.from_residual-in_err-push.result _ (same ∙ c.self.view_is)

pub invariant_of-self-2 : goal.invariant_of-self-2
invariant_of-self-2 c =
    let inside = c.self.inside in
    all_more inside.lits.items c.push_lemma.new.all_lits.items inside.short.items c.push_lemma.new.short.items inside.wide.items c.push_lemma.new.wide.items inside.ids.items inside.ids.items
    c.push_lemma.ensures.lits c.push_lemma.ensures.short c.push_lemma.ensures.wide (front_same inside.ids.items inside.ids.items refl)
    inside.entries.items c.push.new.self.items c.self.invariant c.in_ok-entry.entry c.in_ok-push.ensures.items (c.in_ok-entry.ensures.inside _)

pub returns-clause-pushed : goal.returns-clause-pushed
returns-clause-pushed c =
    let inside = c.self.inside in
    let step : ProofStep = Addition c.args.id c.args.lits.now c.args.hints.now in
    shown_more inside.lits.items c.push_lemma.new.all_lits.items inside.short.items c.push_lemma.new.short.items inside.wide.items c.push_lemma.new.wide.items inside.ids.items inside.ids.items
    c.push_lemma.ensures.lits c.push_lemma.ensures.short c.push_lemma.ensures.wide (front_same inside.ids.items inside.ids.items refl)
    inside.entries.items c.push.new.self.items c.self.invariant c.in_ok-entry.entry c.in_ok-push.ensures.items step (c.in_ok-entry.ensures.step inside.ids.items)
    ∙ ap (λ (steps : List ProofStep). steps ++ step ∷ []) c.self.view_is
