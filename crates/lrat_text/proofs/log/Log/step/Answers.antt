use Rattle.std.proofs.Common.{ℕ, List, map, ap, sym, ◌∙◌, ℤ, pos}
use Rattle.lrat_model.specs.Literal.{Literal}
use Rattle.lrat_model.specs.Steps.{Addition, Deletion}
use Rattle.lrat_text.specs.Entries.{part, entry_step}
use Rattle.lrat_text.proofs.LogLaws.{shown_at}
use Rattle.lrat_text.proofs.log.Log.step.Goals as goal

pub returns-in-Short : goal.returns-in-Short
returns-in-Short c =
    let log = c.self.inside in
    let entry = c.in-Short in
    let step = entry_step log.lits.items log.short.items log.wide.items log.ids.items in
    shown_at step log.entries.items c.args.self.now c.args.place c.index.result.now _ c.self.view_is c.requires c.index.ensures
    (ap step entry.is
    ∙ ap (λ (lits : List Literal). Addition entry.id (part lits entry.lits) (map pos (part log.short.items entry.hints))) (sym c.deref.ensures.value)
    ∙ ap (λ (ids : List ℕ). Addition entry.id (part c.deref.result.now entry.lits) (map pos (part ids entry.hints))) (sym c.deref-in-Short.ensures.value))

pub returns-in-Wide : goal.returns-in-Wide
returns-in-Wide c =
    let log = c.self.inside in
    let entry = c.in-Wide in
    let step = entry_step log.lits.items log.short.items log.wide.items log.ids.items in
    shown_at step log.entries.items c.args.self.now c.args.place c.index.result.now _ c.self.view_is c.requires c.index.ensures
    (ap step entry.is
    ∙ ap (λ (lits : List Literal). Addition entry.id (part lits entry.lits) (part log.wide.items entry.hints)) (sym c.deref-in-Wide.ensures.value)
    ∙ ap (λ (hints : List ℤ). Addition entry.id (part c.deref-in-Wide.result.now entry.lits) (part hints entry.hints)) (sym c.deref-in-Wide-2.ensures.value))

pub returns-in-Deletion : goal.returns-in-Deletion
returns-in-Deletion c =
    let log = c.self.inside in
    let entry = c.in-Deletion in
    let step = entry_step log.lits.items log.short.items log.wide.items log.ids.items in
    shown_at step log.entries.items c.args.self.now c.args.place c.index.result.now _ c.self.view_is c.requires c.index.ensures
    (ap step entry.is ∙ ap (λ (ids : List ℕ). Deletion entry.id (part ids entry.ids)) (sym c.deref-in-Deletion.ensures.value))
