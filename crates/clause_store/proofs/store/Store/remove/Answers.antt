use Rattle.std.proofs.Common.{◌∷◌, [], false, ◌∙◌, ap, sym, length}
use Rattle.std.specs.Prelude.{is_some}
use Rattle.lrat_model.specs.Clauses.{clause_at}
use Rattle.clause_store.specs.Entries.{is_held_in}
use Rattle.clause_store.proofs.ArenaLaws.{is_some-clause_at}
use Rattle.clause_store.proofs.StoreLaws.{index_written, held_written}
use Rattle.clause_store.proofs.store.Store.remove.Goals as goal

pub invariant_of-self : goal.invariant_of-self
invariant_of-self c =
    let inside = c.self.inside in
    index_written inside.arena.items inside.entries.items c.deref_mut.result.now c.mark.new.entries inside.entries.len (c.args.id ∷ []) false inside.entries.ok.0 c.deref_mut.ensures.value c.mark.ensures.marked _ inside.last c.self.invariant

pub returns-in_default-clause-found : goal.returns-in_default-clause-found
returns-in_default-clause-found c =
    c.in_default.ensures.was ∙ ap (λ es. is_held_in es c.args.id) c.deref_mut.ensures.value
    ∙ sym (is_some-clause_at c.self.inside.arena.items c.self.inside.entries.items c.args.id) ∙ ap (λ d. is_some (clause_at d.held c.args.id)) c.self.view_is

pub returns-in_default-clause-held : goal.returns-in_default-clause-held
returns-in_default-clause-held c =
    let inside = c.self.inside in
    held_written inside.arena.items inside.entries.items c.deref_mut.result.now c.mark.new.entries inside.entries.len (c.args.id ∷ []) c.args.self.now.held inside.entries.ok.0 c.deref_mut.ensures.value c.mark.ensures.marked (ap (λ d. d.held) c.self.view_is)

pub reclaim-requires : goal.reclaim-requires
reclaim-requires c =
    let inside = c.self.inside in
    (inside.last, index_written inside.arena.items inside.entries.items c.deref_mut.result.now c.mark.new.entries inside.entries.len (c.args.id ∷ []) false inside.entries.ok.0 c.deref_mut.ensures.value c.mark.ensures.marked _ inside.last c.self.invariant)

pub invariant_of-self-2 : goal.invariant_of-self-2
invariant_of-self-2 c =
    let inside = c.self.inside in
    c.reclaim.ensures.index inside.last (index_written inside.arena.items inside.entries.items c.deref_mut.result.now c.mark.new.entries inside.entries.len (c.args.id ∷ []) false inside.entries.ok.0 c.deref_mut.ensures.value c.mark.ensures.marked (length inside.arena.items) inside.last c.self.invariant)

pub returns-clause-found : goal.returns-clause-found
returns-clause-found c =
    c.in-Some.ensures.was ∙ ap (λ es. is_held_in es c.args.id) c.deref_mut.ensures.value
    ∙ sym (is_some-clause_at c.self.inside.arena.items c.self.inside.entries.items c.args.id) ∙ ap (λ d. is_some (clause_at d.held c.args.id)) c.self.view_is

pub returns-clause-held : goal.returns-clause-held
returns-clause-held c =
    let inside = c.self.inside in
    c.reclaim.ensures.held
    ∙ held_written inside.arena.items inside.entries.items c.deref_mut.result.now c.mark.new.entries inside.entries.len (c.args.id ∷ []) c.args.self.now.held inside.entries.ok.0 c.deref_mut.ensures.value c.mark.ensures.marked (ap (λ d. d.held) c.self.view_is)
