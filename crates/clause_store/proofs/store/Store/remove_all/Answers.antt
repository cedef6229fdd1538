use Rattle.std.proofs.Common.{false, ap, sym, ◌∙◌, subst, length}
use Rattle.clause_store.specs.Index.{IsIndex}
use Rattle.clause_store.proofs.StoreLaws.{either, index_written, held_written, written_same}
use Rattle.clause_store.proofs.store.Store.remove_all.Goals as goal

pub invariant_of-self : goal.invariant_of-self
invariant_of-self c =
    let inside = c.self.inside in
    either c.mark_removed.result _ _ _ c.mark_removed.ensures.marked c.mark_removed.ensures.unchanged
    (λ is. index_written inside.arena.items inside.entries.items c.deref_mut.result.now c.mark_removed.new.entries inside.entries.len c.args.ids.now false inside.entries.ok.0 c.deref_mut.ensures.value is (length inside.arena.items) inside.last c.self.invariant)
    (λ is. subst (λ es. IsIndex (length inside.arena.items) es inside.last) (sym (written_same inside.entries.items c.deref_mut.result.now c.mark_removed.new.entries inside.entries.len inside.entries.ok.0 c.deref_mut.ensures.value is)) c.self.invariant)

pub reclaim-requires : goal.reclaim-requires
reclaim-requires c =
    let inside = c.self.inside in
    (inside.last, index_written inside.arena.items inside.entries.items c.deref_mut.result.now c.mark_removed.new.entries inside.entries.len c.args.ids.now false inside.entries.ok.0 c.deref_mut.ensures.value c.in_ok-literals.ensures.marked (length inside.arena.items) inside.last c.self.invariant)

pub invariant_of-self-2 : goal.invariant_of-self-2
invariant_of-self-2 c =
    let inside = c.self.inside in
    c.reclaim.ensures.index inside.last (index_written inside.arena.items inside.entries.items c.deref_mut.result.now c.mark_removed.new.entries inside.entries.len c.args.ids.now false inside.entries.ok.0 c.deref_mut.ensures.value c.in_ok-literals.ensures.marked (length inside.arena.items) inside.last c.self.invariant)

pub returns-clause-held : goal.returns-clause-held
returns-clause-held c =
    let inside = c.self.inside in
    c.reclaim.ensures.held
    ∙ held_written inside.arena.items inside.entries.items c.deref_mut.result.now c.mark_removed.new.entries inside.entries.len c.args.ids.now c.args.self.now.held inside.entries.ok.0 c.deref_mut.ensures.value c.in_ok-literals.ensures.marked (ap (λ d. d.held) c.self.view_is)
