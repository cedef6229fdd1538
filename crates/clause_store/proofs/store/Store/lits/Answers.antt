use Rattle.std.proofs.Common.{refl, sym, ap, ◌∙◌, cond, Some, None}
use Rattle.clause_store.specs.Shown.{clause_in}
use Rattle.clause_store.proofs.StoreLaws.{found_none, found_at}
use Rattle.clause_store.proofs.store.Store.lits.Goals as goal

pub returns-in_default : goal.returns-in_default
returns-in_default c =
    sym (found_none c.self.inside.arena.items c.self.inside.entries.items c.deref.result.now c.args.self.now.held c.args.id c.deref.ensures.value (ap (λ d. d.held) c.self.view_is) (c.in_default.ensures.none refl))

pub returns-then-entry : goal.returns-then-entry
returns-then-entry c =
    let entry = c.index-entry.result.now in
    let arena = c.self.inside.arena.items in
    let found = found_at arena c.self.inside.entries.items c.deref.result.now c.args.self.now.held c.args.id c.deref.ensures.value (ap (λ d. d.held) c.self.view_is) c.self.invariant.rising c.in-Some.place entry c.in-Some.ensures.some.0 (c.in-Some.ensures.some.1 entry) in
    ap (λ xs. Some (clause_in xs entry)) c.deref-then-entry.ensures.value
    ∙ sym (found ∙ ap (λ e. cond e.is_held (Some (clause_in arena e)) None) (sym c.index-entry.ensures) ∙ ap (λ b. cond b (Some (clause_in arena entry)) None) c.if-entry.true)

pub returns-else-entry : goal.returns-else-entry
returns-else-entry c =
    let entry = c.index-entry.result.now in
    let arena = c.self.inside.arena.items in
    let found = found_at arena c.self.inside.entries.items c.deref.result.now c.args.self.now.held c.args.id c.deref.ensures.value (ap (λ d. d.held) c.self.view_is) c.self.invariant.rising c.in-Some.place entry c.in-Some.ensures.some.0 (c.in-Some.ensures.some.1 entry) in
    sym (found ∙ ap (λ e. cond e.is_held (Some (clause_in arena e)) None) (sym c.index-entry.ensures) ∙ ap (λ b. cond b (Some (clause_in arena entry)) None) c.if-entry.false)
