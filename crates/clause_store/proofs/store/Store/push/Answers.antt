use Rattle.std.proofs.Common.{◌∙◌, ap}
use Rattle.lrat_model.specs.Clauses.{with_clause}
use Rattle.clause_store.proofs.ArenaLaws.{held_in-grown, index-push, held_in-pushed, on_err}
use Rattle.clause_store.proofs.store.Store.push.Goals as goal

pub returns-in_err-push-clause-unchanged : goal.returns-in_err-push-clause-unchanged
returns-in_err-push-clause-unchanged c =
    let inside = c.self.inside in
    let same = held_in-grown inside.arena.items c.args.lits.now c.extend_from_slice.new.self.items inside.entries.items c.push.new.self.items inside.last c.args.id c.len-start.result c.len-end.result c.self.invariant c.in_ok-extend_from_slice.ensures.items c.in_err-push.ensures.items in
    on_err c.from_residual-in_err-push.result _ (ap (λ held. record { held = held; last = inside.last }) same ∙ c.self.view_is)

pub invariant_of-self-2 : goal.invariant_of-self-2
invariant_of-self-2 c =
    let inside = c.self.inside in
    index-push inside.arena.items c.args.lits.now c.extend_from_slice.new.self.items inside.entries.items c.push.new.self.items inside.last c.args.id c.len-start.result c.len-end.result c.self.invariant c.in_ok-extend_from_slice.ensures.items
    (rw (ap (λ d. d.last) c.self.view_is) c.requires) (c.len-start.ensures ∙ inside.arena.ok.0) (c.len-end.ensures ∙ c.extend_from_slice.new.self.ok.0) c.in_ok-push.ensures.items

pub returns-clause-held : goal.returns-clause-held
returns-clause-held c =
    let inside = c.self.inside in
    held_in-pushed inside.arena.items c.args.lits.now c.extend_from_slice.new.self.items inside.entries.items c.push.new.self.items inside.last c.args.id c.len-start.result c.len-end.result c.self.invariant c.in_ok-extend_from_slice.ensures.items
    (rw (ap (λ d. d.last) c.self.view_is) c.requires) (c.len-start.ensures ∙ inside.arena.ok.0) (c.len-end.ensures ∙ c.extend_from_slice.new.self.ok.0) c.in_ok-push.ensures.items
    ∙ ap (λ d. with_clause d.held c.args.id c.args.lits.now) c.self.view_is
