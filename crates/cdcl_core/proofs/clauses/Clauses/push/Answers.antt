use Rattle.std.proofs.Common.{List, [], ◌∷◌, ◌++◌, ap, ◌∙◌, length, length-append}
use Rattle.lrat_model.specs.Literal.{Literal}
use Rattle.lrat_model.specs.Clauses.{Held}
use Rattle.cdcl_core.proofs.Forced.{on_err}
use Rattle.cdcl_core.specs.declared.clauses.Place.{Place}
use Rattle.cdcl_core.specs.Arena.{shown_in, literals_in}
use Rattle.cdcl_core.proofs.Arenas.{shown_in-longer, shown_in-push, literals_in-last}
use Rattle.cdcl_core.proofs.clauses.Clauses.push.Goals as goal

pub returns-in_err-push-clause-unchanged : goal.returns-in_err-push-clause-unchanged
returns-in_err-push-clause-unchanged c =
    let inside = c.self.inside in
    on_err c.from_residual-in_err-push.result _
    (ap (λ (ls : List Literal). shown_in ls c.push.new.self.items) c.in_ok-extend_from_slice.ensures.items
    ∙ ap (λ (ps : List Place). shown_in (inside.arena.items ++ c.args.lits.now) ps) c.in_err-push.ensures.items
    ∙ shown_in-longer inside.arena.items c.args.lits.now inside.places.items c.self.invariant.within ∙ c.self.view_is)

pub returns-in_err-place-clause-unchanged : goal.returns-in_err-place-clause-unchanged
returns-in_err-place-clause-unchanged c =
    let inside = c.self.inside in
    on_err c.from_residual-in_err-place.result _
    (ap (λ (ls : List Literal). shown_in ls inside.places.items) c.in_ok-extend_from_slice.ensures.items
    ∙ shown_in-longer inside.arena.items c.args.lits.now inside.places.items c.self.invariant.within ∙ c.self.view_is)

pub returns-clause-pushed : goal.returns-clause-pushed
returns-clause-pushed c =
    let inside = c.self.inside in
    let all = inside.arena.items ++ c.args.lits.now in
    let place = c.in_ok-place.place in
    let is = c.in_ok-place.ensures in
    ap (λ (ls : List Literal). shown_in ls c.push.new.self.items) c.in_ok-extend_from_slice.ensures.items
    ∙ ap (λ (ps : List Place). shown_in all ps) c.in_ok-push.ensures.items
    ∙ shown_in-push inside.places.items all place
    ∙ ap (λ (h : Held). h ++ (place.id, literals_in all place) ∷ []) (shown_in-longer inside.arena.items c.args.lits.now inside.places.items c.self.invariant.within)
    ∙ ap (λ k. shown_in inside.arena.items inside.places.items ++ (k, literals_in all place) ∷ []) is.0
    ∙ ap (λ (ls : List Literal). shown_in inside.arena.items inside.places.items ++ (c.args.id, ls) ∷ []) (literals_in-last inside.arena.items c.args.lits.now place (is.1 ∙ c.len-start.ensures ∙ inside.arena.ok.0) (is.2 ∙ c.len.ensures ∙ c.extend_from_slice.new.self.ok.0 ∙ ap (λ (ls : List Literal). length ls) c.in_ok-extend_from_slice.ensures.items ∙ length-append inside.arena.items c.args.lits.now))
    ∙ ap (λ (h : Held). h ++ (c.args.id, c.args.lits.now) ∷ []) c.self.view_is
