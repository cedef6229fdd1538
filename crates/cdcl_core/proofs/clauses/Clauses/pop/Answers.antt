use Rattle.std.proofs.Common.{◌≡◌, ◌-◌, ◌++◌, ◌∷◌, [], List, ap, sym, ◌∙◌, take, length, arith, length-append}
use Rattle.lrat_model.specs.Clauses.{Held}
use Rattle.std.proofs.Math.Seq.{take-append_seam}
use Rattle.cdcl_core.specs.Arena.{shown_in}
use Rattle.cdcl_core.specs.declared.clauses.Place.{Place}
use Rattle.cdcl_core.proofs.Arenas.{shown_in-take, length-shown}
use Rattle.cdcl_core.proofs.clauses.Clauses.pop.Goals as goal

pub returns : goal.returns
returns c = λ front e is.
    let inside = c.self.inside in
    let all : shown_in inside.arena.items inside.places.items ≡ front ++ e ∷ [] = c.self.view_is ∙ is in
    let long : length front ≡ c.len-left.result - 1 = omega (arith, length-shown inside.arena.items inside.places.items, ap (λ (h : Held). length h) all, length-append front (e ∷ []), c.len-left.ensures, inside.places.ok.0) in
    ap (λ (ps : List Place). shown_in inside.arena.items ps) c.truncate.ensures.items
    ∙ shown_in-take inside.arena.items inside.places.items (c.len-left.result - 1)
    ∙ ap (λ (h : Held). take (c.len-left.result - 1) h) all
    ∙ ap (λ k. take k (front ++ e ∷ [])) (sym long)
    ∙ take-append_seam front (e ∷ [])
