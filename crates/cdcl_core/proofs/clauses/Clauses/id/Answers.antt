use Rattle.std.proofs.Common.{◌+◌, ◌∙◌, sym, ap, arith}
use Rattle.lrat_model.specs.Clauses.{Held}
use Rattle.cdcl_core.specs.declared.clauses.Place.{Place}
use Rattle.cdcl_core.specs.Watches.{id_at}
use Rattle.cdcl_core.proofs.Arenas.{id_in}
use Rattle.cdcl_core.proofs.clauses.Clauses.id.Goals as goal

pub returns-then-place-self : goal.returns-then-place-self
returns-then-place-self c =
    let inside = c.self.inside in
    let p = c.args.place in
    let d : Place = record { id = 0; start = 0; end = 0 } in
    let dense = c.self.invariant.dense in
    sym (ap (λ (h : Held). id_at h p) (sym c.self.view_is)
    ∙ id_in inside.arena.items inside.places.items p (p + 1) d (omega (arith, c.if-place-self.true, dense.bound)) (dense.ids p d c.if-place-self.true))
