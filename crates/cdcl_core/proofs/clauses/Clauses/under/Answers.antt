use Rattle.std.proofs.Common.{◌≡◌, ◌<◌, sym, ap, ◌∙◌, subst, arith, length, List, Some, None, ◌≢◌, get_or}
use Rattle.std.specs.Prelude.{AllPairs, All}
use Rattle.lrat_model.specs.Clauses.{Held, clause_at}
use Rattle.cdcl_core.specs.declared.clauses.Place.{Place}
use Rattle.cdcl_core.specs.Watches.{id_at}
use Rattle.cdcl_core.proofs.Arenas.{found_under, none_in, id_in, length-shown, rise_in}
use Rattle.cdcl_core.proofs.clauses.Clauses.under.Goals as goal

pub returns-then-place-len : goal.returns-then-place-len
returns-then-place-len c = λ clause at.
    let inside = c.self.inside in
    let held = c.args.self.now in
    let p = c.place_of-place.result in
    let less : p < length inside.places.items = omega (arith, c.if-place-len.true, c.len.ensures, inside.places.ok.0) in
    let within : p < length held = omega (arith, less, length-shown inside.arena.items inside.places.items, ap (λ (h : Held). length h) c.self.view_is) in
    let d : Place = record { id = 0; start = 0; end = 0 } in
    let is : id_at held p ≡ c.args.id = ap (λ (h : Held). id_at h p) (sym c.self.view_is) ∙ id_in inside.arena.items inside.places.items p c.args.id d less (subst (λ (ps : List Place). (get_or ps p d).id ≡ c.args.id) c.deref.ensures.value (c.place_of-place.ensures.found (omega (arith, less, ap (λ (ps : List Place). length ps) c.deref.ensures.value)) d)) in
    c.lits.ensures ∙ found_under held c.requires p c.args.id clause within is at

pub returns-else-place-len : goal.returns-else-place-len
returns-else-place-len c = λ clause at.
    let inside = c.self.inside in
    let places = c.deref.result.now in
    let end : c.place_of-place.result ≡ length places = omega (arith, c.place_of-place.ensures.bound, c.if-place-len.false, c.len.ensures, inside.places.ok.0, ap (λ (ps : List Place). length ps) c.deref.ensures.value) in
    let none : clause_at c.args.self.now c.args.id ≡ None = ap (λ (h : Held). clause_at h c.args.id) (sym c.self.view_is) ∙ none_in inside.arena.items inside.places.items c.args.id (subst (λ (ps : List Place). All (λ p. p.id ≢ c.args.id) ps) c.deref.ensures.value (c.place_of-place.ensures.none end)) in
    let both : None ≡ Some clause = sym none ∙ at in
    cc

pub place_of-place-requires : goal.place_of-place-requires
place_of-place-requires c =
    subst (λ (ps : List Place). AllPairs (λ (p q : Place). p.id < q.id) ps) (sym c.deref.ensures.value)
    (rise_in c.self.inside.arena.items c.self.inside.places.items (subst (λ (h : Held). AllPairs (λ e f. e.0 < f.0) h) (sym c.self.view_is) c.requires))
