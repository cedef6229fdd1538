use Rattle.std.proofs.Common.{◌<◌, sym, subst, List}
use Rattle.std.specs.Prelude.{AllPairs}
use Rattle.lrat_model.specs.Clauses.{Held}
use Rattle.cdcl_core.specs.declared.clauses.Place.{Place}
use Rattle.cdcl_core.proofs.Arenas.{rise_in}
use Rattle.cdcl_core.proofs.clauses.Clauses.place.Goals as goal

pub place_of-requires : goal.place_of-requires
place_of-requires c =
    subst (λ (ps : List Place). AllPairs (λ (p q : Place). p.id < q.id) ps) (sym c.deref.ensures.value)
    (rise_in c.self.inside.arena.items c.self.inside.places.items (subst (λ (h : Held). AllPairs (λ e f. e.0 < f.0) h) (sym c.self.view_is) c.requires))
