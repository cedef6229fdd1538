use Rattle.std.proofs.Common.{◌≡◌, ◌∙◌, sym, ap, subst, length, take, Ok}
use Rattle.std.specs.Global.{Vec}
use Rattle.lrat_model.specs.Clauses.{Held}
use Rattle.cdcl_core.specs.declared.watches.Pair.{Pair}
use Rattle.cdcl_core.specs.declared.search.Search.{Search}
use Rattle.cdcl_core.specs.Searching.{IsSearching}
use Rattle.cdcl_core.proofs.search.Search.watch_next.Goals as goal

pub watch_free-requires-clause-searching : goal.watch_free-requires-clause-searching
watch_free-requires-clause-searching c =
    let s = c.loop-place.self in
    let cut = c.retreat.new.self in
    subst (λ (h : Held). IsSearching (take c.loop-place.place h) cut) (sym c.retreat.ensures.same.clauses) (c.retreat.ensures.searching (take c.loop-place.place s.clauses) c.loop-place.invariant.searching)

pub returns-then-not-is_watched-clause-searching : goal.returns-then-not-is_watched-clause-searching
returns-then-not-is_watched-clause-searching c =
    let s = c.loop-place.self in
    let cut = c.retreat.new.self in
    let place = c.loop-place.place in
    let as_cut : c.watch_free.new.self ≡ cut = c.in_ok-is_watched.ensures.unchanged (ap Ok c.if-not-is_watched.true) in
    let at : place ≡ length cut.pairs.items = c.loop-place.invariant.at ∙ ap (λ (ps : Vec Pair). length ps.items) (sym c.retreat.ensures.pairs) in
    let now : IsSearching (take place cut.clauses) cut = subst (λ (h : Held). IsSearching (take place h) cut) (sym c.retreat.ensures.same.clauses) (c.retreat.ensures.searching (take place s.clauses) c.loop-place.invariant.searching) in
    subst (λ (x : Search). IsSearching (take (length x.pairs.items) x.clauses) x) (sym as_cut) (subst (λ k. IsSearching (take k cut.clauses) cut) at now)

pub returns-clause-searching : goal.returns-clause-searching
returns-clause-searching c =
    let s = c.loop-place.self in
    subst (λ k. IsSearching (take k s.clauses) s) c.loop-place.invariant.at c.loop-place.invariant.searching
