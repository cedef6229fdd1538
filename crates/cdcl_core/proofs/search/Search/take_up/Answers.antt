use Rattle.std.proofs.Common.{◌≡◌, ◌∙◌, sym, ap, subst, length, take}
use Rattle.std.specs.Global.{Vec}
use Rattle.lrat_model.specs.Clauses.{Held}
use Rattle.cdcl_core.specs.declared.watches.Pair.{Pair}
use Rattle.cdcl_core.specs.Searching.{IsSearching}
use Rattle.cdcl_core.proofs.search.Search.take_up.Goals as goal

pub returns-clause-searching : goal.returns-clause-searching
returns-clause-searching c =
    let s = c.watch_next.new.self in
    let front = take (length s.pairs.items) s.clauses in
    let new = c.go_back.new.self in
    let front_is : take (length new.pairs.items) new.clauses ≡ front = ap (λ (ps : Vec Pair). take (length ps.items) new.clauses) c.go_back.ensures.pairs ∙ ap (λ (h : Held). take (length s.pairs.items) h) c.go_back.ensures.same.clauses in
    subst (λ (h : Held). IsSearching h new) (sym front_is) (c.go_back.ensures.searching front c.in_ok-watch_next.ensures.searching)
