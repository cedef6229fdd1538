use Rattle.std.proofs.Common.{◌≡◌, ◌∙◌, sym, ap, subst, length, take}
use Rattle.lrat_model.specs.Clauses.{Held}
use Rattle.cdcl_core.specs.declared.watches.Pair.{Pair}
use Rattle.cdcl_core.specs.Searching.{IsSearching}
use Rattle.std.specs.Global.{Vec}
use Rattle.cdcl_core.proofs.search.Search.watch_left.Goals as goal

pub watch_rest-requires-clause-searching : goal.watch_rest-requires-clause-searching
watch_rest-requires-clause-searching c =
    let s = c.args.self.now in
    let front = take (length s.pairs.items) s.clauses in
    let new = c.begin_again.new.self in
    let front_is : take (length new.pairs.items) new.clauses ≡ front = ap (λ (ps : Vec Pair). take (length ps.items) new.clauses) c.begin_again.ensures.pairs ∙ ap (λ (h : Held). take (length s.pairs.items) h) c.begin_again.ensures.same.clauses in
    subst (λ (h : Held). IsSearching h new) (sym front_is) (c.begin_again.ensures.searching front c.requires.searching)
