use Rattle.std.proofs.Common.{◌∙◌, sym, subst}
use Rattle.lrat_model.specs.Clauses.{Held}
use Rattle.cdcl_core.specs.Searching.{IsSearching}
use Rattle.cdcl_core.proofs.Moves.{searching_guided}
use Rattle.cdcl_core.proofs.search.Search.turn_back.Goals as goal

pub returns-in-Some-clause-searching : goal.returns-in-Some-clause-searching
returns-in-Some-clause-searching c =
    let s = c.args.self.now in
    let was = c.requires.searching in
    subst (λ (h : Held). IsSearching h c.cut.new.self) (sym c.cut.ensures.same.clauses) (c.cut.ensures.searching s.clauses (searching_guided s.clauses s _ (record { ordered = c.look.ensures ∙ was.guide.ordered; marked = was.guide.marked }) was))
