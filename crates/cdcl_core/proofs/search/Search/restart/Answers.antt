use Rattle.std.proofs.Common.{◌∙◌, ap, sym, subst, length}
use Rattle.lrat_model.specs.Clauses.{Held}
use Rattle.cdcl_core.specs.Searching.{IsSearching}
use Rattle.cdcl_core.proofs.Moves.{searching_guided}
use Rattle.cdcl_core.proofs.search.Search.restart.Goals as goal

pub returns-then-is_restart_due-clause-searching : goal.returns-then-is_restart_due-clause-searching
returns-then-is_restart_due-clause-searching c =
    let s = c.args.self.now in
    let was = c.requires.searching in
    let order = c.is_restart_due.ensures.order ∙ was.guide.ordered in
    subst (λ (h : Held). IsSearching h c.go_back.new.self) (sym c.go_back.ensures.same.clauses) (c.go_back.ensures.searching s.clauses (searching_guided s.clauses s _ (record { ordered = order; marked = ap length c.is_restart_due.ensures.marks ∙ was.guide.marked }) was))
