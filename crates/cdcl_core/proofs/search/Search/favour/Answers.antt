use Rattle.std.proofs.Common.{◌∙◌}
use Rattle.cdcl_core.proofs.Moves.{searching_guided}
use Rattle.cdcl_core.proofs.search.Search.favour.Goals as goal

pub returns-then-len-clause-searching : goal.returns-then-len-clause-searching
returns-then-len-clause-searching c = λ held was. searching_guided held c.args.self.now _ (record { ordered = c.raise_clause.ensures ∙ was.guide.ordered; marked = was.guide.marked }) was
