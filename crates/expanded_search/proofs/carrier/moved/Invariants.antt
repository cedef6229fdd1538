use Rattle.std.proofs.Common.{take}
use Rattle.std.specs.Prelude.{All}
use Rattle.lrat_text.specs.Texts.{IsId}
use Rattle.expanded_search.specs.Moved.{AreMoved}
use Rattle.expanded_search.proofs.carrier.moved.Given as goal

abbrev pub invariant-loop-id : goal.invariant-loop-id
invariant-loop-id l = AreMoved l.bases.written l.bases.formula (take l.id-index l.ids) l.news.items × All IsId l.news.items
