use Rattle.cdcl_core.proofs.search.Search.retreat.Goals as goal

pub favour-requires-clause-searching : goal.favour-requires-clause-searching
favour-requires-clause-searching c = (c.requires.searching.0, c.choose_order.ensures.searching c.requires.searching.0 c.requires.searching.1)

pub cut-requires : goal.cut-requires
cut-requires c = record { searching = (c.requires.searching.0, c.favour.ensures.searching c.requires.searching.0 (c.choose_order.ensures.searching c.requires.searching.0 c.requires.searching.1)) }

pub returns-clause-searching : goal.returns-clause-searching
returns-clause-searching c = λ held was. c.cut.ensures.searching held (c.favour.ensures.searching held (c.choose_order.ensures.searching held was))
