use Rattle.clause_store.proofs.EntryLaws.{up_to, past}
use Rattle.clause_store.proofs.index.place_above.Goals as goal

pub returns-then-stands_at-clause-below : goal.returns-then-stands_at-clause-below
returns-then-stands_at-clause-below c =
    let here = simp c.if-stands_at.true at c.stands_at.ensures in
    up_to c.args.entries.now c.args.id c.place-guess.result c.requires here.0 here.1

pub returns-then-stands_at-clause-above : goal.returns-then-stands_at-clause-above
returns-then-stands_at-clause-above c =
    let here = simp c.if-stands_at.true at c.stands_at.ensures in
    past c.args.entries.now c.args.id c.place-guess.result c.requires here.0 here.1
