use Rattle.std.proofs.Common.{sym, refl, ◌∙◌}
use Rattle.clause_store.proofs.EntryLaws.{held-none, held-at, marked-none, marked-at}
use Rattle.clause_store.proofs.index.mark.Goals as goal

pub returns-in_default-clause-was : goal.returns-in_default-clause-was
returns-in_default-clause-was c = sym (held-none c.args.entries.now c.args.id (c.in_default.ensures.none refl))

pub returns-in_default-clause-marked : goal.returns-in_default-clause-marked
returns-in_default-clause-marked c = sym (marked-none c.args.entries.now c.args.id c.args.is_held (c.in_default.ensures.none refl))

pub returns-then-entry-clause-was : goal.returns-then-entry-clause-was
returns-then-entry-clause-was c =
    sym (held-at c.args.entries.now c.in-Some.place _ c.args.id c.requires.rising c.in-Some.ensures.some.0 (c.in-Some.ensures.some.1 _) ∙ c.if-entry.true)

pub returns-then-entry-clause-marked : goal.returns-then-entry-clause-marked
returns-then-entry-clause-marked c = sym (marked-at c.args.entries.now c.in-Some.place _ c.args.id c.args.is_held c.requires.rising c.in-Some.ensures.some.0 (c.in-Some.ensures.some.1 _))

pub returns-else-entry-clause-was : goal.returns-else-entry-clause-was
returns-else-entry-clause-was c =
    sym (held-at c.args.entries.now c.in-Some.place _ c.args.id c.requires.rising c.in-Some.ensures.some.0 (c.in-Some.ensures.some.1 _) ∙ c.if-entry.false)

pub returns-else-entry-clause-marked : goal.returns-else-entry-clause-marked
returns-else-entry-clause-marked c = sym (marked-at c.args.entries.now c.in-Some.place _ c.args.id c.args.is_held c.requires.rising c.in-Some.ensures.some.0 (c.in-Some.ensures.some.1 _))
