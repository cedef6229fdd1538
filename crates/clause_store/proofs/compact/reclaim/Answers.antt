use Rattle.std.proofs.Common.{[]}
use Rattle.clause_store.proofs.PackedLaws.{held_in-packed, index-packed}
use Rattle.clause_store.proofs.compact.reclaim.Goals as goal

pub returns-then-removed-len-clause-held : goal.returns-then-removed-len-clause-held
returns-then-removed-len-clause-held c =
    rw (c.compact.ensures.entries, c.compact.ensures.literals) (held_in-packed c.args.arena.now.items [] c.args.entries.now.items c.requires.1.within)

pub returns-then-removed-len-clause-index : goal.returns-then-removed-len-clause-index
returns-then-removed-len-clause-index c = λ last index.
    rw (c.compact.ensures.entries, c.compact.ensures.literals) (index-packed c.args.arena.now.items c.args.entries.now.items last index)
