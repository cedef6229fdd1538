use Rattle.std.proofs.lemmas.Bool.{both_ways}
use Rattle.enumeration_journal.proofs.DecisionLaws.{faulty_blocks_not, blocking_is}
use Rattle.enumeration_journal.proofs.deciding.is_blocking.Goals as goal

pub returns-then-meets-clause-blocks : goal.returns-then-meets-clause-blocks
returns-then-meets-clause-blocks c = faulty_blocks_not c.args.system.now.sets c.args.faulty.now c.args.set.now (c.meets.ensures.0 c.if-meets.true)

pub returns-clause-blocks : goal.returns-clause-blocks
returns-clause-blocks c =
    blocking_is c.args.system.now.sets c.args.faulty.now c.args.set.now c.blocks-2.result c.requires.same_n c.requires.same_faulty
    (λ m. both_ways c.meets.result c.if-meets.false (c.meets.ensures.1 m)) c.blocks-2.ensures.blocks.0 c.blocks-2.ensures.blocks.1
