use Rattle.witness_pair.proofs.PairLaws.{by_counting}
use Rattle.witness_pair.proofs.is_quorum.Goals as goal

pub returns : goal.returns
returns c = by_counting c.args.system.now.sets c.args.faulty.now c.args.u.now c.is_quorum.result c.requires.same_faulty c.requires.same_n c.is_quorum.ensures
