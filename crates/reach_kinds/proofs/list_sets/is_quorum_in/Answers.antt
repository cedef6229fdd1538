use Rattle.witness_pair.proofs.PairLaws.{by_counting}
use Rattle.reach_kinds.proofs.list_sets.is_quorum_in.Goals as goal

pub returns : goal.returns
returns c =
    let part = c.args.part.now in
    by_counting part.system.sets part.faulty c.args.set.now c.is_quorum.result c.requires.same_faulty c.requires.same_n c.is_quorum.ensures
