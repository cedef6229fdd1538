use Rattle.std.proofs.Common.{length, ap, ◌∙◌}
use Rattle.fbas_model.specs.Nodes.{Table}
use Rattle.reach_kinds.proofs.GroupKnown.{over_faulty, over_cut}
use Rattle.reach_kinds.proofs.group_sets.named_quorum.Goals as goal

pub is_quorum_in-requires-clause-same_n : goal.is_quorum_in-requires-clause-same_n
is_quorum_in-requires-clause-same_n c =
    ap (λ (t : Table). length t) c.cut-cut.ensures.part
    ∙ over_cut c.args.scope.now.system.now c.args.scope.now.nodes.now c.args.scope.now.faulty.now c.args.over.now c.requires.part c.requires.over c.in_ok-set.set (ap (λ (t : Table). length t) c.in_ok-set.ensures.is ∙ c.in_ok-named.ensures.size)

pub is_quorum_in-requires-clause-same_faulty : goal.is_quorum_in-requires-clause-same_faulty
is_quorum_in-requires-clause-same_faulty c = over_faulty c.args.scope.now.system.now c.args.scope.now.nodes.now c.args.scope.now.faulty.now c.args.over.now c.requires.part c.requires.over
