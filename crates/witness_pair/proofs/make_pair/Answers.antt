use Rattle.std.proofs.Common.{sym, ◌∙◌}
use Rattle.fbas_model.proofs.QuorumLaw.{quorum-to}
use Rattle.witness_pair.proofs.PairLaws.{no_quorum, least_of_both, pair_of_quorums}
use Rattle.witness_pair.proofs.make_pair.Goals as goal

pub returns-then-not-is_quorum-clause-fault : goal.returns-then-not-is_quorum-clause-fault
returns-then-not-is_quorum-clause-fault c =
    no_quorum c.args.system.now.sets c.args.faulty.now c.args.u c.requires.same_faulty c.requires.same_u (sym c.is_quorum.ensures ∙ c.if-not-is_quorum.true)

pub returns-then-not-is_quorum-2-clause-fault : goal.returns-then-not-is_quorum-2-clause-fault
returns-then-not-is_quorum-2-clause-fault c =
    let f = c.args.system.now.sets in
    let b = c.args.faulty.now in (
      quorum-to f b c.args.u (sym c.is_quorum.ensures ∙ c.if-not-is_quorum.false),
      no_quorum f b c.args.w c.requires.same_faulty c.requires.same_w (sym c.is_quorum-2.ensures ∙ c.if-not-is_quorum-2.true),
    )

pub returns-in-Some-clause-fault : goal.returns-in-Some-clause-fault
returns-in-Some-clause-fault c =
    let f = c.args.system.now.sets in
    let b = c.args.faulty.now in (
      quorum-to f b c.args.u (sym c.is_quorum.ensures ∙ c.if-not-is_quorum.false),
      quorum-to f b c.args.w (sym c.is_quorum-2.ensures ∙ c.if-not-is_quorum-2.false),
      least_of_both c.args.u c.args.w c.in-Some.v (sym c.least_shared.ensures ∙ c.in-Some.is),
    )

pub returns-clause-pair : goal.returns-clause-pair
returns-clause-pair c =
    let f = c.args.system.now.sets in
    let b = c.args.faulty.now in
    pair_of_quorums f b c.args.u c.args.w c.pair_of.result c.pair_of.ensures (quorum-to f b c.args.u (sym c.is_quorum.ensures ∙ c.if-not-is_quorum.false)) (quorum-to f b c.args.w (sym c.is_quorum-2.ensures ∙ c.if-not-is_quorum-2.false)) (sym c.least_shared.ensures ∙ c.in_default.is)
