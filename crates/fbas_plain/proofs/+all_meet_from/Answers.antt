use Rattle.fbas_model.specs.Nodes.{Nodes, members}
use Rattle.fbas_model.specs.Fbas.{Quorum, MeetsQuorums}
use Rattle.fbas_plain.proofs.Sets.{all_chosen, failed_without, kept_without, kept_through, tried_both}
use Rattle.fbas_plain.proofs.+all_meet_from.Goals as goal

pub returns-then-v-sets-clause-meet : goal.returns-then-v-sets-clause-meet
returns-then-v-sets-clause-meet t c =
    all_chosen (λ (w : Nodes). MeetsQuorums c.args.sets.now (members c.args.faulty.now) w) c.args.sets.now (members c.args.faulty.now) c.args.first.now c.args.v c.meets_all_if_quorum.result c.requires.same_n c.if-v-sets.true c.meets_all_if_quorum.ensures.meets

pub returns-then-not-all_meet_from-clause-kept : goal.returns-then-not-all_meet_from-clause-kept
returns-then-not-all_meet_from-clause-kept t c = kept_without c.args.v c.args.first.now c.take.new.self c.all_meet_from.new.first c.take.ensures.taken c.all_meet_from.ensures.kept

pub returns-then-not-all_meet_from-clause-meet : goal.returns-then-not-all_meet_from-clause-meet
returns-then-not-all_meet_from-clause-meet t c =
    let P = λ (w : Nodes). Quorum c.args.sets.now (members c.args.faulty.now) w → (λ (w : Nodes). MeetsQuorums c.args.sets.now (members c.args.faulty.now) w) w in
    failed_without P c.args.v c.args.first.now c.take.new.self c.take.ensures.taken c.all_meet_from.result c.if-not-all_meet_from.true c.all_meet_from.ensures.meet

pub returns-clause-kept : goal.returns-clause-kept
returns-clause-kept t c =
    let P = λ (w : Nodes). Quorum c.args.sets.now (members c.args.faulty.now) w → (λ (w : Nodes). MeetsQuorums c.args.sets.now (members c.args.faulty.now) w) w in
    kept_through P c.args.v c.args.first.now c.take.new.self c.all_meet_from.new.first c.put.new.self c.all_meet_from-2.new.first c.take.ensures.taken c.all_meet_from.ensures.kept c.put.ensures.added c.all_meet_from-2.ensures.kept

pub returns-clause-meet : goal.returns-clause-meet
returns-clause-meet t c =
    let P = λ (w : Nodes). Quorum c.args.sets.now (members c.args.faulty.now) w → (λ (w : Nodes). MeetsQuorums c.args.sets.now (members c.args.faulty.now) w) w in
    tried_both P c.args.v c.args.first.now c.take.new.self c.all_meet_from.new.first c.put.new.self c.all_meet_from-2.new.first c.take.ensures.taken c.all_meet_from.ensures.kept c.put.ensures.added c.all_meet_from.result c.all_meet_from-2.result c.if-not-all_meet_from.false c.all_meet_from.ensures.meet c.all_meet_from-2.ensures.meet
