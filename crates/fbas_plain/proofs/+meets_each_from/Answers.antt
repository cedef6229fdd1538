use Rattle.fbas_model.specs.Nodes.{Nodes, members, Meets}
use Rattle.fbas_model.specs.Fbas.{Quorum}
use Rattle.fbas_plain.proofs.Sets.{all_chosen, failed_without, kept_without, kept_through, tried_both}
use Rattle.fbas_plain.proofs.+meets_each_from.Goals as goal

pub returns-then-v-sets-clause-meets : goal.returns-then-v-sets-clause-meets
returns-then-v-sets-clause-meets t c =
    all_chosen (λ (w : Nodes). Meets (members c.args.s.now) w) c.args.sets.now (members c.args.faulty.now) c.args.u.now c.args.v c.meets_if_quorum.result c.requires.same_n c.if-v-sets.true c.meets_if_quorum.ensures

pub returns-then-not-meets_each_from-clause-kept : goal.returns-then-not-meets_each_from-clause-kept
returns-then-not-meets_each_from-clause-kept t c = kept_without c.args.v c.args.u.now c.take.new.self c.meets_each_from.new.u c.take.ensures.taken c.meets_each_from.ensures.kept

pub returns-then-not-meets_each_from-clause-meets : goal.returns-then-not-meets_each_from-clause-meets
returns-then-not-meets_each_from-clause-meets t c =
    let P = λ (w : Nodes). Quorum c.args.sets.now (members c.args.faulty.now) w → (λ (w : Nodes). Meets (members c.args.s.now) w) w in
    failed_without P c.args.v c.args.u.now c.take.new.self c.take.ensures.taken c.meets_each_from.result c.if-not-meets_each_from.true c.meets_each_from.ensures.meets

pub returns-clause-kept : goal.returns-clause-kept
returns-clause-kept t c =
    let P = λ (w : Nodes). Quorum c.args.sets.now (members c.args.faulty.now) w → (λ (w : Nodes). Meets (members c.args.s.now) w) w in
    kept_through P c.args.v c.args.u.now c.take.new.self c.meets_each_from.new.u c.put.new.self c.meets_each_from-2.new.u c.take.ensures.taken c.meets_each_from.ensures.kept c.put.ensures.added c.meets_each_from-2.ensures.kept

pub returns-clause-meets : goal.returns-clause-meets
returns-clause-meets t c =
    let P = λ (w : Nodes). Quorum c.args.sets.now (members c.args.faulty.now) w → (λ (w : Nodes). Meets (members c.args.s.now) w) w in
    tried_both P c.args.v c.args.u.now c.take.new.self c.meets_each_from.new.u c.put.new.self c.meets_each_from-2.new.u c.take.ensures.taken c.meets_each_from.ensures.kept c.put.ensures.added c.meets_each_from.result c.meets_each_from-2.result c.if-not-meets_each_from.false c.meets_each_from.ensures.meets c.meets_each_from-2.ensures.meets
