use Rattle.std.proofs.Common.{◌≡◌, length, sym, ◌∙◌, ap, arith}
use Rattle.fbas_model.specs.Nodes.{Table, members, only, ◌∖◌}
use Rattle.greatest_quorum.proofs.Minimal.{reduced_first, reduced_pass, reduced_take, reduced_keep, reduced_whole}
use Rattle.greatest_quorum.proofs.minimal_quorum.Goals as goal
use Rattle.greatest_quorum.proofs.minimal_quorum.Goals.{then-has+then-quorum_with, then-has+else-quorum_with, else-has}

pub loop-v-init : goal.loop-v-init
loop-v-init c =
    reduced_first c.args.system.now.sets (members c.args.faulty.now) c.args.q.now c.args.scratch.now c.new-needed.result (c.new-needed.ensures.size ∙ (c.len.ensures.sets ∙ sym c.requires.same_n)) c.new-needed.ensures.empty c.requires.quorum

pub loop-v-preserved : goal.loop-v-preserved
loop-v-preserved c =
    let f = c.args.system.now.sets in
    let b = members c.args.faulty.now in
    let start = c.args.q.now in
    let now = c.loop-v.q in
    let scratch = c.args.scratch.now in
    let after = c.loop-v.scratch in
    let needed = c.loop-v.needed in
    let v = c.loop-v.v in
    let reduced = c.loop-v.invariant in
    elim c.if-has.branch [
      | then-has+then-quorum_with w ↦
          let more = w.quorum_with.new.u in
          let without = w.take.ensures.taken ∙ ap (λ (t : Table). members t ∖ only v) w.copy_from.ensures in
          let e : length more ≡ length start = w.quorum_with.ensures.same_n ∙ (w.take.ensures.size ∙ (ap length w.copy_from.ensures ∙ reduced.same_n)) in
          let n : length more ≡ length scratch = e ∙ (c.requires.same_n ∙ sym c.requires.same_scratch) in
          rw (w.q-is, w.scratch-is, w.needed-is, w.copy_from-then-quorum_with.ensures) (reduced_take f b start now w.take.new.self scratch after more needed v reduced without n e w.if-quorum_with.ensures.found)
      | then-has+else-quorum_with w ↦
          let more = w.quorum_with.new.u in
          let without = w.take.ensures.taken ∙ ap (λ (t : Table). members t ∖ only v) w.copy_from.ensures in
          let e : length more ≡ length start = w.quorum_with.ensures.same_n ∙ (w.take.ensures.size ∙ (ap length w.copy_from.ensures ∙ reduced.same_n)) in
          let n : length more ≡ length scratch = e ∙ (c.requires.same_n ∙ sym c.requires.same_scratch) in
          rw (w.q-is, w.scratch-is, w.needed-is) (reduced_keep f b start now w.take.new.self scratch after more needed w.put.new.self v reduced (sym c.has.ensures ∙ w.if-has.true) without n w.put.ensures.size w.put.ensures.added w.if-quorum_with.ensures.found)
      | else-has w ↦ rw (w.q-is, w.scratch-is, w.needed-is) (reduced_pass f b start now scratch after needed v reduced (sym c.has.ensures ∙ w.if-has.false))
    ]

pub returns-clause-minimal : goal.returns-clause-minimal
returns-clause-minimal c =
    reduced_whole c.args.system.now.sets (members c.args.faulty.now) c.args.q.now c.loop-v.q c.args.scratch.now c.loop-v.scratch c.loop-v.needed c.loop-v.v (omega (arith, c.len-v-end.ensures.sets, c.requires.same_n)) c.loop-v.invariant
