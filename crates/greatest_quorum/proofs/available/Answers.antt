use Rattle.std.proofs.Common.{◌<◌, length, sym, ◌∙◌, arith}
use Rattle.std.proofs.lemmas.Bool.{both_ways}
use Rattle.fbas_model.specs.Nodes.{members}
use Rattle.greatest_quorum.proofs.Availability.{gathered_none, gathered_put, gathered_pass, gathered_all, unmet_node, available_iff, outside_b}
use Rattle.greatest_quorum.proofs.UnmetLaws.{unmet_only, same_answer}
use Rattle.greatest_quorum.proofs.available.Goals as goal
use Rattle.greatest_quorum.proofs.available.Goals.{then-not-has+then-not-slice_outside, else-not-has, else-not-has-via-then-not-has+else-not-slice_outside, else-not-has-via-else-not-has}

pub loop-v-init : goal.loop-v-init
loop-v-init c =
    gathered_none c.args.system.now.sets (members c.args.b.now) c.clear.new.self c.clear.ensures.empty

pub loop-v-preserved : goal.loop-v-preserved
loop-v-preserved c =
    let f = c.args.system.now.sets in
    let b = members c.args.b.now in
    let v = c.loop-v.v in
    let low : v < length f = omega (arith, c.len-v-end.ensures.sets) in
    elim c.if-not-has.branch [
      | then-not-has+then-not-slice_outside w ↦
          rw w.scratch-is (gathered_put f b c.clear.new.self c.loop-v.scratch w.put.new.self v c.loop-v.invariant (unmet_node f b v low (sym c.has.ensures ∙ w.if-not-has.true) (λ h. both_ways w.slice_outside.result w.if-not-slice_outside.true (w.slice_outside.ensures.1 h))) w.put.ensures.size w.put.ensures.added)
      | else-not-has w ↦
          rw w.scratch-is (gathered_pass f b c.clear.new.self c.loop-v.scratch v c.loop-v.invariant (λ at. elim w.else-not-has.branch [
            | else-not-has-via-then-not-has+else-not-slice_outside u ↦ u.slice_outside.ensures.0 u.if-not-slice_outside.false
            | else-not-has-via-else-not-has u ↦ absurd (outside_b f b v at (sym c.has.ensures ∙ u.if-not-has.false))
          ]))
    ]

pub returns-clause-available : goal.returns-clause-available
returns-clause-available c =
    let f = c.args.system.now.sets in
    available_iff f (members c.args.b.now) c.clear.new.self c.loop-v.scratch c.loop-v.v c.is_empty.result (omega (arith, c.len-v-end.ensures.sets)) c.loop-v.invariant c.is_empty.ensures

pub returns-clause-counted : goal.returns-clause-counted
returns-clause-counted c =
    unmet_only c.args.system.now.sets c.args.b.now c.loop-v.scratch (c.loop-v.invariant.same_n ∙ c.clear.ensures.size ∙ c.requires.same_scratch) (gathered_all c.args.system.now.sets (members c.args.b.now) c.clear.new.self c.loop-v.scratch c.loop-v.v (omega (arith, c.len-v-end.ensures.sets)) c.loop-v.invariant)

pub returns-clause-answer : goal.returns-clause-answer
returns-clause-answer c = same_answer c.args.system.now.sets c.args.b.now c.is_empty.result (returns-clause-available c)
