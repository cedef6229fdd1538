use Rattle.std.proofs.Common.{sym, ◌∙◌, arith}
use Rattle.std.proofs.lemmas.Bool.{both_ways}
use Rattle.fbas_model.specs.Nodes.{members}
use Rattle.greatest_quorum.proofs.Minimal.{thinned_pass, thinned_take, thinned_keep, thinned_whole, still_blocks}
use Rattle.greatest_quorum.proofs.minimal_block.Goals as goal
use Rattle.greatest_quorum.proofs.minimal_block.Goals.{then-has+then-not-blocks_without, then-has+else-not-blocks_without, else-has}

pub blocks_without-requires-clause-with_v : goal.blocks_without-requires-clause-with_v
blocks_without-requires-clause-with_v c =
    still_blocks c.args.system.now.sets (members c.args.faulty.now) (members c.loop-v.s) (members c.take.new.self) c.loop-v.v c.take.ensures.taken c.loop-v.invariant.meets

pub loop-v-preserved : goal.loop-v-preserved
loop-v-preserved c =
    elim c.if-has.branch [
      | then-has+then-not-blocks_without w ↦
          rw (w.s-is, w.scratch-is) (thinned_keep w.take.new.self w.put.new.self w.blocks_without.new.scratch c.loop-v.invariant (sym c.has.ensures ∙ w.if-has.true) w.take.ensures.size w.take.ensures.taken w.blocks_without.ensures.same_n (λ h. both_ways w.blocks_without.result w.if-not-blocks_without.true (w.blocks_without.ensures.blocks.1 h)) w.put.ensures.size w.put.ensures.added)
      | then-has+else-not-blocks_without w ↦
          rw (w.s-is, w.scratch-is) (thinned_take w.take.new.self w.blocks_without.new.scratch c.loop-v.invariant w.take.ensures.size w.take.ensures.taken w.blocks_without.ensures.same_n (w.blocks_without.ensures.blocks.0 w.if-not-blocks_without.false))
      | else-has w ↦ rw (w.s-is, w.scratch-is) (thinned_pass c.loop-v.invariant (sym c.has.ensures ∙ w.if-has.false))
    ]

pub returns-clause-minimal : goal.returns-clause-minimal
returns-clause-minimal c =
    thinned_whole c.args.system.now.sets (members c.args.faulty.now) c.args.s.now c.loop-v.s c.args.scratch.now c.loop-v.scratch c.loop-v.v (omega (arith, c.len-v-end.ensures.sets, c.requires.same_n)) c.requires.blocks c.loop-v.invariant
