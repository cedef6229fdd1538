use Rattle.std.proofs.Common.{ℕ, ◌+◌, ◌||◌, ◌==◌, sym, ap, subst, ◌∙◌, arith}
use Rattle.fbas_model.specs.Nodes.{Nodes, Table, members}
use Rattle.whatif_session.proofs.Brought.{Moving, moving_first, moving_past, moving_on, moved_all}
use Rattle.whatif_session.proofs.naming.moved_members.Goals as goal
use Rattle.whatif_session.proofs.naming.moved_members.Goals.{then-has, else-has}

pub loop-v-init : goal.loop-v-init
loop-v-init c = moving_first c.args.place c.args.n c.args.set.now c.new-moved.result c.new-moved.ensures.size c.new-moved.ensures.empty

pub loop-v-preserved : goal.loop-v-preserved
loop-v-preserved c = elim c.if-has.branch [
  | then-has w ↦
      let put = w.put.ensures.added ∙ ap {B = Nodes} (λ (k : ℕ) x. members c.loop-v.moved x || (x == k)) w.number_after.ensures in
      subst (λ (m : Table). Moving c.args.place c.args.n (c.loop-v.v + 1) c.args.set.now m) (sym w.moved-is) (moving_on c.args.place c.args.n c.loop-v.v c.args.set.now c.loop-v.moved w.put.new.self c.loop-v.invariant (sym c.has.ensures ∙ w.if-has.true) w.put.ensures.size put)
  | else-has w ↦ subst (λ (m : Table). Moving c.args.place c.args.n (c.loop-v.v + 1) c.args.set.now m) (sym w.moved-is) (moving_past c.args.place c.args.n c.loop-v.v c.args.set.now c.loop-v.moved c.loop-v.invariant (sym c.has.ensures ∙ w.if-has.false))
]

pub returns : goal.returns
returns c = moved_all c.args.place c.args.n c.loop-v.v c.args.set.now c.loop-v.moved c.requires.place c.requires.size (omega (arith, c.loop-v-test.false)) c.loop-v.invariant
