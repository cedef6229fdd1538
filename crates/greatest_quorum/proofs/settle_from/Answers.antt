use Rattle.std.proofs.Common.{◌≡◌, ◌&&◌, Bool, false, sym, ◌∙◌, ap, refl}
use Rattle.std.proofs.lemmas.Bool.{and_from}
use Rattle.std.proofs.Math.Bool.{and-false}
use Rattle.fbas_model.specs.Nodes.{members}
use Rattle.greatest_quorum.proofs.Shrinking.{shrinking_from, shrinking_more, fewer_left, needed_more, none_left, shrunk}
use Rattle.greatest_quorum.proofs.settle_from.Goals as goal
use Rattle.greatest_quorum.proofs.settle_from.Goals.{else-look-via-then-look+else-has, else-look-via-else-look}

pub loop-v-init : goal.loop-v-init
loop-v-init c =
    (refl, c.requires.same_again ∙ sym c.requires.same_n, λ waiting within. (shrinking_from c.args.system.now.sets (members c.args.faulty.now) c.args.u.now c.args.again.now (c.requires.same_again ∙ sym c.requires.same_n) waiting, within))

pub returns-then-has-clause-settled : goal.returns-then-has-clause-settled
returns-then-has-clause-settled c = λ waiting within.
    let needed = members c.args.needed.now in
    none_left c.args.system.now.sets (members c.args.faulty.now) c.args.u.now c.loop-v.u c.look.new.u c.loop-v.again c.look.new.again c.in-Some.v needed c.look.result (c.loop-v.invariant.2 waiting within).0 c.look.ensures
    (and_from c.look.result (needed c.in-Some.v) c.if-look.true (sym c.has.ensures ∙ c.if-has.true))

pub loop-v-smaller : goal.loop-v-smaller
loop-v-smaller c =
    fewer_left c.args.system.now.sets (members c.args.faulty.now) c.args.u.now c.loop-v.u c.look.new.u c.loop-v.again c.look.new.again c.in-Some.v c.look.result c.loop-v.invariant.1 c.look.ensures c.in-Some.ensures

pub loop-v-preserved : goal.loop-v-preserved
loop-v-preserved c =
    let f = c.args.system.now.sets in
    let b = members c.args.faulty.now in
    let v = c.in-Some.v in
    let needed = members c.args.needed.now in
    let out : (c.look.result && needed v) ≡ false = elim c.else-look.branch [
      | else-look-via-then-look+else-has w ↦ ap (λ (m : Bool). c.look.result && m) (sym w.has.ensures ∙ w.if-has.false) ∙ and-false c.look.result
      | else-look-via-else-look w ↦ ap (λ (m : Bool). m && needed v) w.if-look.false
    ] in (
      c.look.ensures.same_n ∙ c.loop-v.invariant.0,
      c.look.ensures.same_again ∙ c.loop-v.invariant.1,
      λ waiting within.
          let before = c.loop-v.invariant.2 waiting within in (
            shrinking_more f b c.args.u.now c.loop-v.u c.look.new.u c.loop-v.again c.look.new.again v c.look.result before.0 c.look.ensures,
            needed_more f b c.args.u.now c.loop-v.u c.look.new.u c.loop-v.again c.look.new.again v needed c.look.result c.look.ensures out before.1,
          ),
    )

pub returns-clause-settled : goal.returns-clause-settled
returns-clause-settled c = λ waiting within.
    let after = c.loop-v.invariant.2 waiting within in
    (shrunk c.args.system.now.sets (members c.args.faulty.now) c.args.u.now c.loop-v.u c.loop-v.again c.requires.same_n c.in_default.ensures after.0, after.1)
