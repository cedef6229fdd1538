use Rattle.std.proofs.Common.{◌≡◌, ◌<◌, ◌++◌, [], ◌∷◌, ℕ, List, length, append_assoc, sym, ◌∙◌, ap, subst, arith, lit<, lit≤}
use Rattle.std.proofs.lemmas.List.{append-nil}
use Rattle.fbas_model.specs.Nodes.{listed_from}
use Rattle.fbas_model.specs.Systems.{System as Whole, IsSystem}
use Rattle.fbas_model.proofs.Closure.{size_le_length}
use Rattle.fbas_model.proofs.Listed.{iterated_below, iterated_few}
use Rattle.fbas_core.proofs.Cutting.{cutting_yes, cutting_no, cutting_last}
use Rattle.fbas_core.proofs.System.cut.Goals as goal
use Rattle.fbas_core.proofs.System.cut.Goals.{then-has, else-has}

pub new-part-requires : goal.new-part-requires
new-part-requires c =
    let system = subst (λ (s : Whole). IsSystem s.names s.sets) c.self.view_is c.self.invariant.0 in
    (lit< tt, (omega (arith, size_le_length c.args.kept.now, c.count.ensures, system.places, system.few, c.requires.same_kept), lit≤ tt))

pub has-requires : goal.has-requires
has-requires c =
    let whole = ap (λ (vs : List ℕ). c.loop-v.yielded ++ vs) (sym c.in-Some.ensures.steps) ∙ c.loop-v.invariant.0 in
    let low : c.in-Some.v < length c.args.kept.now = iterated_below c.args.kept.now c.loop-v.yielded c.next.new.self c.in-Some.v whole in
    (lit< tt, omega (arith, low, c.requires.same_n, c.requires.same_kept))

pub put-requires : goal.put-requires
put-requires c =
    let whole = ap (λ (vs : List ℕ). c.loop-v.yielded ++ vs) (sym c.in-Some.ensures.steps) ∙ c.loop-v.invariant.0 in
    (lit< tt, omega (arith, iterated_few c.args.kept.now c.loop-v.yielded c.next.new.self c.in-Some.v whole, c.loop-v.invariant.1.size, c.loop-v.invariant.1.now))

pub overflow_add-rank : goal.overflow_add-rank
overflow_add-rank c =
    let whole = ap (λ (vs : List ℕ). c.loop-v.yielded ++ vs) (sym c.in-Some.ensures.steps) ∙ c.loop-v.invariant.0 in
    omega (arith, iterated_few c.args.kept.now c.loop-v.yielded c.next.new.self c.in-Some.v whole, c.loop-v.invariant.1.now, c.count.ensures, c.count.type_inv)

pub loop-v-preserved : goal.loop-v-preserved
loop-v-preserved c =
    let t = c.args.kept.now in
    let s = c.args.set.now in
    let ws = c.loop-v.yielded in
    let v = c.in-Some.v in
    let whole = ap (λ (vs : List ℕ). ws ++ vs) (sym c.in-Some.ensures.steps) ∙ c.loop-v.invariant.0 in (
      append_assoc ws (v ∷ []) c.next.new.self ∙ whole,
      elim c.if-has.branch [
        | then-has w ↦ rw w.part-is (cutting_yes t s c.loop-v.part c.loop-v.rank v ws c.loop-v.invariant.1 w.put.new.self (sym c.has.ensures ∙ w.if-has.true) w.put.ensures.size w.put.ensures.added)
        | else-has w ↦ rw w.part-is (cutting_no t s c.loop-v.part c.loop-v.rank v ws c.loop-v.invariant.1 (sym c.has.ensures ∙ w.if-has.false))
      ],
    )

pub returns-clause-part : goal.returns-clause-part
returns-clause-part c =
    let ws = c.loop-v.yielded in
    let whole : ws ≡ listed_from 0 c.args.kept.now = sym (append-nil ws) ∙ (ap (λ (vs : List ℕ). ws ++ vs) (sym c.in-None.ensures.steps.0) ∙ c.loop-v.invariant.0) in
    cutting_last c.args.kept.now c.args.set.now c.loop-v.part c.loop-v.rank ws (c.requires.same_kept ∙ sym c.requires.same_n) whole c.loop-v.invariant.1
