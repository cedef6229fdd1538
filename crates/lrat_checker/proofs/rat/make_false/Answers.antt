use Rattle.std.proofs.Common.{◌≡◌, ◌||◌, true, false, [], ◌∷◌, drop, sym, refl, ap, ◌∙◌, subst}
use Rattle.std.proofs.lemmas.List.{append-nil, drop_all}
use Rattle.lrat_model.specs.Literal.{negated, same, has}
use Rattle.lrat_model.specs.Alike.{Alike}
use Rattle.lrat_model.specs.Rat.{made_false}
use Rattle.assignment_trail.specs.Assigned.{Assigned}
use Rattle.lrat_checker.specs.Extends.{Extends}
use Rattle.lrat_checker.proofs.HintLaws.{extends_more}
use Rattle.lrat_checker.proofs.GroupLaws.{made_passed, made_none, made_more}
use Rattle.lrat_checker.proofs.rat.make_false.Goals.{then-not-same+else-is_true, else-not-same}
use Rattle.lrat_checker.proofs.rat.make_false.Goals as goal

pub loop-l-init : goal.loop-l-init
loop-l-init c = record {
  vars = refl;
  grows = ([], sym (append-nil c.args.assignment.now.trues));
  so_far = λ trues alike. (trues, alike, refl);
}

pub returns-then-is_true-clause-made : goal.returns-then-is_true-clause-made
returns-then-is_true-clause-made c = λ trues alike.
    let so = c.loop-l.invariant.so_far trues alike in
    let differs : same c.args.left_out c.l-item.result ≡ false = sym c.same.ensures ∙ c.if-not-same.true in
    made_none c.args.left_out trues so.0 c.loop-l.assignment.trues c.args.clause.now c.loop-l.l-index c.l-item.result c.loop-l-test.true c.l-item.is so.1 so.2 differs (sym c.is_true.ensures ∙ c.if-is_true.true)

pub loop-l-preserved : goal.loop-l-preserved
loop-l-preserved c =
    let l = c.l-item.result in
    let old = c.loop-l.assignment.trues in
    elim c.if-not-same.branch [
      | then-not-same+else-is_true w ↦ record {
        vars = ap (λ (a : Assigned). a.vars) w.assignment-is ∙ w.force.ensures.vars ∙ c.loop-l.invariant.vars;
        grows = subst (λ (a : Assigned). Extends c.args.assignment.now.trues a.trues) (sym w.assignment-is) (extends_more c.args.assignment.now.trues old w.force.new.assignment.trues c.loop-l.invariant.grows w.force.ensures.grows);
        so_far = λ trues alike.
            let so = c.loop-l.invariant.so_far trues alike in
            let differs : same c.args.left_out l ≡ false = sym c.same.ensures ∙ w.if-not-same.true in
            let absent : has old l ≡ false = sym w.is_true.ensures ∙ w.if-is_true.false in
            let more : Alike (negated l ∷ old) w.force.new.assignment.trues = subst (λ k. Alike (k ∷ old) w.force.new.assignment.trues) w.negated.ensures w.force.ensures.trues in (
              negated l ∷ so.0,
              subst (λ (a : Assigned). Alike (negated l ∷ so.0) a.trues) (sym w.assignment-is) (λ m. ap (λ b. same m (negated l) || b) (so.1 m) ∙ more m),
              made_more c.args.left_out trues so.0 old c.args.clause.now c.loop-l.l-index l c.loop-l-test.true c.l-item.is so.1 so.2 differs absent,
            );
      }
      | else-not-same w ↦ record {
        vars = ap (λ (a : Assigned). a.vars) w.assignment-is ∙ c.loop-l.invariant.vars;
        grows = subst (λ (a : Assigned). Extends c.args.assignment.now.trues a.trues) (sym w.assignment-is) c.loop-l.invariant.grows;
        so_far = λ trues alike.
            let so = c.loop-l.invariant.so_far trues alike in
            let is : same c.args.left_out l ≡ true = sym c.same.ensures ∙ w.if-not-same.false in (
              so.0,
              subst (λ (a : Assigned). Alike so.0 a.trues) (sym w.assignment-is) so.1,
              made_passed c.args.left_out trues so.0 old c.args.clause.now c.loop-l.l-index l c.loop-l-test.true c.l-item.is so.1 so.2 is,
            );
      }
    ]

pub returns-clause-made : goal.returns-clause-made
returns-clause-made c = λ trues alike.
    let so = c.loop-l.invariant.so_far trues alike in
    let clause = c.args.clause.now in
    let ended : drop c.loop-l.l-index clause ≡ [] = drop_all c.loop-l.l-index clause c.loop-l-test.false in
    (so.0, sym so.2 ∙ ap (made_false c.args.left_out so.0) ended, so.1)
