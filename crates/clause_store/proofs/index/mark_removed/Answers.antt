use Rattle.std.proofs.Common.{refl, sym, ◌∷◌, [], false, take, get_or, subst, ◌∙◌}
use Rattle.clause_store.specs.Entries.{IsRising, AreForward}
use Rattle.clause_store.proofs.EntryLaws.{marked-nothing, marked-rising, marked-forward, marked-step, AreHeld-none, AreHeld-step, back_to_start}
use Rattle.clause_store.proofs.RemovalLaws.{fault_here, fault_later}
use Rattle.clause_store.proofs.index.mark_removed.Goals as goal

pub loop-i-init : goal.loop-i-init
loop-i-init c = record {
  rising = c.requires.rising;
  forward = c.requires.forward;
  so_far = sym (marked-nothing c.args.entries.now false);
  held = AreHeld-none c.args.entries.now;
  faults = λ arena. refl;
}

pub mark-requires-clause-forward : goal.mark-requires-clause-forward
mark-requires-clause-forward c = c.loop-i.invariant.forward

pub mark_held-requires-clause-rising : goal.mark_held-requires-clause-rising
mark_held-requires-clause-rising c = subst (λ es. IsRising es) (sym c.mark.ensures.marked) (marked-rising c.loop-i.entries (get_or c.args.ids.now c.loop-i.i 0 ∷ []) false c.loop-i.invariant.rising)

pub mark_held-requires-clause-forward : goal.mark_held-requires-clause-forward
mark_held-requires-clause-forward c = subst (λ es. AreForward es) (sym c.mark.ensures.marked) (marked-forward c.loop-i.entries (get_or c.args.ids.now c.loop-i.i 0 ∷ []) false c.loop-i.invariant.forward)

pub returns-in_default-clause-missing : goal.returns-in_default-clause-missing
returns-in_default-clause-missing c = λ arena.
    sym (c.loop-i.invariant.faults arena)
    ∙ fault_here arena c.args.entries.now c.loop-i.entries c.args.ids.now c.loop-i.i c.loop-i-test.true c.loop-i.invariant.so_far (sym c.in_default.ensures.was)

pub returns-in_default-clause-unchanged : goal.returns-in_default-clause-unchanged
returns-in_default-clause-unchanged c =
    back_to_start c.args.entries.now c.loop-i.entries c.mark.new.entries c.mark_held.new.entries (take c.loop-i.i c.args.ids.now) (get_or c.args.ids.now c.loop-i.i 0)
    c.loop-i.invariant.so_far (sym c.in_default.ensures.was) c.mark.ensures.marked c.mark_held.ensures c.loop-i.invariant.held

pub loop-i-preserved : goal.loop-i-preserved
loop-i-preserved c =
    let ids = c.args.ids.now in
    let i = c.loop-i.i in
    let was = sym c.in-Some.ensures.was in
    record {
      rising = subst (λ es. IsRising es) (sym c.mark.ensures.marked) (marked-rising c.loop-i.entries (get_or ids i 0 ∷ []) false c.loop-i.invariant.rising);
      forward = subst (λ es. AreForward es) (sym c.mark.ensures.marked) (marked-forward c.loop-i.entries (get_or ids i 0 ∷ []) false c.loop-i.invariant.forward);
      so_far = marked-step c.args.entries.now c.loop-i.entries c.mark.new.entries ids i false c.loop-i-test.true c.loop-i.invariant.so_far c.mark.ensures.marked;
      held = AreHeld-step c.args.entries.now c.loop-i.entries ids i c.loop-i-test.true c.requires.rising c.loop-i.invariant.so_far c.loop-i.invariant.held was;
      faults = λ arena. fault_later arena c.args.entries.now c.loop-i.entries ids i c.loop-i-test.true c.loop-i.invariant.so_far was ∙ c.loop-i.invariant.faults arena;
    }
