use Rattle.std.proofs.Common.{sym, ◌∷◌, [], true, get_or, subst}
use Rattle.clause_store.specs.Entries.{IsRising, AreForward}
use Rattle.clause_store.proofs.EntryLaws.{marked-nothing, marked-rising, marked-forward, marked-step}
use Rattle.clause_store.proofs.index.mark_held.Goals as goal

pub loop-id-init : goal.loop-id-init
loop-id-init c = record { rising = c.requires.rising; forward = c.requires.forward; so_far = sym (marked-nothing c.args.entries.now true) }

pub mark-requires-clause-forward : goal.mark-requires-clause-forward
mark-requires-clause-forward c = c.loop-id.invariant.forward

pub loop-id-preserved : goal.loop-id-preserved
loop-id-preserved c =
    let ids = c.args.ids.now in
    let i = c.loop-id.id-index in
    record {
      rising = subst (λ es. IsRising es) (sym c.mark.ensures.marked) (marked-rising c.loop-id.entries (get_or ids i 0 ∷ []) true c.loop-id.invariant.rising);
      forward = subst (λ es. AreForward es) (sym c.mark.ensures.marked) (marked-forward c.loop-id.entries (get_or ids i 0 ∷ []) true c.loop-id.invariant.forward);
      so_far = marked-step c.args.entries.now c.loop-id.entries c.mark.new.entries ids i true c.loop-id-test.true c.loop-id.invariant.so_far c.mark.ensures.marked;
    }
