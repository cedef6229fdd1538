use Rattle.std.proofs.Common.{◌≡◌, ◌+◌, ◌<◌, ℕ, List, length, arith, ap, ◌∙◌}
use Rattle.std.specs.Vec.{with_items}
use Rattle.std.proofs.lemmas.List.{with_items_is}
use Rattle.lrat_model.specs.Literal.{Literal}
use Rattle.cardinality_counts.specs.declared.gates.Gates.{Gates}
use Rattle.cardinality_counts.proofs.CountLaws.{IsRaised, raised_same, recounted, tallied_more}
use Rattle.cardinality_counts.proofs.gates.Gates.count.Goals as goal

pub loop-self-preserved : goal.loop-self-preserved
loop-self-preserved c =
    let before : Gates = c.loop-self.self in
    let new : List ℕ = c.raise_by.new.counts in
    let l : Literal = c.index-trail-self.result in
    let within : before.counted < length c.args.trail.now = omega arith in
    let long : length new ≡ length before.counts.items = c.in_ok-raise_by.ensures.long ∙ ap length c.as_mut_slice.ensures.value in
    let items : (with_items before.counts new).items ≡ new = with_items_is before.counts new (omega (arith, long, before.counts.ok.0)) in
    let raised : IsRaised before.starts.items before.entries.items before.counts.items new l =
    raised_same before.starts.items before.entries.items before.counts.items c.deref.result.now c.deref-in-loop-self.result.now c.as_mut_slice.result.now new l c.deref.ensures.value c.deref-in-loop-self.ensures.value c.as_mut_slice.ensures.value c.in_ok-raise_by.ensures.raised in
    let tallied = tallied_more before.starts.items before.entries.items before.counts.items new c.args.trail.now l long before.counted within c.index-trail-self.is c.loop-self.invariant.counting.tallied raised in
    record {
      counting = recounted before c.args.trail.now c.loop-self.invariant.counting (with_items before.counts new) new (before.counted + 1) c.see.new.guesses items long (omega (arith, within)) tallied;
      gates = c.loop-self.invariant.gates;
      vars = c.loop-self.invariant.vars;
    }
