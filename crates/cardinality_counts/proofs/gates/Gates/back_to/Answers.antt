use Rattle.std.proofs.Common.{◌≡◌, ◌-◌, ◌<◌, length, arith, ap, ◌∙◌, refl}
use Rattle.std.specs.Vec.{with_items}
use Rattle.std.proofs.lemmas.List.{with_items_is}
use Rattle.cardinality_counts.proofs.CountLaws.{last_tallied, last_within, lowered_same, may_lower, may_lower_same, recounted, tallied_less}
use Rattle.cardinality_counts.proofs.gates.Gates.back_to.Goals as goal

pub lower_by-requires : goal.lower_by-requires
lower_by-requires c =
    let before = c.loop-self.self in
    let counting = c.loop-self.invariant.counting in
    let trail = c.args.trail.now in
    let l = c.index-trail-self.result in
    let may = may_lower before.starts.items before.entries.items before.counts.items before.counts.items trail l refl (before.counted - 1) (last_within before trail counting c.args.len c.loop-self-test.true) c.index-trail-self.is (last_tallied before trail counting c.args.len c.loop-self-test.true) in
    may_lower_same before.starts.items before.entries.items before.counts.items c.deref.result.now c.deref-in-loop-self.result.now c.as_mut_slice.result.now l c.deref.ensures.value c.deref-in-loop-self.ensures.value c.as_mut_slice.ensures.value may

pub loop-self-preserved : goal.loop-self-preserved
loop-self-preserved c =
    let before = c.loop-self.self in
    let counting = c.loop-self.invariant.counting in
    let new = c.lower_by.new.counts in
    let trail = c.args.trail.now in
    let l = c.index-trail-self.result in
    let inside : before.counted - 1 < length trail = last_within before trail counting c.args.len c.loop-self-test.true in
    let long : length new ≡ length before.counts.items = c.lower_by.ensures.long ∙ ap length c.as_mut_slice.ensures.value in
    let items = with_items_is before.counts new (omega (arith, long, before.counts.ok.0)) in
    let lowered = lowered_same before.starts.items before.entries.items before.counts.items c.deref.result.now c.deref-in-loop-self.result.now c.as_mut_slice.result.now new l c.deref.ensures.value c.deref-in-loop-self.ensures.value c.as_mut_slice.ensures.value c.lower_by.ensures.lowered in
    let tallied = tallied_less before.starts.items before.entries.items before.counts.items new trail l long (before.counted - 1) inside c.index-trail-self.is (last_tallied before trail counting c.args.len c.loop-self-test.true) lowered in
    record {
      counting = recounted before trail counting (with_items before.counts new) new (before.counted - 1) before.guesses items long (omega (arith, inside)) tallied;
      gates = c.loop-self.invariant.gates;
      vars = c.loop-self.invariant.vars;
    }
