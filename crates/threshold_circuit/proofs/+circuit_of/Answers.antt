use Rattle.std.proofs.Common.{◌≡◌, ◌+◌, ◌<◌, List, [], ◌⊎◌, inl, inr, length, drop, refl, ap, subst, ◌∙◌, arith}
use Rattle.std.proofs.lemmas.List.{drop_all}
use Rattle.fbas_model.specs.Nodes.{members}
use Rattle.fbas_model.specs.Trees.{QuorumSet}
use Rattle.fbas_model.specs.QuorumSets.{AreBelow}
use Rattle.fbas_model.specs.Lists.{inner_entries, entries_of}
use Rattle.threshold_circuit.specs.declared.Circuit.{Circuit}
use Rattle.threshold_circuit.specs.Simplified.{undecided, simplified, simplified_entries}
use Rattle.threshold_circuit.specs.Views.{circuit_view, inputs_view}
use Rattle.threshold_circuit.specs.Gathering.{joined}
use Rattle.threshold_circuit.proofs.GatheredLaws.{StillGathers, gather_circuit}
use Rattle.threshold_circuit.proofs.Reduced.{facts}
use Rattle.fbas_model.proofs.Lists.{below_nodes, below_inner_entries, lighter}
use Rattle.threshold_circuit.proofs.SetLaws.{cut_at, bad_set, good_set}
use Rattle.threshold_circuit.proofs.+circuit_of.Goals as goal
use Rattle.threshold_circuit.proofs.+circuit_of.Goals.{then-set-eq0-via-then-set-eq0, then-set-eq0-via-else-set-eq0+then-set-count}

pub returns-then-set-eq0-clause-circuit : goal.returns-then-set-eq0-clause-circuit
returns-then-set-eq0-clause-circuit t c =
    let set = c.set.inside in
    let bad : (set.threshold ≡ 0) ⊎ (length set.validators.items + length set.inner.items < set.threshold) =
    elim c.then-set-eq0.branch [
      | then-set-eq0-via-then-set-eq0 w ↦ inl (omega arith)
      | then-set-eq0-via-else-set-eq0+then-set-count w ↦ inr (omega (arith, set.validators.ok.0, set.inner.ok.0))
    ] in
    rw (← c.set.view_is) (bad_set (members c.args.greatest.now) (members c.args.faulty.now) set.threshold set.validators.items set.inner.items bad)

pub with_validators-requires-clause-below : goal.with_validators-requires-clause-below
with_validators-requires-clause-below t c =
    rw c.deref.ensures.value (below_nodes (length c.args.greatest.now) c.set.inside.validators.items c.set.inside.inner.items (rw (← c.set.view_is) at c.requires.below))

pub loop-inner-init : goal.loop-inner-init
loop-inner-init t c = record {
  below = rw c.deref-inner-items.ensures.value (below_inner_entries (length c.args.greatest.now) c.set.inside.validators.items c.set.inside.inner.items (rw (← c.set.view_is) at c.requires.below));
  still = record { lowered = refl; kept = refl };
}

pub circuit_of-requires : goal.circuit_of-requires
circuit_of-requires t c =
    let ws = c.set.inside.validators.items in
    let qs = c.set.inside.inner.items in
    let i = c.loop-inner.inner-index in
    let x = c.inner-item.result in
    let in_range : i < length qs = rw (← c.deref-inner-items.ensures.value) c.loop-inner-test.true in
    let light = lighter ws qs i x in_range (rw c.deref-inner-items.ensures.value at c.inner-item.is) in
    let at = cut_at i c.deref-inner-items.result.now x c.inner-item.is c.loop-inner-test.true in (
      rw (← c.decreases, ← c.set.view_is) (omega arith),
      (c.requires.same_n, (subst (λ (ys : List QuorumSet). AreBelow (length c.args.greatest.now) (inner_entries ys)) at c.loop-inner.invariant.below).0),
    )

pub loop-inner-preserved : goal.loop-inner-preserved
loop-inner-preserved t c =
    let i = c.loop-inner.inner-index in
    let xs = c.deref-inner-items.result.now in
    let x = c.inner-item.result in
    let g = members c.args.greatest.now in
    let f = members c.args.faulty.now in
    let at = cut_at i xs x c.inner-item.is c.loop-inner-test.true in
    let t0 = c.in_ok-gathered.gathered.threshold in
    let e0 = inputs_view c.in_ok-gathered.gathered.entries.items in
    let t1 = c.loop-inner.gathered.threshold in
    let e1 = inputs_view c.loop-inner.gathered.entries.items in
    let all = simplified_entries g f (inner_entries xs) in
    record {
      below = (subst (λ (ys : List QuorumSet). AreBelow (length c.args.greatest.now) (inner_entries ys)) at c.loop-inner.invariant.below).1;
      still = gather_circuit t0 t1 c.in_ok-gathered-2.gathered.threshold e0 e1 (inputs_view c.in_ok-gathered-2.gathered.entries.items)
          all (simplified_entries g f (inner_entries (drop (i + 1) xs))) (simplified g f x) c.in_ok-circuit.circuit
          (subst (λ (ys : List QuorumSet). StillGathers t0 t1 e0 e1 all (simplified_entries g f (inner_entries ys))) at c.loop-inner.invariant.still)
          c.in_ok-circuit.ensures.circuit c.in_ok-gathered-2.ensures.threshold c.in_ok-gathered-2.ensures.entries;
    }

pub returns-clause-circuit : goal.returns-clause-circuit
returns-clause-circuit t c =
    let set = c.set.inside in
    let i = c.loop-inner.inner-index in
    let ws = set.validators.items in
    let qs = set.inner.items in
    let g = members c.args.greatest.now in
    let f = members c.args.faulty.now in
    let same = c.deref-inner-items.ensures.value in
    rw (← c.set.view_is)
    (c.circuit.ensures
    ∙ good_set g f set.threshold ws qs c.in_ok-gathered.gathered.threshold c.loop-inner.gathered.threshold
    (inputs_view c.in_ok-gathered.gathered.entries.items) (inputs_view c.loop-inner.gathered.entries.items) (simplified_entries g f (inner_entries (drop i qs)))
    (omega arith) (omega (arith, set.validators.ok.0, set.inner.ok.0))
    (rw c.deref.ensures.value at c.in_ok-gathered.ensures.threshold)
    (rw c.deref.ensures.value at c.in_ok-gathered.ensures.entries ∙ ap (λ (xs : List Circuit). joined (inputs_view xs) (undecided (simplified_entries g f (entries_of ws [])))) c.new.ensures.items)
    (rw same at c.loop-inner.invariant.still) (ap (λ (ys : List QuorumSet). simplified_entries g f (inner_entries ys)) (drop_all i qs (rw same at c.loop-inner-test.false))))

pub returns-clause-below : goal.returns-clause-below
returns-clause-below t c = (facts (members c.args.greatest.now) (members c.args.faulty.now) (length c.args.greatest.now) c.args.set.now (circuit_view c.circuit.result) c.requires.below (returns-clause-circuit t c)).below

pub returns-clause-reduced : goal.returns-clause-reduced
returns-clause-reduced t c = (facts (members c.args.greatest.now) (members c.args.faulty.now) (length c.args.greatest.now) c.args.set.now (circuit_view c.circuit.result) c.requires.below (returns-clause-circuit t c)).reduced

pub returns-clause-thresholds : goal.returns-clause-thresholds
returns-clause-thresholds t c = (facts (members c.args.greatest.now) (members c.args.faulty.now) (length c.args.greatest.now) c.args.set.now (circuit_view c.circuit.result) c.requires.below (returns-clause-circuit t c)).thresholds

pub returns-clause-few : goal.returns-clause-few
returns-clause-few t c = (facts (members c.args.greatest.now) (members c.args.faulty.now) (length c.args.greatest.now) c.args.set.now (circuit_view c.circuit.result) c.requires.below (returns-clause-circuit t c)).few
