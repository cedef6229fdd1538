use Rattle.std.proofs.Common.{◌<◌, sym, ◌∙◌, arith}
use Rattle.std.proofs.lemmas.Bool.{both_ways, ltb-true}
use Rattle.fbas_model.specs.Nodes.{members, ◌∈◌, ◌∪◌}
use Rattle.fbas_model.specs.QuorumSets.{HasChoiceWithin}
use Rattle.fbas_model.specs.Lists.{inner_entries, entries_of}
use Rattle.fbas_plain.proofs.PassedOrTaken.{Taken, splits_node, splits_inner, when_passed, when_not_taken, when_taken, pick_none, choice_of_pick, pick_of_choice}
use Rattle.fbas_plain.proofs.+choices.Goals as goal
use Rattle.fbas_plain.proofs.+choices.Goals.{picks-then-k-gt0, picks-else-k-gt0, picks_inner-then-k-gt0, picks_inner-else-k-gt0}

pub picks-returns-then-picks : goal.picks-returns-then-picks
picks-returns-then-picks t c =
    when_passed (splits_node (members c.args.u.now ∪ members c.args.faulty.now) c.args.nodes.now c.in-Some.rest.now c.in-Some.node.now c.args.inner.now c.args.k c.in-Some.ensures.cases.0) c.picks.result c.picks.ensures c.if-picks.true

pub picks-returns-then-in_either : goal.picks-returns-then-in_either
picks-returns-then-in_either t c =
    let u = members c.args.u.now ∪ members c.args.faulty.now in
    let split = splits_node u c.args.nodes.now c.in-Some.rest.now c.in-Some.node.now c.args.inner.now c.args.k c.in-Some.ensures.cases.0 in
    let taken : (0 < c.args.k) × c.in-Some.node.now ∈ u = elim c.if-k-gt0.branch [
      | picks-then-k-gt0 w ↦ (w.if-k-gt0.true, sym w.in_either.ensures ∙ (sym w.value-is ∙ c.if-in_either.true))
      | picks-else-k-gt0 w ↦ absurd (let some = ltb-true 0 c.args.k (sym w.value-is ∙ c.if-in_either.true) in omega arith)
    ] in
    when_taken split c.picks.result c.picks.ensures c.if-picks.false c.picks-then-in_either.result (λ h. record { some = taken.0; part_in = taken.1; others = c.picks-then-in_either.ensures.0 h }) (λ h. c.picks-then-in_either.ensures.1 h.others)

pub picks_inner-returns-then-picks_inner : goal.picks_inner-returns-then-picks_inner
picks_inner-returns-then-picks_inner t c =
    when_passed (splits_inner (members c.args.u.now ∪ members c.args.faulty.now) c.args.inner.now c.in-Some.rest.now c.in-Some.first.now c.args.k c.in-Some.ensures.cases.0) c.picks_inner.result c.picks_inner.ensures c.if-picks_inner.true

pub picks_inner-returns-then-has_choice_within_either : goal.picks_inner-returns-then-has_choice_within_either
picks_inner-returns-then-has_choice_within_either t c =
    let u = members c.args.u.now ∪ members c.args.faulty.now in
    let split = splits_inner u c.args.inner.now c.in-Some.rest.now c.in-Some.first.now c.args.k c.in-Some.ensures.cases.0 in
    let taken : (0 < c.args.k) × HasChoiceWithin c.in-Some.first.now u = elim c.if-k-gt0.branch [
      | picks_inner-then-k-gt0 w ↦ (w.if-k-gt0.true, w.has_choice_within_either.ensures.0 (sym w.value-is ∙ c.if-has_choice_within_either.true))
      | picks_inner-else-k-gt0 w ↦ absurd (let some = ltb-true 0 c.args.k (sym w.value-is ∙ c.if-has_choice_within_either.true) in omega arith)
    ] in
    when_taken split c.picks_inner.result c.picks_inner.ensures c.if-picks_inner.false c.picks_inner-then-has_choice_within_either.result (λ h. record { some = taken.0; part_in = taken.1; others = c.picks_inner-then-has_choice_within_either.ensures.0 h }) (λ h. c.picks_inner-then-has_choice_within_either.ensures.1 h.others)

pub picks_inner-returns-else-has_choice_within_either : goal.picks_inner-returns-else-has_choice_within_either
picks_inner-returns-else-has_choice_within_either t c =
    let u = members c.args.u.now ∪ members c.args.faulty.now in
    let split = splits_inner u c.args.inner.now c.in-Some.rest.now c.in-Some.first.now c.args.k c.in-Some.ensures.cases.0 in
    let not_taken : Taken (HasChoiceWithin c.in-Some.first.now u) (inner_entries c.in-Some.rest.now) c.args.k u → ⊥ = λ h. elim c.if-k-gt0.branch [
      | picks_inner-then-k-gt0 w ↦ both_ways c.if-k-gt0.value c.if-has_choice_within_either.false (w.value-is ∙ w.has_choice_within_either.ensures.1 h.part_in)
      | picks_inner-else-k-gt0 w ↦ absurd (let some = h.some in omega arith)
    ] in
    when_not_taken split c.picks_inner.result c.picks_inner.ensures c.if-picks_inner.false not_taken c.if-k-gt0.value c.if-has_choice_within_either.false

pub picks_inner-returns-in-None : goal.picks_inner-returns-in-None
picks_inner-returns-in-None t c =
    pick_none (members c.args.u.now ∪ members c.args.faulty.now) c.args.inner.now c.args.k c.in-None.ensures.cases

pub has_choice_within_either-returns-then-set-ge1 : goal.has_choice_within_either-returns-then-set-ge1
has_choice_within_either-returns-then-set-ge1 t c =
    let u = members c.args.u.now ∪ members c.args.faulty.now in
    let k = c.set.inside.threshold in
    let says = rw (c.deref.ensures.value, c.deref-then-set-ge1.ensures.value) at c.picks.ensures in
    let entries = entries_of c.set.inside.validators.items c.set.inside.inner.items in
    rw (← c.set.view_is) (λ h. choice_of_pick u k entries c.if-set-ge1.true (says.0 h), λ h. says.1 (pick_of_choice u k entries h).1)
