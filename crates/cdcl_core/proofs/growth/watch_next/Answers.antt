use Rattle.std.proofs.Common.{◌≡◌, ◌<◌, ◌∙◌, ◌∷◌, [], append-nil, ap, subst, length, sym, true, false, refl, inl}
use Rattle.std.proofs.lemmas.Bool.{false≢true}
use Rattle.lrat_model.specs.Literal.{has}
use Rattle.lrat_model.proofs.Literals.{same-itself}
use Rattle.cdcl_core.specs.Watches.{index_of}
use Rattle.cdcl_core.proofs.FreePairs.{pair_for_either, pair_for_counted, pair_for_second}
use Rattle.cdcl_core.proofs.Visits.{index_within}
use Rattle.cdcl_core.proofs.Forced.{falsified_all}
use Rattle.cdcl_core.proofs.Given.{undecided_more, given_state, given_two, given_queued, given_forced_state, given_forced_queued}
use Rattle.cdcl_core.proofs.growth.watch_next.Goals as goal

pub attach-requires-clause-inside_first : goal.attach-requires-clause-inside_first
attach-requires-clause-inside_first c = subst (λ k. index_of k < length c.args.lists.now) (sym c.pair_for-pair.ensures.first) (index_within c.in-Two.first c.args.assignment.now.vars (length c.args.lists.now) (c.requires.range c.in-Two.first (c.in-Two.ensures.two c.in-Two.first c.in-Two.second refl).0).1 c.requires.lists)

pub attach-requires-clause-inside_second : goal.attach-requires-clause-inside_second
attach-requires-clause-inside_second c =
    let says = c.pair_for-pair.ensures in
    let some = c.in-Two.ensures.two c.in-Two.first c.in-Two.second refl in
    pair_for_second c.in-Two.first c.in-Two.second c.pair_for-pair.result says.first says.second says.counted (λ k. index_of k < length c.args.lists.now)
    (index_within c.in-Two.first c.args.assignment.now.vars (length c.args.lists.now) (c.requires.range c.in-Two.first some.0).1 c.requires.lists)
    (index_within c.in-Two.second c.args.assignment.now.vars (length c.args.lists.now) (c.requires.range c.in-Two.second some.1).1 c.requires.lists)

pub attach-requires-in-One-clause-inside_first : goal.attach-requires-in-One-clause-inside_first
attach-requires-in-One-clause-inside_first c = index_within c.in-One.l c.args.assignment.now.vars (length c.args.lists.now) (c.requires.range c.in-One.l (c.in-One.ensures.one c.in-One.l refl).0).1 c.requires.lists

pub attach-requires-in-One-clause-inside_second : goal.attach-requires-in-One-clause-inside_second
attach-requires-in-One-clause-inside_second c = index_within c.in-One.l c.args.assignment.now.vars (length c.args.lists.now) (c.requires.range c.in-One.l (c.in-One.ensures.one c.in-One.l refl).0).1 c.requires.lists

pub returns-in_ok-attach-in-Two-clause-state : goal.returns-in_ok-attach-in-Two-clause-state
returns-in_ok-attach-in-Two-clause-state c = λ _ held below s. given_state c.args.assignment.now.vars held c.args.assignment.now.trues c.args.reasons.now.items s c.requires.undecided c.args.id c.args.lits.now

pub returns-in_ok-attach-in-Two-clause-watched : goal.returns-in_ok-attach-in-Two-clause-watched
returns-in_ok-attach-in-Two-clause-watched c = λ _ held long w.
    let says = c.pair_for-pair.ensures in
    let pair = c.pair_for-pair.result in
    let lits = c.args.lits.now in
    let some = c.in-Two.ensures.two c.in-Two.first c.in-Two.second refl in
    c.in_ok-attach-in-Two.ensures.watched held c.args.id (long ∙ sym c.args.pairs.now.ok.0 ∙ sym c.len.ensures)
    (ap (λ k. has lits k) says.first ∙ some.0)
    (pair_for_second c.in-Two.first c.in-Two.second pair says.first says.second says.counted (λ k. has lits k ≡ true) some.0 some.1)
    (pair_for_counted c.in-Two.first c.in-Two.second pair says.first says.second says.counted)
    w

pub returns-in_ok-attach-in-Two-clause-counted : goal.returns-in_ok-attach-in-Two-clause-counted
returns-in_ok-attach-in-Two-clause-counted c = λ _. (c.pair_for-pair.result, c.in_ok-attach-in-Two.ensures.pairs, λ is. sym c.pair_for-pair.ensures.counted ∙ is)

pub returns-in_ok-attach-in-Two-clause-longer : goal.returns-in_ok-attach-in-Two-clause-longer
returns-in_ok-attach-in-Two-clause-longer c = λ _. ([], sym (append-nil c.args.assignment.now.trues))

pub returns-in_ok-attach-in-Two-clause-queued : goal.returns-in_ok-attach-in-Two-clause-queued
returns-in_ok-attach-in-Two-clause-queued c = λ _ held head below s long q.
    let says = c.pair_for-pair.ensures in
    let pair = c.pair_for-pair.result in
    let some = c.in-Two.ensures.two c.in-Two.first c.in-Two.second refl in
    rw c.in_ok-attach-in-Two.ensures.pairs (given_two c.args.assignment.now.vars held c.args.assignment.now.trues c.args.reasons.now.items s c.requires.undecided c.args.id c.args.lits.now c.args.pairs.now.items pair c.in-Two.first c.in-Two.second head long q
    (pair_for_either c.in-Two.first c.in-Two.second pair says.first says.second says.counted) some.2 some.3 some.4)

pub returns-in_ok-push-in-One-clause-state : goal.returns-in_ok-push-in-One-clause-state
returns-in_ok-push-in-One-clause-state c = λ _ held below s.
    let l = c.in-One.l in
    let one = c.in-One.ensures.one l refl in
    let left : has c.args.assignment.now.trues l ≡ false = sym c.is_true.ensures ∙ c.if-not-is_true.true in
    rw (c.make_true.ensures.trues, c.in_ok-push-in-One.ensures.items)
    (given_forced_state c.args.assignment.now.vars held c.args.assignment.now.trues c.args.reasons.now.items s c.requires.undecided c.args.id c.args.lits.now l one.0 one.1 one.2 left (c.requires.range l one.0) below c.requires.id.0 c.requires.id.1)

pub returns-in_ok-push-in-One-clause-undecided : goal.returns-in_ok-push-in-One-clause-undecided
returns-in_ok-push-in-One-clause-undecided c = λ _.
    rw (c.make_true.ensures.trues, c.in_ok-push-in-One.ensures.items) (undecided_more c.args.assignment.now.trues c.args.reasons.now.items c.requires.long c.requires.undecided c.in-One.l c.args.id c.requires.id.0)

pub returns-in_ok-push-in-One-clause-watched : goal.returns-in_ok-push-in-One-clause-watched
returns-in_ok-push-in-One-clause-watched c = λ _ held long w.
    let one = c.in-One.ensures.one c.in-One.l refl in
    c.in_ok-attach-in-One.ensures.watched held c.args.id (long ∙ sym c.args.pairs.now.ok.0 ∙ sym c.len-in-One.ensures) one.0 one.0 (λ _. same-itself c.in-One.l) w

pub returns-in_ok-push-in-One-clause-counted : goal.returns-in_ok-push-in-One-clause-counted
returns-in_ok-push-in-One-clause-counted c = λ _. (record { first = c.in-One.l; second = c.in-One.l; is_counted = false }, c.in_ok-attach-in-One.ensures.pairs, λ counted. absurd (false≢true counted))

pub returns-in_ok-push-in-One-clause-longer : goal.returns-in_ok-push-in-One-clause-longer
returns-in_ok-push-in-One-clause-longer c = λ _. (c.in-One.l ∷ [], c.make_true.ensures.trues)

pub returns-in_ok-push-in-One-clause-queued : goal.returns-in_ok-push-in-One-clause-queued
returns-in_ok-push-in-One-clause-queued c = λ _ held head below s long q.
    let l = c.in-One.l in
    let one = c.in-One.ensures.one l refl in
    let left : has c.args.assignment.now.trues l ≡ false = sym c.is_true.ensures ∙ c.if-not-is_true.true in
    rw (c.in_ok-attach-in-One.ensures.pairs, c.make_true.ensures.trues, c.in_ok-push-in-One.ensures.items)
    (given_forced_queued c.args.assignment.now.vars held c.args.assignment.now.trues c.args.reasons.now.items s c.requires.undecided c.args.id c.args.lits.now l one.0 one.1 one.2 left (c.requires.range l one.0) below c.requires.id.0 c.args.pairs.now.items head long q)

pub returns-else-not-is_true-clause-state : goal.returns-else-not-is_true-clause-state
returns-else-not-is_true-clause-state c = λ _ held below s. given_state c.args.assignment.now.vars held c.args.assignment.now.trues c.args.reasons.now.items s c.requires.undecided c.args.id c.args.lits.now

pub returns-else-not-is_true-clause-watched : goal.returns-else-not-is_true-clause-watched
returns-else-not-is_true-clause-watched c = λ _ held long w.
    let one = c.in-One.ensures.one c.in-One.l refl in
    c.in_ok-attach-in-One.ensures.watched held c.args.id (long ∙ sym c.args.pairs.now.ok.0 ∙ sym c.len-in-One.ensures) one.0 one.0 (λ _. same-itself c.in-One.l) w

pub returns-else-not-is_true-clause-counted : goal.returns-else-not-is_true-clause-counted
returns-else-not-is_true-clause-counted c = λ _. (record { first = c.in-One.l; second = c.in-One.l; is_counted = false }, c.in_ok-attach-in-One.ensures.pairs, λ counted. absurd (false≢true counted))

pub returns-else-not-is_true-clause-longer : goal.returns-else-not-is_true-clause-longer
returns-else-not-is_true-clause-longer c = λ _. ([], sym (append-nil c.args.assignment.now.trues))

pub returns-else-not-is_true-clause-queued : goal.returns-else-not-is_true-clause-queued
returns-else-not-is_true-clause-queued c = λ _ held head below s long q.
    let l = c.in-One.l in
    let one = c.in-One.ensures.one l refl in
    rw c.in_ok-attach-in-One.ensures.pairs
    (given_queued c.args.assignment.now.vars held c.args.assignment.now.trues c.args.reasons.now.items s c.requires.undecided c.args.id c.args.lits.now c.args.pairs.now.items (record { first = l; second = l; is_counted = false }) head long q
    (inl (l, one.0, sym c.is_true.ensures ∙ c.if-not-is_true.false)))

pub returns-in-Nothing-clause-conflict : goal.returns-in-Nothing-clause-conflict
returns-in-Nothing-clause-conflict c = λ _. (falsified_all c.args.assignment.now.trues c.args.lits.now (c.in-Nothing.ensures.nothing refl), refl, refl)
