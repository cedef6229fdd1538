use Rattle.std.proofs.Common.{◌≡◌, ℕ, ◌+◌, ◌-◌, ◌==◌, ◌<◌, ◌≤◌, ◌++◌, ◌∷◌, [], List, length, slice_index_or, slice_set, append_assoc, sym, ap, ◌∙◌, subst, arith, lit<}
use Rattle.std.proofs.lemmas.Bool.{eq-eqb}
use Rattle.std.proofs.lemmas.List.{append-nil, length-set, get_or_default}
use Rattle.fbas_model.specs.Nodes.{members, listed_from}
use Rattle.fbas_model.proofs.Listed.{iterated_below, iterated_member}
use Rattle.group_journal.proofs.MemberLoops.{IsWritten, iterated_new, more_next, more_all, less_next, left_take, left_all, written}
use Rattle.group_journal.proofs.counting.drop_uncounted.Goals as goal

pub bounds-counts-v : goal.bounds-counts-v
bounds-counts-v c =
    let whole = ap (λ (vs : List ℕ). c.loop-v.yielded ++ vs) (sym c.in-Some.ensures.steps) ∙ c.loop-v.invariant.whole in
    omega (arith, iterated_below c.args.group.now c.loop-v.yielded c.next.new.self c.in-Some.v whole, c.requires.same_n)

pub take-requires : goal.take-requires
take-requires c =
    let whole = ap (λ (vs : List ℕ). c.loop-v.yielded ++ vs) (sym c.in-Some.ensures.steps) ∙ c.loop-v.invariant.whole in
    (lit< tt, omega (arith, iterated_below c.args.group.now c.loop-v.yielded c.next.new.self c.in-Some.v whole, c.requires.same_nodes, c.loop-v.invariant.same_n))

pub loop-v-preserved-then-counts-v-eq0 : goal.loop-v-preserved-then-counts-v-eq0
loop-v-preserved-then-counts-v-eq0 c =
    let whole = ap (λ (vs : List ℕ). c.loop-v.yielded ++ vs) (sym c.in-Some.ensures.steps) ∙ c.loop-v.invariant.whole in
    let v = c.in-Some.v in
    let counts = c.args.counts.now in record {
      whole = append_assoc c.loop-v.yielded (v ∷ []) c.next.new.self ∙ whole;
      same_n = c.take.ensures.size ∙ c.loop-v.invariant.same_n;
      left = left_take (λ w. slice_index_or counts w 0 == 0) c.loop-v.yielded (members c.args.nodes.now) (members c.loop-v.nodes) v c.loop-v.invariant.left (members c.take.new.self) (eq-eqb (slice_index_or counts v 0) 0 c.if-counts-v-eq0.true) c.take.ensures.taken;
    }

pub returns-clause-nodes : goal.returns-clause-nodes
returns-clause-nodes c =
    let whole : c.loop-v.yielded ≡ listed_from 0 c.args.group.now = sym (append-nil c.loop-v.yielded) ∙ (ap (λ (vs : List ℕ). c.loop-v.yielded ++ vs) (sym c.in-None.ensures.steps.0) ∙ c.loop-v.invariant.whole) in
    left_all (λ w. slice_index_or c.args.counts.now w 0 == 0) c.args.group.now c.loop-v.yielded (members c.args.nodes.now) (members c.loop-v.nodes) whole c.loop-v.invariant.left
