use Rattle.std.proofs.Common.{◌≡◌, ℕ, Bool, cond, ◌+◌, ◌-◌, ◌==◌, ◌<◌, ◌≤◌, ◌++◌, ◌∷◌, [], List, length, slice_index_or, slice_set, append_assoc, sym, ap, ◌∙◌, subst, arith, lit<}
use Rattle.std.proofs.lemmas.Bool.{eq-eqb}
use Rattle.std.proofs.lemmas.List.{append-nil, length-set, get_or_default}
use Rattle.fbas_model.specs.Nodes.{members, listed_from}
use Rattle.fbas_model.proofs.Listed.{iterated_member}
use Rattle.group_journal.proofs.MemberLoops.{IsWritten, at_member, more_next, more_all, written}
use Rattle.group_journal.proofs.counting.count_members.Goals as goal

pub index_mut-requires : goal.index_mut-requires
index_mut-requires c =
    let here = at_member c.args.group.now c.loop-v.yielded c.loop-v.v-iterator c.next.new.self c.in-Some.v c.in-Some.ensures.steps c.loop-v.invariant.whole in
    let low : c.in-Some.v < length c.loop-v.counts.items = omega (arith, here.1, c.requires.same_n, c.loop-v.invariant.same_n) in
    omega (arith, low, c.loop-v.counts.ok.0)

pub overflow_add-index_mut : goal.overflow_add-index_mut
overflow_add-index_mut c =
    let here = at_member c.args.group.now c.loop-v.yielded c.loop-v.v-iterator c.next.new.self c.in-Some.v c.in-Some.ensures.steps c.loop-v.invariant.whole in
    let low : c.in-Some.v < length c.loop-v.counts.items = omega (arith, here.1, c.requires.same_n, c.loop-v.invariant.same_n) in
    let is : c.index_mut.result.now ≡ slice_index_or c.loop-v.counts.items c.in-Some.v 0 = c.index_mut.ensures.value ∙ get_or_default c.loop-v.counts.items c.in-Some.v c.index_mut.result.now 0 low in
    let was : slice_index_or c.loop-v.counts.items c.in-Some.v 0 ≡ slice_index_or c.args.counts.now.items c.in-Some.v 0 + 0 = c.loop-v.invariant.more c.in-Some.v ∙ ap (λ (b : Bool). slice_index_or c.args.counts.now.items c.in-Some.v 0 + cond b 1 0) here.2 in
    omega (arith, is, was, c.requires.few c.in-Some.v)

pub loop-v-preserved : goal.loop-v-preserved
loop-v-preserved c =
    let here = at_member c.args.group.now c.loop-v.yielded c.loop-v.v-iterator c.next.new.self c.in-Some.v c.in-Some.ensures.steps c.loop-v.invariant.whole in
    let low : c.in-Some.v < length c.loop-v.counts.items = omega (arith, here.1, c.requires.same_n, c.loop-v.invariant.same_n) in
    let is : c.index_mut.result.now ≡ slice_index_or c.loop-v.counts.items c.in-Some.v 0 = c.index_mut.ensures.value ∙ get_or_default c.loop-v.counts.items c.in-Some.v c.index_mut.result.now 0 low in
    let items = c.loop-v.counts.items in
    let v = c.in-Some.v in
    let next = slice_set items v (c.index_mut.result.now + 1) in record {
      whole = append_assoc c.loop-v.yielded (v ∷ []) c.next.new.self ∙ here.0;
      same_n = length-set items v (c.index_mut.result.now + 1) ∙ c.loop-v.invariant.same_n;
      more = more_next c.loop-v.yielded c.args.counts.now.items items next v here.2 c.loop-v.invariant.more
          (subst (λ (n : ℕ). IsWritten items next v n) (ap (λ (n : ℕ). n + 1) is) (written items v (c.index_mut.result.now + 1) low));
    }

pub returns-clause-counts : goal.returns-clause-counts
returns-clause-counts c =
    let whole : c.loop-v.yielded ≡ listed_from 0 c.args.group.now = sym (append-nil c.loop-v.yielded) ∙ (ap (λ (vs : List ℕ). c.loop-v.yielded ++ vs) (sym c.in-None.ensures.steps.0) ∙ c.loop-v.invariant.whole) in
    more_all c.args.group.now c.loop-v.yielded c.args.counts.now.items c.loop-v.counts.items whole c.loop-v.invariant.more
