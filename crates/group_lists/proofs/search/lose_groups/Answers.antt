use Rattle.std.proofs.Common.{◌≡◌, ◌<◌, ◌≤◌, ◌==◌, ℕ, inl, inr, nat_cmp, nat_lt, ◌-◌, ◌∙◌, arith, refl, sym, subst}
use Rattle.std.specs.Ordering.{ord_min}
use Rattle.std.proofs.lemmas.Bool.{cases_Bool, ltb-true, ltb-false}
use Rattle.group_lists.proofs.search.lose_groups.Goals as goal

-- as many as were wanted, or all that are left
record IsLeast (wanted left n : ℕ) : Type 0 where
  some : 0 < n
  as_wanted : n ≤ wanted
  as_left : n ≤ left

least : (wanted left : ℕ) → 0 < wanted → 0 < left → IsLeast wanted left (ord_min nat_cmp wanted left)
least wanted left a b = elim (cases_Bool (nat_lt left wanted)) [
  | inl e ↦ rw e (record { some = b; as_wanted = omega (arith, ltb-true left wanted e); as_left = omega arith })
  | inr e ↦
      let low : wanted ≤ left = ltb-false left wanted e in
      elim (cases_Bool (left == wanted)) [
        | inl d ↦ rw (e, d) (record { some = a; as_wanted = omega arith; as_left = low })
        | inr d ↦ rw (e, d) (record { some = a; as_wanted = omega arith; as_left = low })
      ]
]

-- how many are tried together
tried : (from count wanted n : ℕ) → from < count → 0 < wanted → n ≡ ord_min nat_cmp wanted (count - from) → IsLeast wanted (count - from) n
tried from count wanted n low some is = subst (λ (m : ℕ). IsLeast wanted (count - from) m) (sym is) (least wanted (count - from) some (omega arith))

pub loop-from-init : goal.loop-from-init
loop-from-init c = record { some = omega arith; same_n = refl; same_scratch = refl; within = λ v here. here; quorum = c.requires.quorum }

pub lose_between-requires-clause-same_n : goal.lose_between-requires-clause-same_n
lose_between-requires-clause-same_n c = c.loop-from.invariant.same_n ∙ c.requires.same_n

pub lose_between-requires-clause-same_scratch : goal.lose_between-requires-clause-same_scratch
lose_between-requires-clause-same_scratch c = c.loop-from.invariant.same_scratch ∙ c.requires.same_scratch

pub lose_between-requires-clause-quorum : goal.lose_between-requires-clause-quorum
lose_between-requires-clause-quorum c = c.loop-from.invariant.quorum

pub loop-from-smaller-then-lose_between : goal.loop-from-smaller-then-lose_between
loop-from-smaller-then-lose_between c =
    let t = tried c.loop-from.from c.len-count.result c.loop-from.together c.min-together.result c.loop-from-test.true c.loop-from.invariant.some c.min-together.ensures in
    omega (arith, t.some, t.as_wanted, t.as_left)

pub loop-from-preserved-then-lose_between : goal.loop-from-preserved-then-lose_between
loop-from-preserved-then-lose_between c =
    let so_far = c.loop-from.invariant in
    let t = tried c.loop-from.from c.len-count.result c.loop-from.together c.min-together.result c.loop-from-test.true c.loop-from.invariant.some c.min-together.ensures in
    let now = c.lose_between.ensures in record {
      some = omega (arith, t.some);
      same_n = now.same_n ∙ so_far.same_n;
      same_scratch = now.same_scratch ∙ so_far.same_scratch;
      within = λ v here. so_far.within v (now.within v here);
      quorum = now.quorum;
    }

pub loop-from-smaller-then-together-gt1 : goal.loop-from-smaller-then-together-gt1
loop-from-smaller-then-together-gt1 c =
    let t = tried c.loop-from.from c.len-count.result c.loop-from.together c.min-together.result c.loop-from-test.true c.loop-from.invariant.some c.min-together.ensures in
    omega (arith, t.some, t.as_wanted, c.if-together-gt1.true)

pub loop-from-preserved-then-together-gt1 : goal.loop-from-preserved-then-together-gt1
loop-from-preserved-then-together-gt1 c =
    let so_far = c.loop-from.invariant in
    let now = c.lose_between.ensures in record {
      some = omega (arith, c.if-together-gt1.true);
      same_n = now.same_n ∙ so_far.same_n;
      same_scratch = now.same_scratch ∙ so_far.same_scratch;
      within = λ v here. so_far.within v (now.within v here);
      quorum = now.quorum;
    }

pub loop-from-preserved : goal.loop-from-preserved
loop-from-preserved c =
    let so_far = c.loop-from.invariant in
    let t = tried c.loop-from.from c.len-count.result c.loop-from.together c.min-together.result c.loop-from-test.true c.loop-from.invariant.some c.min-together.ensures in
    let now = c.lose_between.ensures in record {
      some = omega (arith, t.some);
      same_n = now.same_n ∙ so_far.same_n;
      same_scratch = now.same_scratch ∙ so_far.same_scratch;
      within = λ v here. so_far.within v (now.within v here);
      quorum = now.quorum;
    }
