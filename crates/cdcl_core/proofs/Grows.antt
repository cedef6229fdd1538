-- A jump back, and one clause more.
use Rattle.std.proofs.Common.{◌≡◌, ◌≢◌, ℕ, zero, suc, ◌+◌, ◌<◌, ◌≤◌, true, false, List, [], ◌∷◌, ◌++◌, ⊎_elim, inl, refl, sym, ap, ◌∙◌, subst, arith, length, get_or, set, take, length-append, length-take, get_or-set_same, get_or-set_other}
use Rattle.std.specs.Prelude.{◌==◌, slice_index, All}
use Rattle.std.proofs.Math.ListN.{get_or-append}
use Rattle.std.proofs.Math.Seq.{get_or-append_seam}
use Rattle.std.proofs.lemmas.List.{length-set, get_or-take}
use Rattle.std.proofs.lemmas.List.Folds.{list_any-append}
use Rattle.std.proofs.lemmas.List.Elements.{All-nil, All-push, All-weaker}
use Rattle.std.proofs.lemmas.Bool.{cases_lt, eq-eqb, or_left, or_right, false≢true, true≢false}
use Rattle.lrat_model.specs.Literal.{Literal, Plus, Minus, variable_of, negated, same, has}
use Rattle.lrat_model.specs.Clauses.{Held}
use Rattle.cdcl_core.specs.declared.watches.Watch.{Watch}
use Rattle.cdcl_core.specs.declared.watches.Pair.{Pair}
use Rattle.cdcl_core.specs.Watches.{index_of, list_at, lits_at, pair_at, mentions, IsKept, AreKept, IsShort, IsSound, IsListed, IsWatched, IsQueued}
use Rattle.cdcl_core.proofs.Visits.{index-apart, same_or_not, same_at}
use Rattle.cdcl_core.specs.Trail.{IsTrail}
use Rattle.cdcl_core.proofs.Walks.{has-at}
use Rattle.cdcl_core.proofs.Tops.{take_within}

pub take_take : (p q : ℕ) (trues : List Literal) → p ≤ q → take p (take q trues) ≡ take p trues
take_take zero q trues less = refl
take_take (suc p) zero trues less = absurd (omega arith)
take_take (suc p) (suc q) [] less = refl
take_take (suc p) (suc q) (x ∷ xs) less = ap (λ ls. x ∷ ls) (take_take p q xs (omega arith))

-- back to where a decision stands
pub queued_back : (held : Held) (pairs : List Pair) (trues : List Literal) (reasons : List ℕ) (head : ℕ) → IsQueued held pairs trues reasons head → (jump : ℕ) → jump < length trues → slice_index reasons jump ≡ 0 → IsQueued held pairs (take jump trues) (take jump reasons) jump
queued_back held pairs trues reasons head s jump within decision =
    let here : AreKept held pairs (take jump trues) (take jump trues) = s.at_decisions jump within decision in
    record {
      within = omega (arith, length-take jump trues, within);
      kept = subst (λ ls. AreKept held pairs ls (take jump trues)) (sym (take_take jump jump trues (omega arith))) here;
      at_decisions = λ q less decided.
          let inside : (q < jump) × (q < length trues) = (omega (arith, length-take jump trues), omega (arith, length-take jump trues)) in
          subst (λ ls. AreKept held pairs ls ls) (sym (take_take q jump trues (omega (arith, inside.0))))
          (s.at_decisions q inside.1 (sym (get_or-take jump reasons q 0 inside.0) ∙ decided));
    }

-- one watch more for a literal
module _ (lists : List (List Watch)) (m : Literal) (now : Watch) (inside_m : index_of m < length lists) where
  abbrev pub pushed : List (List Watch)
  pushed = set lists (index_of m) (list_at lists m ++ now ∷ [])

  list_here : list_at pushed m ≡ list_at lists m ++ now ∷ []
  list_here = get_or-set_same lists (index_of m) (list_at lists m ++ now ∷ []) [] inside_m

  list_other : (k : Literal) → k ≢ m → list_at pushed k ≡ list_at lists k
  list_other k e = get_or-set_other lists (index_of m) (index_of k) (list_at lists m ++ now ∷ []) [] (λ i. e (index-apart k m i))

  pub pushed-more : (k : Literal) (p : ℕ) → mentions (list_at lists k) p ≡ true → mentions (list_at pushed k) p ≡ true
  pushed-more k p h = ⊎_elim
      (λ e. subst (λ x. mentions (list_at pushed x) p ≡ true) (sym e) (subst (λ ws. mentions ws p ≡ true) (sym list_here)
      (list_any-append (λ w. w.place == p) (list_at lists m) (now ∷ []) ∙ or_left (mentions (list_at lists m) p) (mentions (now ∷ []) p) (subst (λ x. mentions (list_at lists x) p ≡ true) e h))))
      (λ e. subst (λ ws. mentions ws p ≡ true) (sym (list_other k e)) h)
      (same_or_not m k)

  pub pushed-new : mentions (list_at pushed m) now.place ≡ true
  pushed-new = subst (λ ws. mentions ws now.place ≡ true) (sym list_here)
      (list_any-append (λ w. w.place == now.place) (list_at lists m) (now ∷ []) ∙ or_right (mentions (list_at lists m) now.place) (mentions (now ∷ []) now.place) (or_left (now.place == now.place) false (eq-eqb now.place now.place refl)))

  pub pushed-all : (P : Literal → Watch → Type 0) → P m now → ((k : Literal) → All (P k) (list_at lists k)) → (k : Literal) → All (P k) (list_at pushed k)
  pushed-all P own all k = ⊎_elim
      (λ e. subst (λ x. All (P x) (list_at pushed x)) (sym e) (subst (λ ws. All (P m) ws) (sym list_here) (All-push (P m) (list_at lists m) now (all m) own)))
      (λ e. subst (λ ws. All (P k) ws) (sym (list_other k e)) (all k))
      (same_or_not m k)

-- one clause more
module _ (held : Held) (pairs : List Pair) (id : ℕ) (lits : List Literal) (pair : Pair) (long : length pairs ≡ length held) where
  abbrev pub more_held : Held
  more_held = held ++ (id, lits) ∷ []

  abbrev pub more_pairs : List Pair
  more_pairs = pairs ++ pair ∷ []

  lits_old : (p : ℕ) → p < length held → lits_at more_held p ≡ lits_at held p
  lits_old p less = ap (λ (e : ℕ × List Literal). e.1) (get_or-append held ((id, lits) ∷ []) (0, []) p less)

  lits_new : (p : ℕ) → p ≡ length held → lits_at more_held p ≡ lits
  lits_new p is = ap (λ k. lits_at more_held k) is ∙ ap (λ (e : ℕ × List Literal). e.1) (get_or-append_seam held (id, lits) [] (0, []))

  pair_old : (p : ℕ) → p < length held → pair_at more_pairs p ≡ pair_at pairs p
  pair_old p less = get_or-append pairs (pair ∷ []) (record { first = Plus 0; second = Plus 0; is_counted = false }) p (omega (arith, less, long))

  pair_new : (p : ℕ) → p ≡ length held → pair_at more_pairs p ≡ pair
  pair_new p is = ap (λ k. pair_at more_pairs k) (is ∙ sym long) ∙ get_or-append_seam pairs pair [] (record { first = Plus 0; second = Plus 0; is_counted = false })

  -- what holds of the old ones and of the new one holds of all
  each_more : (P : ℕ → List Literal → Pair → Type 0) → ((p : ℕ) → p < length held → P p (lits_at held p) (pair_at pairs p)) → P (length held) lits pair → (p : ℕ) → p < length more_held → P p (lits_at more_held p) (pair_at more_pairs p)
  each_more P old own p within =
      let all : p < length held + 1 = omega (arith, within, length-append held ((id, lits) ∷ [])) in
      ⊎_elim
      (λ less. subst (λ ls. P p ls (pair_at more_pairs p)) (sym (lits_old p less)) (subst (λ (x : Pair). P p (lits_at held p) x) (sym (pair_old p less)) (old p less)))
      (λ more.
      let is : p ≡ length held = omega (arith, all, more) in
      subst (λ ls. P p ls (pair_at more_pairs p)) (sym (lits_new p is)) (subst (λ (x : Pair). P p lits x) (sym (pair_new p is)) (subst (λ k. P k lits pair) (sym is) own)))
      (cases_lt p (length held))

  sound_more : (k : Literal) (w : Watch) → IsSound held k w → IsSound more_held k w
  sound_more k w s = (
    omega (arith, s.0, length-append held ((id, lits) ∷ [])),
    ap (λ ls. has ls w.blocker) (lits_old w.place s.0) ∙ s.1,
    λ other. subst (λ ls. IsShort ls k w.blocker w.third) (sym (lits_old w.place s.0)) (s.2 other),
  )

  pub kept_with : (visited trues : List Literal) → AreKept held pairs visited trues → IsKept visited trues lits pair → AreKept more_held more_pairs visited trues
  kept_with visited trues all own = each_more (λ _ ls x. IsKept visited trues ls x) all own

  pub queued_with : (trues : List Literal) (reasons : List ℕ) (head : ℕ) → IsQueued held pairs trues reasons head → IsKept (take head trues) trues lits pair → ((q : ℕ) → q < length trues → slice_index reasons q ≡ 0 → IsKept (take q trues) (take q trues) lits pair) → IsQueued more_held more_pairs trues reasons head
  queued_with trues reasons head s own at = record {
    within = s.within;
    kept = kept_with (take head trues) trues s.kept own;
    at_decisions = λ q less decided. kept_with (take q trues) (take q trues) (s.at_decisions q less decided) (at q less decided);
  }

  -- a clause that is counted stands in no list
  pub watched_without : (lists : List (List Watch)) → same pair.first pair.second ≡ true → has lits pair.first ≡ true → has lits pair.second ≡ true → ((l : Literal) → IsWatched held pairs lists l []) → (l : Literal) → IsWatched more_held more_pairs lists l []
  watched_without lists alike has_first has_second w l = record {
    long = omega (arith, long, length-append held ((id, lits) ∷ []), length-append pairs (pair ∷ []));
    inside = each_more (λ _ ls x. (has ls x.first ≡ true) × (has ls x.second ≡ true)) (w l).inside (has_first, has_second);
    listed = each_more (λ p _ x. same x.first x.second ≡ false → IsListed lists l [] p x.first × IsListed lists l [] p x.second) (λ p less. (w l).listed p less) (λ differ. absurd (true≢false (sym alike ∙ differ)));
    sound = λ k. All-weaker (IsSound held k) (IsSound more_held k) (sound_more k) (list_at lists k) ((w l).sound k);
    sound_spare = All-nil (IsSound more_held l);
  }

  module _ (lists : List (List Watch)) (third_one third_two : Literal) (short_one : same third_one pair.first ≡ false → IsShort lits pair.first pair.second third_one) (short_two : same third_two pair.second ≡ false → IsShort lits pair.second pair.first third_two) (has_first : has lits pair.first ≡ true) (has_second : has lits pair.second ≡ true) (inside_first : index_of pair.first < length lists) (inside_second : index_of pair.second < length lists) where
    abbrev pub one : Watch
    one = record { place = length held; blocker = pair.second; third = third_one }

    abbrev pub two : Watch
    two = record { place = length held; blocker = pair.first; third = third_two }

    abbrev pub once : List (List Watch)
    once = set lists (index_of pair.first) (list_at lists pair.first ++ one ∷ [])

    abbrev pub twice : List (List Watch)
    twice = set once (index_of pair.second) (list_at once pair.second ++ two ∷ [])

    in_twice : index_of pair.second < length once
    in_twice = omega (arith, inside_second, length-set lists (index_of pair.first) (list_at lists pair.first ++ one ∷ []))

    mentions-more : (k : Literal) (p : ℕ) → mentions (list_at lists k) p ≡ true → mentions (list_at twice k) p ≡ true
    mentions-more k p h = pushed-more once pair.second two in_twice k p (pushed-more lists pair.first one inside_first k p h)

    listed-more : (l : Literal) (p : ℕ) (k : Literal) → IsListed lists l [] p k → IsListed twice l [] p k
    listed-more l p k at = ⊎_elim (λ h. inl (mentions-more k p h)) (λ none. absurd (false≢true none.1)) at

    own_sound : (k b t : Literal) → has lits b ≡ true → (same t k ≡ false → IsShort lits k b t) → IsSound more_held k (record { place = length held; blocker = b; third = t })
    own_sound k b t h short = (
      omega (arith, length-append held ((id, lits) ∷ [])),
      ap (λ ls. has ls b) (lits_new (length held) refl) ∙ h,
      λ other. subst (λ ls. IsShort ls k b t) (sym (lits_new (length held) refl)) (short other),
    )

    pub watched_with : ((l : Literal) → IsWatched held pairs lists l []) → (l : Literal) → IsWatched more_held more_pairs twice l []
    watched_with w l = record {
      long = omega (arith, long, length-append held ((id, lits) ∷ []), length-append pairs (pair ∷ []));
      inside = each_more (λ _ ls x. (has ls x.first ≡ true) × (has ls x.second ≡ true)) (w l).inside (has_first, has_second);
      listed = each_more (λ p _ x. same x.first x.second ≡ false → IsListed twice l [] p x.first × IsListed twice l [] p x.second)
          (λ p less differ. let both = (w l).listed p less differ in (listed-more l p (pair_at pairs p).first both.0, listed-more l p (pair_at pairs p).second both.1))
          (λ _. (inl (pushed-more once pair.second two in_twice pair.first (length held) (pushed-new lists pair.first one inside_first)), inl (pushed-new once pair.second two in_twice)));
      sound = pushed-all once pair.second two in_twice (IsSound more_held) (own_sound pair.second pair.first third_two has_first short_two)
          (pushed-all lists pair.first one inside_first (IsSound more_held) (own_sound pair.first pair.second third_one has_second short_one)
          (λ k. All-weaker (IsSound held k) (IsSound more_held k) (sound_more k) (list_at lists k) ((w l).sound k)));
      sound_spare = All-nil (IsSound more_held l);
    }

-- no variable stands twice on a trail
pub variables_apart : (held : Held) (trues : List Literal) (reasons : List ℕ) → IsTrail held trues reasons → (place : ℕ) (d m : Literal) → place < length trues → has (take place trues) m ≡ true → variable_of m ≢ variable_of (get_or trues place d)
variables_apart held trues reasons trail place d m within before alike =
    let t : Literal = get_or trues place d in
    let on : has trues t ≡ true = has-at trues place t within (same_at trues place d t within) in
    let fresh : has (take place trues) t ≡ false = trail.fresh place d within in
    either m t alike
    (λ is. true≢false (sym (subst (λ k. has (take place trues) k ≡ true) is before) ∙ fresh))
    (λ is. true≢false (sym (subst (λ k. has trues k ≡ true) is (take_within place trues m before)) ∙ trail.consistent t on))
  where
    either : (m t : Literal) → variable_of m ≡ variable_of t → (m ≡ t → ⊥) → (m ≡ negated t → ⊥) → ⊥
    either (Plus x) (Plus y) e f g = f (ap Plus e)
    either (Plus x) (Minus y) e f g = g (ap Plus e)
    either (Minus x) (Plus y) e f g = g (ap Minus e)
    either (Minus x) (Minus y) e f g = f (ap Minus e)
