-- What the visit of one watch keeps.
use Rattle.std.proofs.Common.{◌≡◌, ◌≢◌, ℕ, zero, suc, ◌+◌, ◌*◌, ◌<◌, ◌≤◌, Bool, true, false, ◌||◌, List, [], ◌∷◌, ◌++◌, ⊎_elim, inl, inr, refl, sym, ap, ◌∙◌, subst, arith, length, get_or, set, take, length-append, append_assoc, get_or-set_same, get_or-set_other}
use Rattle.std.specs.Prelude.{◌⊎◌, ◌==◌, slice_index, All}
use Rattle.std.proofs.Math.ListN.{get_or-append}
use Rattle.std.proofs.Math.Seq.{get_or-append_seam, take-append_seam}
use Rattle.std.proofs.lemmas.List.{take-append-le, take_more, length-set}
use Rattle.std.proofs.lemmas.List.Folds.{list_any-append}
use Rattle.std.proofs.lemmas.List.Elements.{All-head, All-tail, All-cons, All-push}
use Rattle.std.proofs.lemmas.Bool.{cases_eq, cases_lt, eqb-true, eq-eqb, or_cases, or_left, or_right, true≢false, false≢true, false_from_ne_true}
use Rattle.lrat_model.specs.Literal.{Literal, Plus, Minus, variable_of, negated, same, has}
use Rattle.lrat_model.specs.Clauses.{Held}
use Rattle.lrat_model.proofs.Literals.{has-cons, has-push, negated-negated, same-true, same-itself}
use Rattle.cdcl_core.proofs.Tops.{take_within}
use Rattle.cdcl_core.specs.declared.watches.Watch.{Watch}
use Rattle.cdcl_core.specs.declared.watches.Pair.{Pair}
use Rattle.cdcl_core.specs.Watches.{index_of, list_at, lits_at, pair_at, mentions, IsKept, AreKept, IsShort, IsSound, IsListed, IsQueued, IsVisiting, IsWatched}

-- a clause that is kept stays so where more is true
pub kept_more : (visited trues more clause : List Literal) (pair : Pair) → IsKept visited trues clause pair → IsKept visited (trues ++ more) clause pair
kept_more visited trues more clause pair k =
    ⊎_elim (λ t. inl (t.0, t.1, list_any-append (same t.0) trues more ∙ or_left (has trues t.0) (has more t.0) t.2)) (λ o. inr o) k

-- one literal more on the trail: a forced one, or a decision where all was visited
pub queued_more : (held : Held) (pairs : List Pair) (trues : List Literal) (reasons : List ℕ) (head : ℕ) → IsQueued held pairs trues reasons head → length reasons ≡ length trues → (l : Literal) (id : ℕ) → (id ≡ 0 → AreKept held pairs trues trues) → IsQueued held pairs (trues ++ l ∷ []) (reasons ++ id ∷ []) head
queued_more held pairs trues reasons head s long l id fixed = record {
  within = omega (arith, s.within, length-append trues (l ∷ []));
  kept = λ p w. subst (λ v. IsKept v (trues ++ l ∷ []) (lits_at held p) (pair_at pairs p)) (sym (take-append-le head trues (l ∷ []) s.within))
      (kept_more (take head trues) trues (l ∷ []) (lits_at held p) (pair_at pairs p) (s.kept p w));
  at_decisions = λ q within decided.
      let all : q < length trues + 1 = omega (arith, length-append trues (l ∷ [])) in
      ⊎_elim
      (λ less. subst (λ ls. AreKept held pairs ls ls) (sym (take-append-le q trues (l ∷ []) (omega arith)))
      (s.at_decisions q less (sym (get_or-append reasons (id ∷ []) 0 q (omega (arith, long))) ∙ decided)))
      (λ more.
      let is : q ≡ length trues = omega arith in
      let own : slice_index (reasons ++ id ∷ []) q ≡ id = ap (λ k. get_or (reasons ++ id ∷ []) k 0) (is ∙ sym long) ∙ get_or-append_seam reasons id [] 0 in
      subst (λ ls. AreKept held pairs ls ls) (sym (ap (λ k. take k (trues ++ l ∷ [])) is ∙ take-append_seam trues (l ∷ []))) (fixed (sym own ∙ decided)))
      (cases_lt q (length trues));
}

-- what is mentioned of a list with one more in its midst
pub mentions-middle : (xs ys : List Watch) (w : Watch) (p : ℕ) → mentions (xs ++ w ∷ ys) p ≡ ((w.place == p) || mentions (xs ++ ys) p)
mentions-middle [] ys w p = refl
mentions-middle (x ∷ xs) ys w p = ap (λ b. (x.place == p) || b) (mentions-middle xs ys w p) ∙ swap_or (x.place == p) (w.place == p) (mentions (xs ++ ys) p)
  where
    swap_or : (a b c : Bool) → (a || (b || c)) ≡ (b || (a || c))
    swap_or true true c = refl
    swap_or true false c = refl
    swap_or false true c = refl
    swap_or false false c = refl

pub All-without : (P : Watch → Type 0) (xs ys : List Watch) (w : Watch) → All P (xs ++ w ∷ ys) → All P (xs ++ ys)
All-without P [] ys w all = All-tail P w ys all
All-without P (x ∷ xs) ys w all = All-cons P x (xs ++ ys) (All-head P x (xs ++ w ∷ ys) all) (All-without P xs ys w (All-tail P x (xs ++ w ∷ ys) all))

pub All-other : (P : Watch → Type 0) (xs ys : List Watch) (w v : Watch) → P v → All P (xs ++ w ∷ ys) → All P (xs ++ v ∷ ys)
All-other P [] ys w v own all = All-cons P v ys own (All-tail P w ys all)
All-other P (x ∷ xs) ys w v own all = All-cons P x (xs ++ v ∷ ys) (All-head P x (xs ++ w ∷ ys) all) (All-other P xs ys w v own (All-tail P x (xs ++ w ∷ ys) all))

pub All-middle : (P : Watch → Type 0) (xs ys : List Watch) (w : Watch) → All P (xs ++ w ∷ ys) → P w
All-middle P [] ys w all = All-head P w ys all
All-middle P (x ∷ xs) ys w all = All-middle P xs ys w (All-tail P x (xs ++ w ∷ ys) all)

-- what is listed stays so where the list that was taken out mentions no less
pub listed_more : (lists : List (List Watch)) (l : Literal) (old new : List Watch) (p : ℕ) (w : Literal) → (mentions old p ≡ true → mentions new p ≡ true) → IsListed lists l old p w → IsListed lists l new p w
listed_more lists l old new p w more at = ⊎_elim (λ h. inl h) (λ h. inr (h.0, more h.1)) at

-- the literal at the head makes its negation false, and no other
pub free_next : (trues : List Literal) (head : ℕ) (d l w : Literal) → head < length trues → l ≡ negated (get_or trues head d) → has (take head trues) (negated w) ≡ false → w ≢ l → has (take (head + 1) trues) (negated w) ≡ false
free_next trues head d l w within is free other =
    let t : Literal = get_or trues head d in
    false_from_ne_true (has (take (head + 1) trues) (negated w)) (λ h.
    let there : has (take head trues ++ t ∷ []) (negated w) ≡ true = subst (λ ls. has ls (negated w) ≡ true) (take_more trues head d within) h in
    ⊎_elim (λ same_t. other (sym (negated-negated w) ∙ ap negated same_t ∙ sym is)) (λ before. true≢false (sym before ∙ free))
    (has-cons t (negated w) (take head trues) (sym (has-push (take head trues) t (negated w)) ∙ there)))

pub kept_next : (trues clause : List Literal) (head : ℕ) (d l : Literal) (pair : Pair) → head < length trues → l ≡ negated (get_or trues head d) → (same pair.first pair.second ≡ false → (pair.first ≢ l) × (pair.second ≢ l)) → IsKept (take head trues) trues clause pair → IsKept (take (head + 1) trues) trues clause pair
kept_next trues clause head d l pair within is others k =
    ⊎_elim (λ t. inl t) (λ rest. inr (⊎_elim
    (λ o. inl (record {
      differ = o.differ;
      first_free = free_next trues head d l pair.first within is o.first_free (others o.differ).0;
      second_free = free_next trues head d l pair.second within is o.second_free (others o.differ).1;
    }))
    (λ counted. inr counted) rest)) k

-- no clause more is counted where one that is not is put in
pub counted_set : (pairs : List Pair) (place : ℕ) (pair : Pair) → place < length pairs → pair.is_counted ≡ false → (p : ℕ) → (pair_at (set pairs place pair) p).is_counted ≡ true → (pair_at pairs p).is_counted ≡ true
counted_set pairs place pair within watched p is = ⊎_elim
    (λ e. absurd (false≢true (sym watched ∙ ap (λ (x : Pair). x.is_counted) (sym (ap (λ k. pair_at (set pairs place pair) k) e ∙ get_or-set_same pairs place pair (record { first = Plus 0; second = Plus 0; is_counted = false }) within)) ∙ is)))
    (λ e. ap (λ (x : Pair). x.is_counted) (sym (get_or-set_other pairs place p pair (record { first = Plus 0; second = Plus 0; is_counted = false }) e)) ∙ is)
    (cases_eq p place)

pub index-apart : (a b : Literal) → index_of a ≡ index_of b → a ≡ b
index-apart (Plus x) (Plus y) e = ap Plus (omega (arith, e))
index-apart (Plus x) (Minus y) e = absurd (omega (arith, e))
index-apart (Minus x) (Plus y) e = absurd (omega (arith, e))
index-apart (Minus x) (Minus y) e = ap Minus (omega (arith, e))

pub same_or_not : (m k : Literal) → (k ≡ m) ⊎ (k ≢ m)
same_or_not m k = elim (same k m) as (λ b. same k m ≡ b → (k ≡ m) ⊎ (k ≢ m)) [
  | true ↦ λ e. inl (same-true k m e)
  | false ↦ λ e. inr (λ alike. true≢false (sym (subst (λ x. same k x ≡ true) alike (same-itself k)) ∙ e))
] refl

module _ (held : Held) (pairs : List Pair) (lists : List (List Watch)) (trues : List Literal) (reasons : List ℕ) (head : ℕ) (l : Literal) (done coming : List Watch) where
  -- a forced literal more on the trail
  pub visiting_push : IsVisiting held pairs lists trues reasons head l done coming → length reasons ≡ length trues → (o : Literal) (id : ℕ) → id ≢ 0 → IsVisiting held pairs lists (trues ++ o ∷ []) (reasons ++ id ∷ []) head l done coming
  visiting_push v long o id some = record {
    within = omega (arith, v.within, length-append trues (o ∷ []));
    at_head = λ d. v.at_head d ∙ ap negated (sym (get_or-append trues (o ∷ []) d head v.within));
    watched = v.watched;
    taken_out = v.taken_out;
    queued = queued_more held pairs trues reasons head v.queued long o id (λ none. absurd (some none));
    visited = λ p w. ⊎_elim (λ m. inl m) (λ k. inr (subst (λ ls. IsKept ls (trues ++ o ∷ []) (lits_at held p) (pair_at pairs p)) (sym (take-append-le (head + 1) trues (o ∷ []) (omega (arith, v.within))))
        (kept_more (take (head + 1) trues) trues (o ∷ []) (lits_at held p) (pair_at pairs p) k))) (v.visited p w);
  }

  module _ (watch : Watch) (v : IsVisiting held pairs lists trues reasons head l done (watch ∷ coming)) where
    -- what is watched once other watches of l are left
    left_with : (left : List Watch) → ((p : ℕ) → p < length held → same (pair_at pairs p).first (pair_at pairs p).second ≡ false → IsListed lists l left p (pair_at pairs p).first × IsListed lists l left p (pair_at pairs p).second) → All (IsSound held l) left → IsWatched held pairs lists l left
    left_with left listed spare = record { long = v.watched.long; inside = v.watched.inside; listed = listed; sound = v.watched.sound; sound_spare = spare }

    -- a watch whose clause is true stays, with a true literal as its blocker
    pub visiting_true : (b t : Literal) → has (lits_at held watch.place) b ≡ true → has trues b ≡ true → (same t l ≡ false → IsShort (lits_at held watch.place) l b t) → IsVisiting held pairs lists trues reasons head l (done ++ record { place = watch.place; blocker = b; third = t } ∷ []) coming
    visiting_true b t here is short =
        let now : Watch = record { place = watch.place; blocker = b; third = t } in
        let split : (done ++ now ∷ []) ++ coming ≡ done ++ now ∷ coming = append_assoc done (now ∷ []) coming in
        let alike : (p : ℕ) → mentions (done ++ watch ∷ coming) p ≡ true → mentions ((done ++ now ∷ []) ++ coming) p ≡ true =
        λ p m. ap (λ ws. mentions ws p) split ∙ mentions-middle done coming now p ∙ sym (mentions-middle done coming watch p) ∙ m in
        let place_in : watch.place < length held = (All-middle (IsSound held l) done coming watch v.watched.sound_spare).0 in
        record {
          within = v.within;
          at_head = v.at_head;
          watched = left_with ((done ++ now ∷ []) ++ coming)
              (λ p w differ.
              let both = v.watched.listed p w differ in (
                listed_more lists l (done ++ watch ∷ coming) ((done ++ now ∷ []) ++ coming) p (pair_at pairs p).first (alike p) both.0,
                listed_more lists l (done ++ watch ∷ coming) ((done ++ now ∷ []) ++ coming) p (pair_at pairs p).second (alike p) both.1,
              ))
              (subst (λ ws. All (IsSound held l) ws) (sym split) (All-other (IsSound held l) done coming watch now (place_in, here, short) v.watched.sound_spare));
          taken_out = v.taken_out;
          queued = v.queued;
          visited = λ p w. ⊎_elim
              (λ m. ⊎_elim
              (λ own. inr (inl (b, subst (λ k. has (lits_at held k) b ≡ true) (eqb-true watch.place p own) here, is)))
              (λ rest. inl rest)
              (or_cases (watch.place == p) (mentions coming p) m))
              (λ k. inr k) (v.visited p w);
        }

    -- a watch of a clause that watches other literals goes
    pub visiting_stale : (same (pair_at pairs watch.place).first (pair_at pairs watch.place).second ≡ false → ((pair_at pairs watch.place).first ≢ l) × ((pair_at pairs watch.place).second ≢ l)) → IsVisiting held pairs lists trues reasons head l done coming
    visiting_stale others = record {
      within = v.within;
      at_head = v.at_head;
      watched = left_with (done ++ coming)
          (λ p w differ.
          let both = v.watched.listed p w differ in
          let keep : (k : Literal) → (watch.place ≡ p → k ≢ l) → IsListed lists l (done ++ watch ∷ coming) p k → IsListed lists l (done ++ coming) p k =
          λ k not_l at. ⊎_elim (λ h. inl h) (λ h. inr (h.0, ⊎_elim (λ own. absurd (not_l (eqb-true watch.place p own) h.0)) (λ rest. rest) (or_cases (watch.place == p) (mentions (done ++ coming) p) (sym (mentions-middle done coming watch p) ∙ h.1)))) at in
          let own : watch.place ≡ p → ((pair_at pairs p).first ≢ l) × ((pair_at pairs p).second ≢ l) =
          λ e. subst (λ k. same (pair_at pairs k).first (pair_at pairs k).second ≡ false → ((pair_at pairs k).first ≢ l) × ((pair_at pairs k).second ≢ l)) e others differ in
          (keep (pair_at pairs p).first (λ e. (own e).0) both.0, keep (pair_at pairs p).second (λ e. (own e).1) both.1))
          (All-without (IsSound held l) done coming watch v.watched.sound_spare);
      taken_out = v.taken_out;
      queued = v.queued;
      visited = λ p w. ⊎_elim
          (λ m. ⊎_elim
          (λ own. inr (kept_next trues (lits_at held p) head l l (pair_at pairs p) v.within (v.at_head l) (subst (λ k. same (pair_at pairs k).first (pair_at pairs k).second ≡ false → ((pair_at pairs k).first ≢ l) × ((pair_at pairs k).second ≢ l)) (eqb-true watch.place p own) others) (v.queued.kept p w)))
          (λ rest. inl rest)
          (or_cases (watch.place == p) (mentions coming p) m))
          (λ k. inr k) (v.visited p w);
    }

    -- the clause watches another literal, which is not false, in the place of l
    module _ (o m b t : Literal) (false_l : has trues (negated l) ≡ true)
        (differ : same (pair_at pairs watch.place).first (pair_at pairs watch.place).second ≡ false)
        (pair_is : (((pair_at pairs watch.place).first ≡ l) × ((pair_at pairs watch.place).second ≡ o)) ⊎ (((pair_at pairs watch.place).second ≡ l) × ((pair_at pairs watch.place).first ≡ o)))
        (has_m : has (lits_at held watch.place) m ≡ true) (not_o : same m o ≡ false) (free : has trues (negated m) ≡ false) (has_b : has (lits_at held watch.place) b ≡ true) (short : same t m ≡ false → IsShort (lits_at held watch.place) m b t) (inside_m : index_of m < length lists) where
      abbrev pub place : ℕ
      place = watch.place

      abbrev pub moved : Pair
      moved = record { first = o; second = m; is_counted = false }

      abbrev pub now : Watch
      now = record { place = watch.place; blocker = b; third = t }

      abbrev pub new_pairs : List Pair
      new_pairs = set pairs place moved

      abbrev pub new_lists : List (List Watch)
      new_lists = set lists (index_of m) (list_at lists m ++ now ∷ [])

      place_in : place < length held
      place_in = (All-middle (IsSound held l) done coming watch v.watched.sound_spare).0

      pair_here : pair_at new_pairs place ≡ moved
      pair_here = get_or-set_same pairs place moved (record { first = Plus 0; second = Plus 0; is_counted = false }) (omega (arith, place_in, v.watched.long))

      pair_other : (p : ℕ) → p ≢ place → pair_at new_pairs p ≡ pair_at pairs p
      pair_other p other = get_or-set_other pairs place p moved (record { first = Plus 0; second = Plus 0; is_counted = false }) other

      o_not_l : o ≢ l
      o_not_l e = ⊎_elim
          (λ h. true≢false (sym (subst (λ k. same k o ≡ true) (e ∙ refl) (same-itself o)) ∙ ap (λ k. same k o) (sym h.0) ∙ ap (λ k. same (pair_at pairs watch.place).first k) (sym h.1) ∙ differ))
          (λ h. true≢false (sym (subst (λ k. same o k ≡ true) (e ∙ refl) (same-itself o)) ∙ ap (λ k. same o k) (sym h.0) ∙ ap (λ k. same k (pair_at pairs watch.place).second) (sym h.1) ∙ differ))
          pair_is

      m_not_l : m ≢ l
      m_not_l e = true≢false (sym false_l ∙ ap (λ k. has trues (negated k)) (sym e) ∙ free)

      has_o : has (lits_at held place) o ≡ true
      has_o = ⊎_elim (λ h. subst (λ k. has (lits_at held place) k ≡ true) h.1 (v.watched.inside place place_in).1) (λ h. subst (λ k. has (lits_at held place) k ≡ true) h.1 (v.watched.inside place place_in).0) pair_is

      same-sym : (a b : Literal) → same a b ≡ false → same b a ≡ false
      same-sym a b h = false_from_ne_true (same b a) (λ e. true≢false (sym (subst (λ k. same k b ≡ true) (same-true b a e) (same-itself b)) ∙ h))

      -- at any literals that do not make m false
      kept_here : (visited now_true : List Literal) → has visited (negated m) ≡ false → IsKept visited now_true (lits_at held place) (pair_at pairs place) → IsKept visited now_true (lits_at held place) moved
      kept_here visited now_true free_m k =
          ⊎_elim (λ t. inl t) (λ rest. inr (inl (⊎_elim
          (λ old. record {
            differ = same-sym m o not_o;
            first_free = ⊎_elim (λ h. subst (λ x. has visited (negated x) ≡ false) h.1 old.second_free) (λ h. subst (λ x. has visited (negated x) ≡ false) h.1 old.first_free) pair_is;
            second_free = free_m;
          })
          (λ counted. absurd (true≢false (sym counted.1 ∙ differ))) rest))) k

      at_place : (p : ℕ) → p ≡ place → (visited now_true : List Literal) → IsKept visited now_true (lits_at held place) moved → IsKept visited now_true (lits_at held p) (pair_at new_pairs p)
      at_place p e visited now_true k = subst (λ x. IsKept visited now_true (lits_at held x) (pair_at new_pairs x)) (sym e) (subst (λ x. IsKept visited now_true (lits_at held place) x) (sym pair_here) k)

      at_other : (p : ℕ) → p ≢ place → (visited now_true : List Literal) → IsKept visited now_true (lits_at held p) (pair_at pairs p) → IsKept visited now_true (lits_at held p) (pair_at new_pairs p)
      at_other p e visited now_true k = subst (λ x. IsKept visited now_true (lits_at held p) x) (sym (pair_other p e)) k

      all_kept : (visited now_true : List Literal) → has visited (negated m) ≡ false → AreKept held pairs visited now_true → AreKept held new_pairs visited now_true
      all_kept visited now_true free_m all p w = ⊎_elim
          (λ e. at_place p e visited now_true (kept_here visited now_true free_m (all place place_in)))
          (λ e. at_other p e visited now_true (all p w))
          (cases_eq p place)

      free_in : (q : ℕ) → has (take q trues) (negated m) ≡ false
      free_in q = false_from_ne_true (has (take q trues) (negated m)) (λ h. true≢false (sym (take_within q trues (negated m) h) ∙ free))

      list_here : list_at new_lists m ≡ list_at lists m ++ now ∷ []
      list_here = get_or-set_same lists (index_of m) (list_at lists m ++ now ∷ []) [] inside_m

      list_other : (k : Literal) → k ≢ m → list_at new_lists k ≡ list_at lists k
      list_other k e = get_or-set_other lists (index_of m) (index_of k) (list_at lists m ++ now ∷ []) [] (λ i. e (index-apart k m i))

      mentions-more : (k : Literal) (p : ℕ) → mentions (list_at lists k) p ≡ true → mentions (list_at new_lists k) p ≡ true
      mentions-more k p h = ⊎_elim
          (λ e. subst (λ x. mentions (list_at new_lists x) p ≡ true) (sym e) (subst (λ ws. mentions ws p ≡ true) (sym list_here)
          (list_any-append (λ w. w.place == p) (list_at lists m) (now ∷ []) ∙ or_left (mentions (list_at lists m) p) (mentions (now ∷ []) p) (subst (λ x. mentions (list_at lists x) p ≡ true) e h))))
          (λ e. subst (λ ws. mentions ws p ≡ true) (sym (list_other k e)) h)
          (same_or_not m k)

      mentions-new : mentions (list_at new_lists m) place ≡ true
      mentions-new = subst (λ ws. mentions ws place ≡ true) (sym list_here)
          (list_any-append (λ w. w.place == place) (list_at lists m) (now ∷ []) ∙ or_right (mentions (list_at lists m) place) (mentions (now ∷ []) place) (or_left (place == place) false (eq-eqb place place refl)))

      listed_other : (p : ℕ) → p ≢ place → (k : Literal) → IsListed lists l (done ++ watch ∷ coming) p k → IsListed new_lists l (done ++ coming) p k
      listed_other p e k at = ⊎_elim (λ h. inl (mentions-more k p h)) (λ h. inr (h.0, ⊎_elim (λ own. absurd (e (sym (eqb-true place p own)))) (λ rest. rest) (or_cases (place == p) (mentions (done ++ coming) p) (sym (mentions-middle done coming watch p) ∙ h.1)))) at

      listed_o : mentions (list_at lists o) place ≡ true
      listed_o =
          let both = v.watched.listed place place_in differ in
          let from : (k : Literal) → k ≡ o → IsListed lists l (done ++ watch ∷ coming) place k → mentions (list_at lists o) place ≡ true =
          λ k e at. ⊎_elim (λ h. subst (λ x. mentions (list_at lists x) place ≡ true) e h) (λ h. absurd (o_not_l (sym e ∙ h.0))) at in
          ⊎_elim (λ h. from (pair_at pairs place).second h.1 both.1) (λ h. from (pair_at pairs place).first h.1 both.0) pair_is

      listed_here : IsListed new_lists l (done ++ coming) place o × IsListed new_lists l (done ++ coming) place m
      listed_here = (inl (mentions-more o place listed_o), inl mentions-new)

      pub visiting_moved : IsVisiting held new_pairs new_lists trues reasons head l done coming
      visiting_moved = record {
        within = v.within;
        at_head = v.at_head;
        watched = record {
          long = length-set pairs place moved ∙ v.watched.long;
          inside = λ p w. ⊎_elim
              (λ e. subst (λ x. (has (lits_at held x) (pair_at new_pairs x).first ≡ true) × (has (lits_at held x) (pair_at new_pairs x).second ≡ true)) (sym e)
              (subst (λ (x : Pair). (has (lits_at held place) x.first ≡ true) × (has (lits_at held place) x.second ≡ true)) (sym pair_here) (has_o, has_m)))
              (λ e. subst (λ (x : Pair). (has (lits_at held p) x.first ≡ true) × (has (lits_at held p) x.second ≡ true)) (sym (pair_other p e)) (v.watched.inside p w))
              (cases_eq p place);
          listed = λ p w apart. ⊎_elim
              (λ e. subst (λ x. IsListed new_lists l (done ++ coming) x (pair_at new_pairs x).first × IsListed new_lists l (done ++ coming) x (pair_at new_pairs x).second) (sym e)
              (subst (λ (x : Pair). IsListed new_lists l (done ++ coming) place x.first × IsListed new_lists l (done ++ coming) place x.second) (sym pair_here) listed_here))
              (λ e.
              let both = v.watched.listed p w (subst (λ (x : Pair). same x.first x.second ≡ false) (pair_other p e) apart) in
              subst (λ (x : Pair). IsListed new_lists l (done ++ coming) p x.first × IsListed new_lists l (done ++ coming) p x.second) (sym (pair_other p e))
              (listed_other p e (pair_at pairs p).first both.0, listed_other p e (pair_at pairs p).second both.1))
              (cases_eq p place);
          sound = λ k. ⊎_elim
              (λ e. subst (λ x. All (IsSound held x) (list_at new_lists x)) (sym e) (subst (λ ws. All (IsSound held m) ws) (sym list_here) (All-push (IsSound held m) (list_at lists m) now (v.watched.sound m) (place_in, has_b, short))))
              (λ e. subst (λ ws. All (IsSound held k) ws) (sym (list_other k e)) (v.watched.sound k))
              (same_or_not m k);
          sound_spare = All-without (IsSound held l) done coming watch v.watched.sound_spare;
        };
        taken_out = list_other l (λ e. m_not_l (sym e)) ∙ v.taken_out;
        queued = record {
          within = v.queued.within;
          kept = all_kept (take head trues) trues (free_in head) v.queued.kept;
          at_decisions = λ q less decided. all_kept (take q trues) (take q trues) (free_in q) (v.queued.at_decisions q less decided);
        };
        visited = λ p w. ⊎_elim
            (λ e. inr (at_place p e (take (head + 1) trues) trues
            (kept_next trues (lits_at held place) head l l moved v.within (v.at_head l) (λ _. (o_not_l, m_not_l)) (kept_here (take head trues) trues (free_in head) (v.queued.kept place place_in)))))
            (λ e. ⊎_elim
            (λ h. ⊎_elim (λ own. absurd (e (sym (eqb-true place p own)))) (λ rest. inl rest) (or_cases (place == p) (mentions coming p) h))
            (λ k. inr (at_other p e (take (head + 1) trues) trues k))
            (v.visited p w))
            (cases_eq p place);
      }

-- the next watch names a clause, and a literal of it
pub sound_next : {held : Held} {pairs : List Pair} {lists : List (List Watch)} {trues : List Literal} {reasons : List ℕ} {l : Literal} {watch : Watch} → ((head : ℕ) × (done : List Watch) × (coming : List Watch) × IsVisiting held pairs lists trues reasons head l done (watch ∷ coming)) → IsSound held l watch
sound_next {held = held} {l = l} {watch = watch} v = All-middle (IsSound held l) v.1 v.2 watch v.3.watched.sound_spare

-- any default
pub same_at : {X : Type 0} → (xs : List X) (i : ℕ) (d e : X) → i < length xs → get_or xs i d ≡ get_or xs i e
same_at [] i d e within = absurd (omega arith)
same_at (x ∷ xs) zero d e within = refl
same_at (x ∷ xs) (suc i) d e within = same_at xs i d e (omega arith)

pub pair_found : (pairs : List Pair) (i : ℕ) (pair : Pair) → i < length pairs → pair ≡ get_or pairs i pair → pair_at pairs i ≡ pair
pair_found pairs i pair within is = same_at pairs i (record { first = Plus 0; second = Plus 0; is_counted = false }) pair within ∙ sym is

pub has_other : (clause : List Literal) (pair : Pair) (l o : Literal) → (has clause pair.first ≡ true) × (has clause pair.second ≡ true) → ((pair.first ≡ l) × (pair.second ≡ o)) ⊎ ((pair.second ≡ l) × (pair.first ≡ o)) → has clause o ≡ true
has_other clause pair l o both is = ⊎_elim (λ h. subst (λ k. has clause k ≡ true) h.1 both.1) (λ h. subst (λ k. has clause k ≡ true) h.1 both.0) is

-- each of a pair is in its clause
pub has_own : (clause : List Literal) (pair : Pair) (l o : Literal) → (has clause pair.first ≡ true) × (has clause pair.second ≡ true) → ((pair.first ≡ l) × (pair.second ≡ o)) ⊎ ((pair.second ≡ l) × (pair.first ≡ o)) → has clause l ≡ true
has_own clause pair l o both is = ⊎_elim (λ h. subst (λ k. has clause k ≡ true) h.0 both.0) (λ h. subst (λ k. has clause k ≡ true) h.0 both.1) is

pub index_within : (m : Literal) (n room : ℕ) → variable_of m ≤ n → room ≡ 2 * (n + 1) → index_of m < room
index_within (Plus x) n room h e = omega (arith, h, e)
index_within (Minus x) n room h e = omega (arith, h, e)
