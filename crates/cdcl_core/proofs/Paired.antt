-- The first two literals that a walk keeps: the implication point, and the highest of the others.
use Rattle.std.proofs.Common.{◌≡◌, ◌≢◌, ℕ, zero, suc, ◌+◌, ◌-◌, ◌<◌, ◌≤◌, Bool, true, false, cond, List, [], ◌∷◌, ◌++◌, ⊎_elim, inl, inr, refl, sym, ap, ◌∙◌, subst, arith, length, get_or, take, reverse, ◌||◌}
use Rattle.std.proofs.lemmas.Grind.{reverse_onto}
use Rattle.std.proofs.lemmas.List.{length-reverse}
use Rattle.std.specs.Prelude.{◌⊎◌, ◌==◌, slice_index, if◌then◌else◌, Option, None, Some, IfSome}
use Rattle.std.proofs.lemmas.Bool.{cases_lt, eqb-true, true≢false, false≢true, false_from_ne_true}
use Rattle.lrat_model.specs.Literal.{Literal, negated, same, has}
use Rattle.lrat_model.specs.Clauses.{Held, clause_at}
use Rattle.lrat_model.proofs.Literals.{has-cons, has-first, has-rest, has-push, negated-negated, same-true}
use Rattle.cdcl_core.specs.Trail.{IsTrail, IsForced}
use Rattle.cdcl_core.proofs.Jumps.{take_mono}
use Rattle.cdcl_core.proofs.Walks.{has-at}
use Rattle.cdcl_core.proofs.Tops.{below}
use Rattle.cdcl_core.specs.declared.watches.Pair.{Pair}
use Rattle.cdcl_core.specs.Watches.{IsAsserting, IsPairOf}

-- what is kept after the implication point: nothing, or first the highest, right below the place `above`
abbrev pub AreOthers : List Literal → ℕ → ℕ → ℕ → List Literal → Type 0
AreOthers trail last place above rest =
    ((rest ≡ []) × (above ≡ 0))
    ⊎ ((u : Literal) × (more : List Literal) × (rest ≡ negated u ∷ more) × (0 < above) × (above ≤ last) × (u ≡ get_or trail (above - 1) u) × (place < above) × ((m : Literal) → has rest m ≡ true → has (take above trail) (negated m) ≡ true))

abbrev pub IsPaired : List Literal → ℕ → ℕ → ℕ → List Literal → Type 0
IsPaired trail last place above lits =
    ((lits ≡ []) × (above ≡ 0))
    ⊎ ((t : Literal) × (q : ℕ) × (rest : List Literal) × (lits ≡ negated t ∷ rest) × (last ≤ q) × (q < length trail) × (t ≡ get_or trail q t) × (place ≤ last) × AreOthers trail last place above rest)

pub others_lower : (trail : List Literal) (last place low above : ℕ) (rest : List Literal) → low ≤ place → AreOthers trail last place above rest → AreOthers trail last low above rest
others_lower trail last place low above rest less o = ⊎_elim (λ none. inl none) (λ s. inr (s.0, s.1, s.2, s.3, s.4, s.5, omega (arith, s.6, less), s.7)) o

pub paired_lower : (trail : List Literal) (last place low above : ℕ) (lits : List Literal) → low ≤ place → IsPaired trail last place above lits → IsPaired trail last low above lits
paired_lower trail last place low above lits less p = ⊎_elim (λ none. inl none) (λ s. inr (s.0, s.1, s.2, s.3, s.4, s.5, s.6, omega (arith, s.7, less), others_lower trail last place low above s.2 less s.8)) p

pub paired_first : (trail : List Literal) (last place above : ℕ) (t : Literal) (lits : List Literal) → 0 < place → last ≤ place - 1 → place ≤ length trail → t ≡ get_or trail (place - 1) t → IsPaired trail last place above lits → IsPaired trail last last above (lits ++ negated t ∷ [])
paired_first trail last place above t lits some high within is p =
    ⊎_elim
    (λ none. inr (t, place - 1, [], ap (λ (ls : List Literal). ls ++ negated t ∷ []) none.0, high, omega (arith, within, some), is, omega arith, inl (refl, none.1)))
    (λ s. absurd (omega (arith, s.7, high, some))) p

one_more : (rest : List Literal) (l : Literal) → length (l ∷ rest) ≡ 1 → rest ≡ []
one_more [] l one = refl
one_more (x ∷ xs) l one = absurd (omega arith)

others_keep : (trail : List Literal) (last place above : ℕ) (t l : Literal) (rest : List Literal) → 0 < place → place ≤ last → last ≤ length trail → t ≡ get_or trail (place - 1) t → AreOthers trail last place above rest
    → (after : ℕ) → after ≡ (if length (l ∷ rest) == 1 then place - 1 + 1 else above) → AreOthers trail last (place - 1) after (rest ++ negated t ∷ [])
others_keep trail last place above t l rest some low inside is o after after_is =
    ⊎_elim
    (λ none.
    let here : after ≡ place = after_is ∙ ap (λ (ls : List Literal). cond (length (l ∷ ls) == 1) (place - 1 + 1) above) none.0 ∙ omega (arith, some) in
    inr (
      t,
      [],
      ap (λ (ls : List Literal). ls ++ negated t ∷ []) none.0,
      omega (arith, here, some),
      omega (arith, here, low),
      is ∙ ap (λ k. get_or trail (k - 1) t) (sym here),
      omega (arith, here, some),
      λ m h.
          let m_is : m ≡ negated t = ⊎_elim (λ e. e) (λ nothing. absurd (false≢true (subst (λ (ls : List Literal). has ls m ≡ true) none.0 nothing))) (has-cons (negated t) m rest (sym (has-push rest (negated t) m) ∙ h)) in
          subst (λ k. has (take after trail) k ≡ true) (sym (ap negated m_is ∙ negated-negated t)) (below trail (place - 1) after t (omega (arith, here, some)) (omega (arith, here, low, inside)) is),
    ))
    (λ s.
    let two : (length (l ∷ rest) == 1) ≡ false = false_from_ne_true (length (l ∷ rest) == 1) (λ e. false≢true (ap (λ n. nat_positive n) (none_left rest s.0 s.1 s.2 e))) in
    let same_above : after ≡ above = after_is ∙ ap (λ b. cond b (place - 1 + 1) above) two in
    inr (
      s.0,
      s.1 ++ negated t ∷ [],
      ap (λ (ls : List Literal). ls ++ negated t ∷ []) s.2,
      omega (arith, same_above, s.3),
      omega (arith, same_above, s.4),
      s.5 ∙ ap (λ k. get_or trail (k - 1) s.0) (sym same_above),
      omega (arith, same_above, s.6),
      λ m h. ap (λ k. has (take k trail) (negated m)) same_above ∙ ⊎_elim
          (λ e. subst (λ k. has (take above trail) k ≡ true) (sym (ap negated e ∙ negated-negated t)) (below trail (place - 1) above t (omega (arith, s.6, some)) (omega (arith, s.4, inside)) is))
          (λ old. s.7 m old)
          (has-cons (negated t) m rest (sym (has-push rest (negated t) m) ∙ h)),
    )) o
  where
    nat_positive : ℕ → Bool
    nat_positive zero = false
    nat_positive (suc n) = true

    none_left : (rest : List Literal) (u : Literal) (more : List Literal) → rest ≡ negated u ∷ more → (length (l ∷ rest) == 1) ≡ true → 0 ≡ suc (length more)
    none_left rest u more e one = absurd (omega (arith, ap length e, eqb-true (length (l ∷ rest)) 1 one))

pub paired_keep : (trail : List Literal) (last place above : ℕ) (t : Literal) (lits : List Literal) → 0 < place → place ≤ last → last ≤ length trail → t ≡ get_or trail (place - 1) t → (lits ≡ [] → ⊥) → IsPaired trail last place above lits
    → (after : ℕ) → after ≡ (if length lits == 1 then place - 1 + 1 else above) → IsPaired trail last (place - 1) after (lits ++ negated t ∷ [])
paired_keep trail last place above t lits some low inside is other p after after_is =
    ⊎_elim (λ none. absurd (other none.0))
    (λ s. inr (
      s.0,
      s.1,
      s.2 ++ negated t ∷ [],
      ap (λ (ls : List Literal). ls ++ negated t ∷ []) s.3,
      s.4,
      s.5,
      s.6,
      omega (arith, s.7),
      others_keep trail last place above t (negated s.0) s.2 some low inside is s.8 after (after_is ∙ ap (λ (ls : List Literal). if length ls == 1 then place - 1 + 1 else above) s.3),
    )) p

has-reverse : (ls : List Literal) (m : Literal) → has (reverse ls) m ≡ has ls m
has-reverse [] m = refl
has-reverse (l ∷ ls) m = ap (λ (xs : List Literal). has xs m) (reverse_onto ls l []) ∙ has-push (reverse ls) l m ∙ ap (λ b. same m l || b) (has-reverse ls m)

pub empty_reverse : (ls : List Literal) → reverse ls ≡ [] → ls ≡ []
empty_reverse [] e = refl
empty_reverse (l ∷ ls) e = absurd (omega (arith, ap length e, length-reverse (l ∷ ls)))

-- the pair of the two first literals asserts
module _ (held : Held) (trail : List Literal) (reasons : List ℕ) (sound : IsTrail held trail reasons) (last above jump : ℕ) (from : above ≤ jump) (jump_last : jump ≤ last) (none : (p : ℕ) → above ≤ p → p < jump → slice_index reasons p ≢ 0)
    (lits : List Literal) (pair : Pair) (t : Literal) (q : ℕ) (rest : List Literal) (lits_are : lits ≡ negated t ∷ rest) (high : last ≤ q) (within : q < length trail) (t_is : t ≡ get_or trail q t) (first_is : pair.first ≡ negated t) where
  back : negated pair.first ≡ t
  back = ap negated first_is ∙ negated-negated t

  t_not_at : (k : ℕ) → k ≤ q → has (take k trail) t ≡ false
  t_not_at k less = false_from_ne_true (has (take k trail) t) (λ h. true≢false (sym (take_mono k q trail less t h) ∙ (ap (λ x. has (take q trail) x) t_is ∙ sound.fresh q t within)))

  here : (m : Literal) → has (reverse lits) m ≡ true → (m ≡ pair.first) ⊎ (has rest m ≡ true)
  here m h = ⊎_elim (λ f. inl (f ∙ sym first_is)) (λ there. inr there) (has-cons (negated t) m rest (subst (λ (ls : List Literal). has ls m ≡ true) lits_are (sym (has-reverse lits m) ∙ h)))

  in_lits : (m : Literal) → has (negated t ∷ rest) m ≡ true → has (reverse lits) m ≡ true
  in_lits m h = has-reverse lits m ∙ subst (λ (ls : List Literal). has ls m ≡ true) (sym lits_are) h

  first_in : has (reverse lits) pair.first ≡ true
  first_in = in_lits pair.first (subst (λ k. has (negated t ∷ rest) k ≡ true) (sym first_is) (has-first (negated t) rest))

  free : has (take jump trail) (negated pair.first) ≡ false
  free = ap (λ k. has (take jump trail) k) back ∙ t_not_at jump (omega (arith, jump_last, high))

  on : has trail (negated pair.first) ≡ true
  on = ap (λ k. has trail k) back ∙ has-at trail q t within t_is

  asserts_alone : pair.is_counted ≡ false → rest ≡ [] → pair.second ≡ pair.first → above ≡ 0 → IsAsserting trail reasons jump (reverse lits) pair
  asserts_alone watched empty second_is at_start = record {
    first_in = first_in;
    second_in = subst (λ k. has (reverse lits) k ≡ true) (sym second_is) first_in;
    watched = watched;
    first_false = on;
    first_free = free;
    others_false = λ m h. ⊎_elim (λ f. inl f) (λ nothing. absurd (false≢true (subst (λ (ls : List Literal). has ls m ≡ true) empty nothing))) (here m h);
    second_free = λ p less decision. absurd (none p (omega (arith, at_start)) less decision);
  }

  module _ (u : Literal) (more : List Literal) (rest_is : rest ≡ negated u ∷ more) (some : 0 < above) (low : above ≤ last) (u_is : u ≡ get_or trail (above - 1) u) (all : (m : Literal) → has rest m ≡ true → has (take above trail) (negated m) ≡ true) (second_is : pair.second ≡ negated u) where
    back_u : negated pair.second ≡ u
    back_u = ap negated second_is ∙ negated-negated u

    in_rest : has rest pair.second ≡ true
    in_rest = subst (λ (ls : List Literal). has ls pair.second ≡ true) (sym rest_is) (subst (λ k. has (negated u ∷ more) k ≡ true) (sym second_is) (has-first (negated u) more))

    u_low : has (take q trail) u ≡ true
    u_low = below trail (above - 1) q u (omega (arith, some, low, high)) (omega (arith, within)) u_is

    u_free : (p : ℕ) → p < above → has (take p trail) (negated pair.second) ≡ false
    u_free p less = ap (λ k. has (take p trail) k) back_u ∙ false_from_ne_true (has (take p trail) u) (λ h. true≢false (sym (take_mono p (above - 1) trail (omega (arith, less)) u h) ∙ (ap (λ x. has (take (above - 1) trail) x) u_is ∙ sound.fresh (above - 1) u (omega (arith, some, low, high, within)))))

    differ : same pair.first pair.second ≡ false
    differ = false_from_ne_true (same pair.first pair.second) (λ alike.
        let one : t ≡ u = sym back ∙ ap negated (same-true pair.first pair.second alike) ∙ back_u in
        true≢false (sym (subst (λ k. has (take q trail) k ≡ true) (sym one) u_low) ∙ t_not_at q (omega arith)))

    asserts_with : pair.is_counted ≡ false → IsAsserting trail reasons jump (reverse lits) pair
    asserts_with watched = record {
      first_in = first_in;
      second_in = in_lits pair.second (has-rest (negated t) pair.second rest in_rest);
      watched = watched;
      first_false = on;
      first_free = free;
      others_false = λ m h. ⊎_elim (λ f. inl f) (λ there. inr (take_mono above jump trail from (negated m) (all m there))) (here m h);
      second_free = λ p less decision. (differ, u_free p (⊎_elim (λ yes. yes) (λ more. absurd (none p more less decision)) (cases_lt p above)));
    }

head_is : (a b : Literal) (xs ys : List Literal) → a ∷ xs ≡ b ∷ ys → a ≡ b
head_is a b xs ys e = cc

second_head : (a b c d : Literal) (xs ys : List Literal) → a ∷ b ∷ xs ≡ c ∷ d ∷ ys → b ≡ d
second_head a b c d xs ys e = cc

pair_first : (lits : List Literal) (pair : Pair) (l : Literal) (rest : List Literal) → IsPairOf lits pair → lits ≡ l ∷ rest → pair.first ≡ l
pair_first lits pair l rest is e = ⊎_elim (λ one. head_is pair.first l [] rest (sym one.0 ∙ e)) (λ two. head_is pair.first l (pair.second ∷ two.0) rest (sym two.1 ∙ e)) is

pair_alone : (lits : List Literal) (pair : Pair) (l : Literal) → IsPairOf lits pair → lits ≡ l ∷ [] → pair.second ≡ pair.first
pair_alone lits pair l is e = ⊎_elim (λ one. one.1) (λ two. absurd (omega (arith, ap length (sym two.1 ∙ e)))) is

pair_second : (lits : List Literal) (pair : Pair) (l m : Literal) (rest : List Literal) → IsPairOf lits pair → lits ≡ l ∷ m ∷ rest → pair.second ≡ m
pair_second lits pair l m rest is e = ⊎_elim (λ one. absurd (omega (arith, ap length (sym one.0 ∙ e)))) (λ two. second_head pair.first pair.second l m two.0 rest (sym two.1 ∙ e)) is

pair_some : (lits : List Literal) (pair : Pair) → IsPairOf lits pair → lits ≡ [] → ⊥
pair_some lits pair is e = ⊎_elim (λ one. absurd (omega (arith, ap length (sym one.0 ∙ e)))) (λ two. absurd (omega (arith, ap length (sym two.1 ∙ e)))) is

above_low : (trail : List Literal) (last place above : ℕ) (rest : List Literal) → AreOthers trail last place above rest → above ≤ last
above_low trail last place above rest o = ⊎_elim (λ e. omega (arith, e.1)) (λ s. s.4) o

module _ (held : Held) (trail : List Literal) (reasons : List ℕ) (sound : IsTrail held trail reasons) (last above jump : ℕ) (decided : last < length trail → slice_index reasons last ≡ 0)
    (from : above ≤ jump) (at_jump : jump < length reasons → slice_index reasons jump ≡ 0) (none : (p : ℕ) → above ≤ p → p < jump → slice_index reasons p ≢ 0) where
  jump_below : last < length trail → above ≤ last → jump ≤ last
  jump_below inside low = ⊎_elim (λ more. absurd (none last low more (decided inside))) (λ less. less) (cases_lt last jump)

  pub paired_asserts : (lits : List Literal) (pair : Pair) → IsPaired trail last 0 above lits → IsPairOf lits pair × (pair.is_counted ≡ false) → IsAsserting trail reasons jump (reverse lits) pair × (jump < length trail) × (slice_index reasons jump ≡ 0)
  paired_asserts lits pair paired (is, watched) =
      ⊎_elim
      (λ empty. absurd (pair_some lits pair is empty.0))
      (λ s. from_first s.0 s.1 s.2 s.3 s.4 s.5 s.6 s.8)
      paired
    where
      from_first : (t : Literal) (q : ℕ) (rest : List Literal) → lits ≡ negated t ∷ rest → last ≤ q → q < length trail → t ≡ get_or trail q t → AreOthers trail last 0 above rest → IsAsserting trail reasons jump (reverse lits) pair × (jump < length trail) × (slice_index reasons jump ≡ 0)
      from_first t q rest lits_are high within t_is others =
          let low : jump ≤ last = jump_below (omega (arith, high, within)) (above_low trail last 0 above rest others) in
          let first_is : pair.first ≡ negated t = pair_first lits pair (negated t) rest is lits_are in
          let inside : jump < length trail = omega (arith, low, high, within) in (
            ⊎_elim
                (λ e. asserts_alone held trail reasons sound last above jump from low none lits pair t q rest lits_are high within t_is first_is watched e.0 (pair_alone lits pair (negated t) is (lits_are ∙ ap (λ (ls : List Literal). negated t ∷ ls) e.0)) e.1)
                (λ o. asserts_with held trail reasons sound last above jump from low none lits pair t q rest lits_are high within t_is first_is o.0 o.1 o.2 o.3 o.4 o.5 o.7 (pair_second lits pair (negated t) (negated o.0) o.1 is (lits_are ∙ ap (λ (ls : List Literal). negated t ∷ ls) o.2)) watched)
                others,
            inside,
            at_jump (omega (arith, inside, sound.long)),
          )

pub if_some_weaker : {X : Type 0} (r : Option X) (P Q : X → Type 0) → ((x : X) → P x → Q x) → IfSome r P → IfSome r Q
if_some_weaker None P Q f h = tt
if_some_weaker (Some x) P Q f h = f x h

-- what has a reason was forced by it
pub cause_from : (held : Held) (trail : List Literal) (reasons : List ℕ) → IsTrail held trail reasons → (place : ℕ) (t : Literal) → 0 < place → place ≤ length trail → t ≡ get_or trail (place - 1) t → slice_index reasons (place - 1) ≢ 0
    → (cause : List Literal) × (clause_at held (slice_index reasons (place - 1)) ≡ Some cause) × IsForced (take (place - 1) trail) t cause
cause_from held trail reasons sound place t some within is forced =
    let derived : (cause : List Literal) × (clause_at held (slice_index reasons (place - 1)) ≡ Some cause) × ((d : Literal) → IsForced (take (place - 1) trail) (get_or trail (place - 1) d) cause) = sound.derived (place - 1) (omega (arith, some, within)) forced in
    (derived.0, derived.1, subst (λ k. IsForced (take (place - 1) trail) k derived.0) (sym is) (derived.2 t))
