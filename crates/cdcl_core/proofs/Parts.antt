-- Ids that rise, and some of them that go.
use Rattle.std.proofs.Common.{◌≡◌, ◌⊎◌, ℕ, suc, ◌+◌, ◌-◌, ◌<◌, ◌≤◌, Bool, true, false, cond, not, ◌||◌, List, [], ◌∷◌, ◌++◌, ⊎_elim, inl, inr, refl, sym, ap, ◌∙◌, subst, arith, length, get_or, take, length-take, length-append, append-nil}
use Rattle.std.specs.Prelude.{◌==◌, All, AllPairs, filter}
use Rattle.std.specs.List.{AllWithin}
use Rattle.std.specs.List.Sorted.{IsNonDecreasingBy}
use Rattle.std.proofs.lemmas.Bool.{eq-eqb, ne_eqb, eqb-true, eqb-false, cases_eq, cases_lt, cases_Bool}
use Rattle.std.proofs.lemmas.List.{get_or_default, get_or-take, take_all, take_more}
use Rattle.std.proofs.lemmas.List.Elements.{All-head, All-tail, All-nil, All-push, All-weaker}
use Rattle.std.proofs.lemmas.List.Filters.{length-filter_more}
use Rattle.std.proofs.lemmas.List.Folds.{list_any-append, list_any_more, list_any_at, list_any_none}
use Rattle.std.proofs.lemmas.List.Quantifiers.{all_pairs_push}
use Rattle.std.proofs.Math.Bool.{or-true, or-false}
use Rattle.lrat_model.specs.Clauses.{has_id}
use Rattle.cdcl_core.specs.declared.memory.TheConstants.{MOST_DELETED}
use Rattle.cdcl_core.specs.Remembering.{IsChosen}

abbrev pub Rises : List ℕ → Type 0
Rises ids = AllPairs (λ (j k : ℕ). j < k) ids

pub does_not_fall : (ids : List ℕ) → Rises ids → IsNonDecreasingBy (λ k. k) ids
does_not_fall ids rise i j d le within =
    ⊎_elim (λ same. let is : get_or ids i d ≡ get_or ids j d = ap (λ k. get_or ids k d) same in omega (arith, is)) (λ other. omega (arith, rise i j d (omega (arith, other, le)) within)) (cases_eq i j)

pub rise_tail : (x : ℕ) (xs : List ℕ) → Rises (x ∷ xs) → Rises xs
rise_tail x xs rise i j d less within = rise (suc i) (suc j) d (omega (arith, less)) (omega (arith, within))

pub rise_head : (x : ℕ) (xs : List ℕ) → Rises (x ∷ xs) → All (λ k. x < k) xs
rise_head x xs rise i d within = rise 0 (suc i) d (omega arith) (omega (arith, within))

-- ---- how many are in a list

both_or : (a b c : Bool) → (a || b) ≡ c → cond c 1 0 ≤ cond a 1 0 + cond b 1 0
both_or true b c is = subst (λ d. cond d 1 0 ≤ 1 + cond b 1 0) is (omega arith)
both_or false b c is = subst (λ d. cond d 1 0 ≤ 0 + cond b 1 0) is (omega arith)

length-cond : (b : Bool) (x : ℕ) (xs : List ℕ) → length (cond b (x ∷ xs) xs) ≡ cond b 1 0 + length xs
length-cond true x xs = omega arith
length-cond false x xs = omega arith

length-or : (p q : ℕ → Bool) (xs : List ℕ) → length (filter (λ k. p k || q k) xs) ≤ length (filter p xs) + length (filter q xs)
length-or p q [] = omega arith
length-or p q (x ∷ xs) =
    omega (arith, length-or p q xs, both_or (p x) (q x) (p x || q x) refl, length-cond (p x || q x) x (filter (λ k. p k || q k) xs), length-cond (p x) x (filter p xs), length-cond (q x) x (filter q xs))

pub filter_none : (p : ℕ → Bool) (xs : List ℕ) → All (λ k. p k ≡ false) xs → filter p xs ≡ []
filter_none p [] all = refl
filter_none p (x ∷ xs) all = ap (λ b. cond b (x ∷ filter p xs) (filter p xs)) (All-head (λ k. p k ≡ false) x xs all) ∙ filter_none p xs (All-tail (λ k. p k ≡ false) x xs all)

pub filter_every : (p : ℕ → Bool) (xs : List ℕ) → All (λ k. p k ≡ true) xs → filter p xs ≡ xs
filter_every p [] all = refl
filter_every p (x ∷ xs) all = ap (λ b. cond b (x ∷ filter p xs) (filter p xs)) (All-head (λ k. p k ≡ true) x xs all) ∙ ap (λ (ls : List ℕ). x ∷ ls) (filter_every p xs (All-tail (λ k. p k ≡ true) x xs all))

pub filter_alike : (p q : ℕ → Bool) (xs : List ℕ) → All (λ k. p k ≡ q k) xs → filter p xs ≡ filter q xs
filter_alike p q [] all = refl
filter_alike p q (x ∷ xs) all =
    ap (λ b. cond b (x ∷ filter p xs) (filter p xs)) (All-head (λ k. p k ≡ q k) x xs all)
    ∙ ap (λ (ls : List ℕ). cond (q x) (x ∷ ls) ls) (filter_alike p q xs (All-tail (λ k. p k ≡ q k) x xs all))

one_at_most : (y : ℕ) (xs : List ℕ) → Rises xs → length (filter (λ k. y == k) xs) ≤ 1
one_at_most y [] rise = omega arith
one_at_most y (x ∷ xs) rise = elim (cases_Bool (y == x)) [
  | inl is ↦
      let others : filter (λ k. y == k) xs ≡ [] = filter_none (λ k. y == k) xs (λ i d within. ne_eqb y (get_or xs i d) (λ e. absurd (omega (arith, e, eqb-true y x is, rise_head x xs rise i d within)))) in
      omega (arith, length-cond (y == x) x (filter (λ k. y == k) xs), ap {B = ℕ} (λ b. cond b 1 0) is, ap (λ (ls : List ℕ). length ls) others)
  | inr off ↦ omega (arith, length-cond (y == x) x (filter (λ k. y == k) xs), ap {B = ℕ} (λ b. cond b 1 0) off, one_at_most y xs (rise_tail x xs rise))
]

pub few_in : (ys xs : List ℕ) → Rises xs → length (filter (λ k. has_id ys k) xs) ≤ length ys
few_in [] xs rise = let none : filter (λ k. has_id [] k) xs ≡ [] = filter_none (λ k. has_id [] k) xs (λ i d within. refl) in omega (arith, ap (λ (ls : List ℕ). length ls) none)
few_in (y ∷ ys) xs rise = omega (arith, length-or (λ k. y == k) (λ k. has_id ys k) xs, one_at_most y xs rise, few_in ys xs rise)

-- where each is gone or needed, they are no more than both
pub few_left : (live gone needed : List ℕ) → Rises live → All (λ k. (has_id gone k ≡ true) ⊎ (has_id needed k ≡ true)) live → length live ≤ length gone + length needed
few_left live gone needed rise each =
    let all : filter (λ k. has_id gone k || has_id needed k) live ≡ live = filter_every (λ k. has_id gone k || has_id needed k) live (λ i d within. either (get_or live i d) (each i d within)) in
    omega (arith, ap (λ (ls : List ℕ). length ls) all, length-or (λ k. has_id gone k) (λ k. has_id needed k) live, few_in gone live rise, few_in needed live rise)
  where
    either : (k : ℕ) → (has_id gone k ≡ true) ⊎ (has_id needed k ≡ true) → (has_id gone k || has_id needed k) ≡ true
    either k (inl a) = rw a refl
    either k (inr b) = rw b (elim (has_id gone k) as (λ c. (c || true) ≡ true) [ true ↦ refl | false ↦ refl ])

-- ---- ids pushed

pub has_id-push : (ids : List ℕ) (x k : ℕ) → has_id (ids ++ x ∷ []) k ≡ (has_id ids k || (x == k))
has_id-push ids x k = list_any-append (λ j. j == k) ids (x ∷ []) ∙ ap (λ b. has_id ids k || b) (or-false (x == k))

pub none_below : (ids : List ℕ) (x : ℕ) → All (λ k. k < x) ids → has_id ids x ≡ false
none_below [] x all = refl
none_below (y ∷ ids) x all =
    ap (λ b. b || has_id ids x) (ne_eqb y x (λ e. absurd (omega (arith, e, All-head (λ k. k < x) y ids all)))) ∙ none_below ids x (All-tail (λ k. k < x) y ids all)

-- of the lemmas before a place those that are gone, and all that are gone are before the rest
pub record IsPart (live needed gone : List ℕ) (place : ℕ) : Type 0 where
  pub within : place ≤ length live
  pub chosen : IsChosen (take place live) needed gone
  pub below : (j : ℕ) → place ≤ j → j < length live → All (λ k. k < get_or live j 0) gone

module _ (live needed gone : List ℕ) (place : ℕ) (rise : Rises live) (part : IsPart live needed gone place) (inside : place < length live) (id : ℕ) (id_is : id ≡ get_or live place 0) where
  is : get_or live place id ≡ id
  is = get_or_default live place id 0 inside ∙ sym id_is

  below_id : All (λ k. k < id) gone
  below_id = subst (λ x. All (λ k. k < x) gone) (sym id_is) (part.below place (omega arith) inside)

  none_yet : has_id gone id ≡ false
  none_yet = none_below gone id below_id

  still : (k : ℕ) → has_id (take place live) k ≡ true → has_id (take (place + 1) live) k ≡ true
  still k h = list_any_more (λ j. j == k) live place id inside ∙ rw h refl

  long : length (take place live) ≡ place
  long = omega (arith, length-take place live, inside)

  long_next : length (take (place + 1) live) ≡ place + 1
  long_next = omega (arith, length-take (place + 1) live, inside)

  pub part_stays : IsPart live needed gone (place + 1)
  part_stays = record {
    within = omega (arith, inside);
    chosen = record {
      rise = part.chosen.rise;
      most = part.chosen.most;
      named = All-weaker (λ k. has_id (take place live) k ≡ true) (λ k. has_id (take (place + 1) live) k ≡ true) still gone part.chosen.named;
      fewer =
          let step = length-filter_more (λ k. not (has_id gone k)) live place id inside in
          let here : not (has_id gone (get_or live place id)) ≡ true = ap (λ k. not (has_id gone k)) is ∙ ap not none_yet in
          omega (arith, step, ap {B = ℕ} (λ b. cond b 1 0) here, part.chosen.fewer, long, long_next);
      spared = part.chosen.spared;
    };
    below = λ j from less. part.below j (omega (arith, from)) less;
  }

  alike : All (λ k. not (has_id (gone ++ id ∷ []) k) ≡ not (has_id gone k)) (take place live)
  alike i d within =
      let less : i < place = omega (arith, within, length-take place live) in
      let smaller : get_or (take place live) i d < id =
      omega (arith, ap (λ k. k) (get_or-take place live i d less), rise i place d less inside, get_or_default live place d 0 inside, id_is) in
      let k = get_or (take place live) i d in
      ap not (has_id-push gone id k ∙ ap (λ b. has_id gone k || b) (ne_eqb id k (λ e. absurd (omega (arith, e, smaller)))) ∙ or-false (has_id gone k))

  pub part_goes : length gone < MOST_DELETED → has_id needed id ≡ false → IsPart live needed (gone ++ id ∷ []) (place + 1)
  part_goes few spare = record {
    within = omega (arith, inside);
    chosen = record {
      rise = all_pairs_push (λ (j k : ℕ). j < k) gone id part.chosen.rise (λ k d less. below_id k d less);
      most = omega (arith, few, length-append gone (id ∷ []));
      named = All-push (λ k. has_id (take (place + 1) live) k ≡ true) gone id
          (All-weaker (λ k. has_id (take place live) k ≡ true) (λ k. has_id (take (place + 1) live) k ≡ true) still gone part.chosen.named)
          (list_any_more (λ j. j == id) live place id inside ∙ ap (λ b. has_id (take place live) id || b) (eq-eqb (get_or live place id) id is) ∙ or-true (has_id (take place live) id));
      fewer =
          let step = length-filter_more (λ k. not (has_id (gone ++ id ∷ []) k)) live place id inside in
          let here : not (has_id (gone ++ id ∷ []) (get_or live place id)) ≡ false =
          ap (λ k. not (has_id (gone ++ id ∷ []) k)) is ∙ ap not (has_id-push gone id id ∙ ap (λ b. has_id gone id || b) (eq-eqb id id refl) ∙ or-true (has_id gone id)) in
          let same : length (filter (λ k. not (has_id (gone ++ id ∷ []) k)) (take place live)) ≡ length (filter (λ k. not (has_id gone k)) (take place live)) =
          ap (λ (ls : List ℕ). length ls) (filter_alike (λ k. not (has_id (gone ++ id ∷ []) k)) (λ k. not (has_id gone k)) (take place live) alike) in
          omega (arith, step, ap {B = ℕ} (λ b. cond b 1 0) here, same, part.chosen.fewer, long, long_next, length-append gone (id ∷ []));
      spared = All-push (λ k. has_id needed k ≡ false) gone id part.chosen.spared spare;
    };
    below = λ j from less. All-push (λ k. k < get_or live j 0) gone id (part.below j (omega (arith, from)) less) (omega (arith, id_is, rise place j 0 (omega (arith, from)) less));
  }

-- each that was seen is gone or needed
abbrev pub AreGone : List ℕ → List ℕ → List ℕ → Type 0
AreGone seen gone needed = All (λ k. (has_id gone k ≡ true) ⊎ (has_id needed k ≡ true)) seen

pub part_at_first : (live needed : List ℕ) → IsPart live needed [] 0
part_at_first live needed = record {
  within = omega arith;
  chosen = record {
    rise = λ i j d less within. absurd (omega (arith, within));
    most = omega arith;
    named = All-nil (λ k. has_id (take 0 live) k ≡ true);
    fewer = refl;
    spared = All-nil (λ k. has_id needed k ≡ false);
  };
  below = λ j from less. All-nil (λ k. k < get_or live j 0);
}

pub part_next : (live needed gone : List ℕ) (place : ℕ) → Rises live → IsPart live needed gone place → place < length live → (goes : Bool) → (goes ≡ true → (length gone < MOST_DELETED) × (has_id needed (get_or live place 0) ≡ false))
    → IsPart live needed (gone ++ cond goes (get_or live place 0 ∷ []) []) (place + 1)
part_next live needed gone place rise part inside true fine = part_goes live needed gone place rise part inside (get_or live place 0) refl (fine refl).0 (fine refl).1
part_next live needed gone place rise part inside false fine = subst (λ (ls : List ℕ). IsPart live needed ls (place + 1)) (sym (append-nil gone)) (part_stays live needed gone place rise part inside (get_or live place 0) refl)

gone_still : (gone : List ℕ) (x k : ℕ) → has_id gone k ≡ true → has_id (gone ++ x ∷ []) k ≡ true
gone_still gone x k h = has_id-push gone x k ∙ rw h refl

pub gone_next : (live needed gone : List ℕ) (place : ℕ) → place < length live → (goes : Bool) → AreGone (take place live) gone needed → (goes ≡ false → has_id needed (get_or live place 0) ≡ true)
    → AreGone (take (place + 1) live) (gone ++ cond goes (get_or live place 0 ∷ []) []) needed
gone_next live needed gone place inside true are spare =
    let x = get_or live place 0 in
    subst (λ (ls : List ℕ). AreGone ls (gone ++ x ∷ []) needed) (sym (take_more live place 0 inside))
    (All-push (λ k. (has_id (gone ++ x ∷ []) k ≡ true) ⊎ (has_id needed k ≡ true)) (take place live) x
    (All-weaker (λ k. (has_id gone k ≡ true) ⊎ (has_id needed k ≡ true)) (λ k. (has_id (gone ++ x ∷ []) k ≡ true) ⊎ (has_id needed k ≡ true))
    (λ k either. ⊎_elim (λ was. inl (gone_still gone x k was)) (λ need. inr need) either) (take place live) are)
    (inl (has_id-push gone x x ∙ ap (λ b. has_id gone x || b) (eq-eqb x x refl) ∙ or-true (has_id gone x))))
gone_next live needed gone place inside false are spare =
    let x = get_or live place 0 in
    subst (λ (ls : List ℕ). AreGone (take (place + 1) live) ls needed) (sym (append-nil gone))
    (subst (λ (ls : List ℕ). AreGone ls gone needed) (sym (take_more live place 0 inside))
    (All-push (λ k. (has_id gone k ≡ true) ⊎ (has_id needed k ≡ true)) (take place live) x are (inr (spare refl))))

pub part_at_end : (live needed gone : List ℕ) (place : ℕ) → IsPart live needed gone place → length live ≤ place → IsChosen live needed gone
part_at_end live needed gone place part end = subst (λ (ls : List ℕ). IsChosen ls needed gone) (take_all place live end) part.chosen

-- what is spared of a copy is spared
pub chosen_of : (live needed copy gone : List ℕ) → ((k : ℕ) → has_id copy k ≡ has_id needed k) → IsChosen live copy gone → IsChosen live needed gone
chosen_of live needed copy gone same chosen = record {
  rise = chosen.rise;
  most = chosen.most;
  named = chosen.named;
  fewer = chosen.fewer;
  spared = λ i d within. sym (same (get_or gone i d)) ∙ chosen.spared i d within;
}

-- ---- whether an id is among ids that do not fall

module _ (ids : List ℕ) (id above : ℕ) (ordered : IsNonDecreasingBy (λ k. k) ids) (bound : above ≤ length ids) (low : AllWithin (λ k. k ≤ id) ids 0 above) (high : AllWithin (λ k. id < k) ids above (length ids)) where
  pub among_last : 0 < above → (get_or ids (above - 1) 0 == id) ≡ has_id ids id
  among_last some = elim (cases_Bool (get_or ids (above - 1) 0 == id)) [
    | inl same ↦ same ∙ sym (list_any_at (λ j. j == id) ids (above - 1) 0 (omega (arith, some, bound)) same)
    | inr other ↦ other ∙ sym (list_any_none (λ j. j == id) ids (λ i d within. ne_eqb (get_or ids i d) id (λ e. ⊎_elim
        (λ less.
        let up : get_or ids i d ≤ get_or ids (above - 1) d = ordered i (above - 1) d (omega (arith, less)) (omega (arith, some, bound)) in
        let top : get_or ids (above - 1) d ≤ id = low (above - 1) d (omega arith) (omega (arith, some)) in
        let last : get_or ids (above - 1) d ≡ get_or ids (above - 1) 0 = get_or_default ids (above - 1) d 0 (omega (arith, some, bound)) in
        eqb-false (get_or ids (above - 1) 0) id other (omega (arith, up, top, last, e)))
        (λ more. absurd (omega (arith, e, high i d more within)))
        (cases_lt i above))))
  ]

  pub among_none : above ≡ 0 → has_id ids id ≡ false
  among_none none = list_any_none (λ j. j == id) ids (λ i d within. ne_eqb (get_or ids i d) id (λ e. absurd (omega (arith, e, high i d (omega (arith, none)) within))))
