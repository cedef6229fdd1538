-- Ordered sets are those of the list, each once and in order, and no other list of them is.
use Rattle.std.proofs.Common.{◌≡◌, ℕ, List, [], ◌∷◌, length, refl, sym, ap, ◌∙◌, subst, Less, Equal, Greater, Contains, ⊎_elim, ◌⊎◌, inl, inr}
use Rattle.std.specs.Prelude.{◌↔◌}
use Rattle.std.specs.List.{AllByRecursion}
use Rattle.std.specs.List.Sorted.{IsStrictlySortedBy}
use Rattle.std.specs.Ordering.{ordering_reverse}
use Rattle.std.specs.declared.cmp.Ordering.{Ordering}
use Rattle.fbas_model.specs.Nodes.{Table, set_cmp}
use Rattle.enumeration_journal.specs.Order.{by_order, with_set, ordered}
use Rattle.enumeration_journal.proofs.Elements.{nothing_in, first_in, later_in, cons_cases}
use Rattle.enumeration_journal.proofs.NameOrder.{set_cmp_total, same_when_equal}

-- ---- one order

reverse_of : (s t : Table) (o : Ordering) → set_cmp s t ≡ o → set_cmp t s ≡ ordering_reverse o
reverse_of s t o e = set_cmp_total.antisymm t s ∙ ap ordering_reverse e

never_both : (s t : Table) → set_cmp s t ≡ Less → set_cmp t s ≡ Less → ⊥
never_both s t one two = let other : set_cmp t s ≡ Greater = reverse_of s t Less one in cc

below_all : (s : Table) (ts : List Table) → AllByRecursion (λ t. set_cmp s t ≡ Less) ts → (x : Table) → Contains ts x → set_cmp s x ≡ Less
below_all s [] h x c = absurd (nothing_in x c)
below_all s (t ∷ ts) h x c = ⊎_elim (λ is. subst (λ (y : Table). set_cmp s y ≡ Less) is h.0) (λ there. below_all s ts h.1 x there) (cons_cases t ts x c)

-- where x is first in the one, it is first in the other
same_first : (x y : Table) (xs ys : List Table) → AllByRecursion (λ t. set_cmp x t ≡ Less) xs → AllByRecursion (λ t. set_cmp y t ≡ Less) ys → Contains (y ∷ ys) x → Contains (x ∷ xs) y → x ≡ y
same_first x y xs ys under over there back = ⊎_elim
    (λ is. sym is)
    (λ behind. ⊎_elim (λ is. is) (λ after. absurd (never_both x y (below_all x xs under y after) (below_all y ys over x behind))) (cons_cases x xs y back))
    (cons_cases y ys x there)

-- a later one of the one is a later one of the other
still_later : (x y : Table) (xs ys : List Table) → x ≡ y → AllByRecursion (λ t. set_cmp x t ≡ Less) xs → (s : Table) → Contains xs s → Contains (y ∷ ys) s → Contains ys s
still_later x y xs ys same under s there found = ⊎_elim
    (λ is. let less : set_cmp x s ≡ Less = below_all x xs under s there in
    let again : set_cmp s s ≡ Less = subst (λ (t : Table). set_cmp t s ≡ Less) (same ∙ is) less in absurd (never_both s s again again))
    (λ behind. behind)
    (cons_cases y ys s found)

-- two lists in order with the same sets are one
pub same_lists : (xs ys : List Table) → IsStrictlySortedBy set_cmp xs → IsStrictlySortedBy set_cmp ys → ((s : Table) → Contains xs s ↔ Contains ys s) → xs ≡ ys
unfolding IsStrictlySortedBy
same_lists [] [] up down same = refl
same_lists [] (y ∷ ys) up down same = absurd (nothing_in y ((same y).1 (first_in y ys)))
same_lists (x ∷ xs) [] up down same = absurd (nothing_in x ((same x).0 (first_in x xs)))
same_lists (x ∷ xs) (y ∷ ys) up down same =
    let first : x ≡ y = same_first x y xs ys up.0 down.0 ((same x).0 (first_in x xs)) ((same y).1 (first_in y ys)) in
    let rest : xs ≡ ys = same_lists xs ys up.1 down.1 (λ s. (
      λ there. still_later x y xs ys first up.0 s there ((same s).0 (later_in x xs s there)),
      λ there. still_later y x ys xs (sym first) down.0 s there ((same s).1 (later_in y ys s there)),
    )) in
    ap (λ (s : Table). s ∷ xs) first ∙ ap (λ (ss : List Table). y ∷ ss) rest

-- ---- the definition

all_with : (P : Table → Type 0) (s : Table) (ts : List Table) → P s → AllByRecursion P ts → AllByRecursion P (with_set s ts)
all_with P s [] one all = (one, tt)
all_with P s (t ∷ ts) one all = elim (set_cmp s t) as (λ o. AllByRecursion P (by_order o (s ∷ t ∷ ts) (t ∷ ts) (t ∷ with_set s ts))) [
  | Less ↦ (one, all)
  | Equal ↦ all
  | Greater ↦ (all.0, all_with P s ts one all.1)
]

all_beyond : (s t : Table) (ts : List Table) → set_cmp s t ≡ Less → AllByRecursion (λ y. set_cmp t y ≡ Less) ts → AllByRecursion (λ y. set_cmp s y ≡ Less) ts
all_beyond s t [] less all = tt
all_beyond s t (y ∷ ts) less all = (set_cmp_total.trans s t y less all.0, all_beyond s t ts less all.1)

with_rising : (s : Table) (ts : List Table) → IsStrictlySortedBy set_cmp ts → IsStrictlySortedBy set_cmp (with_set s ts)
unfolding IsStrictlySortedBy
with_rising s [] up = (tt, tt)
with_rising s (t ∷ ts) up = elim (set_cmp s t) as (λ o. set_cmp s t ≡ o → IsStrictlySortedBy set_cmp (by_order o (s ∷ t ∷ ts) (t ∷ ts) (t ∷ with_set s ts))) [
  | Less ↦ λ less. ((less, all_beyond s t ts less up.0), up)
  | Equal ↦ λ _. up
  | Greater ↦ λ more. (all_with (λ y. set_cmp t y ≡ Less) s ts (reverse_of s t Greater more) up.0, with_rising s ts up.1)
] refl

pub ordered_rising : (ss : List Table) → IsStrictlySortedBy set_cmp (ordered ss)
unfolding IsStrictlySortedBy
ordered_rising [] = tt
ordered_rising (s ∷ ss) = with_rising s (ordered ss) (ordered_rising ss)

-- each set of a list has n places
abbrev pub HavePlaces : ℕ → List Table → Type 0
HavePlaces n ss = (x : Table) → Contains ss x → length x ≡ n

with_only : (s : Table) (ts : List Table) (x : Table) → Contains (with_set s ts) x → (s ≡ x) ⊎ Contains ts x
with_only s [] x c = cons_cases s [] x c
with_only s (t ∷ ts) x c = elim (set_cmp s t) as (λ o. Contains (by_order o (s ∷ t ∷ ts) (t ∷ ts) (t ∷ with_set s ts)) x → (s ≡ x) ⊎ Contains (t ∷ ts) x) [
  | Less ↦ λ there. cons_cases s (t ∷ ts) x there
  | Equal ↦ λ there. inr there
  | Greater ↦ λ there. ⊎_elim (λ is. inr (subst (λ (y : Table). Contains (t ∷ ts) y) is (first_in t ts))) (λ behind. ⊎_elim (λ is. inl is) (λ after. inr (later_in t ts x after)) (with_only s ts x behind)) (cons_cases t (with_set s ts) x there)
] c

with_old : (s : Table) (ts : List Table) (x : Table) → Contains ts x → Contains (with_set s ts) x
with_old s [] x c = absurd (nothing_in x c)
with_old s (t ∷ ts) x c = elim (set_cmp s t) as (λ o. Contains (by_order o (s ∷ t ∷ ts) (t ∷ ts) (t ∷ with_set s ts)) x) [
  | Less ↦ later_in s (t ∷ ts) x c
  | Equal ↦ c
  | Greater ↦ ⊎_elim (λ is. subst (λ (y : Table). Contains (t ∷ with_set s ts) y) is (first_in t (with_set s ts))) (λ behind. later_in t (with_set s ts) x (with_old s ts x behind)) (cons_cases t ts x c)
]

with_new : (n : ℕ) (s : Table) (ts : List Table) → length s ≡ n → HavePlaces n ts → Contains (with_set s ts) s
with_new n s [] size sizes = first_in s []
with_new n s (t ∷ ts) size sizes = elim (set_cmp s t) as (λ o. set_cmp s t ≡ o → Contains (by_order o (s ∷ t ∷ ts) (t ∷ ts) (t ∷ with_set s ts)) s) [
  | Less ↦ λ _. first_in s (t ∷ ts)
  | Equal ↦ λ same. subst (λ (y : Table). Contains (t ∷ ts) y) (sym (same_when_equal s t (size ∙ sym (sizes t (first_in t ts))) same)) (first_in t ts)
  | Greater ↦ λ _. later_in t (with_set s ts) s (with_new n s ts size (λ x there. sizes x (later_in t ts x there)))
] refl

ordered_only : (ss : List Table) (x : Table) → Contains (ordered ss) x → Contains ss x
ordered_only [] x c = c
ordered_only (s ∷ ss) x c = ⊎_elim (λ is. subst (λ (y : Table). Contains (s ∷ ss) y) is (first_in s ss)) (λ there. later_in s ss x (ordered_only ss x there)) (with_only s (ordered ss) x c)

pub ordered_has : (n : ℕ) (ss : List Table) → HavePlaces n ss → (x : Table) → Contains (ordered ss) x ↔ Contains ss x
ordered_has n ss sizes x = (ordered_only ss x, has ss sizes)
  where
    has : (ts : List Table) → HavePlaces n ts → Contains ts x → Contains (ordered ts) x
    has [] all c = c
    has (t ∷ ts) all c = ⊎_elim
        (λ is. subst (λ (y : Table). Contains (with_set t (ordered ts)) y) is (with_new n t (ordered ts) (all t (first_in t ts)) (λ y there. all y (later_in t ts y (ordered_only ts y there)))))
        (λ there. with_old t (ordered ts) x (has ts (λ y at. all y (later_in t ts y at)) there))
        (cons_cases t ts x c)

-- a list in order with the sets of another is that one ordered
pub is_ordered : (n : ℕ) (xs ss : List Table) → HavePlaces n ss → IsStrictlySortedBy set_cmp xs → ((s : Table) → Contains xs s ↔ Contains ss s) → xs ≡ ordered ss
is_ordered n xs ss sizes up same = same_lists xs (ordered ss) up (ordered_rising ss) (λ s.
    let has = ordered_has n ss sizes s in (λ there. has.1 ((same s).0 there), λ there. (same s).1 (has.0 there)))
