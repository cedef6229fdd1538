-- Names in order: that they are the names given, strictly sorted, and that no other list is.
use Rattle.std.proofs.Common.{◌≡◌, List, [], ◌∷◌, fold, Bool, true, false, true≢false, ◌||◌, Ordering, Less, Equal, Greater, is_eq, ap, ap₂, refl, sym, subst, ◌∙◌, All, Contains}
use Rattle.std.proofs.lemmas.Bool.{both_ways}
use Rattle.std.proofs.lemmas.Cmp.{nat_list_cmp_total, nat_list_eq_equiv}
use Rattle.std.proofs.lemmas.List.Elements.{All-from_recursion, recursion_from_All, All-nil, All-head, All-tail}
use Rattle.std.proofs.lemmas.Map.Text.{is_eq-slice_cmp}
use Rattle.std.proofs.lemmas.Map.Views.{All-insert_key, Contains-from_any, list_any-from_Contains}
use Rattle.std.proofs.lemmas.Slice.Eq.{bytes_eq-Decides}
use Rattle.std.specs.BTreeSet.{insert_key}
use Rattle.std.specs.FinSet.{slice_cmp-IsAntisymmetric, nat_cmp-IsAntisymmetric}
use Rattle.std.specs.List.{AllByRecursion}
use Rattle.std.specs.List.Sorted.{IsStrictlySortedBy}
use Rattle.std.specs.Ordering.{match_ordering, ordering_reverse}
use Rattle.std.specs.Str.{bytes_eq}
use Rattle.std.proofs.Math.Bool.{or-false}
use Rattle.std.specs.Cmp.{both_ways as same_answer}
use Rattle.fbas_model.specs.Names.{Name, name_cmp, AreNamesOf, is_among}
use Rattle.node_json.specs.NamesInOrder.{in_order}

-- ---- which names they are

twice : (a r : Bool) → (a || r) ≡ (a || (a || r))
twice true r = refl
twice false r = refl

swapped : (a b r : Bool) → (a || (b || r)) ≡ (b || (a || r))
swapped true true r = refl
swapped true false r = refl
swapped false b r = refl

moved : (a b r : Bool) → ((a || b) || r) ≡ (b || (a || r))
moved true true r = refl
moved true false r = refl
moved false b r = refl

pub equal_names : (x y : Name) → name_cmp x y ≡ Equal → x ≡ y
equal_names x y e = slice_cmp-IsAntisymmetric nat_cmp-IsAntisymmetric x y e

pub is_among-insert_key : (k x : Name) (ks : List Name) → is_among k (insert_key name_cmp ks x) ≡ (bytes_eq k x || is_among k ks)
is_among-insert_key k x [] = refl
is_among-insert_key k x (y ∷ ys) = by_order (name_cmp x y) refl (is_among-insert_key k x ys)
  where
    by_order : (o : Ordering) → name_cmp x y ≡ o → is_among k (insert_key name_cmp ys x) ≡ (bytes_eq k x || is_among k ys)
        → is_among k (match_ordering o (x ∷ y ∷ ys) (y ∷ ys) (y ∷ insert_key name_cmp ys x)) ≡ (bytes_eq k x || (bytes_eq k y || is_among k ys))
    by_order Less e later = refl
    by_order Equal e later = twice (bytes_eq k y) (is_among k ys) ∙ ap (λ n. bytes_eq k n || (bytes_eq k y || is_among k ys)) (sym (equal_names x y e))
    by_order Greater e later = ap (λ b. bytes_eq k y || b) later ∙ swapped (bytes_eq k y) (bytes_eq k x) (is_among k ys)

is_among-fold : (k : Name) (before ks : List Name) → is_among k (fold (insert_key name_cmp) before ks) ≡ (is_among k before || is_among k ks)
is_among-fold k before [] = sym (or-false (is_among k before))
is_among-fold k before (x ∷ xs) =
    is_among-fold k (insert_key name_cmp before x) xs ∙ ap (λ b. b || is_among k xs) (is_among-insert_key k x before) ∙ moved (bytes_eq k x) (is_among k before) (is_among k xs)

-- a name is among the names in order where it is among those given
pub is_among-in_order : (k : Name) (ks : List Name) → is_among k (in_order ks) ≡ is_among k ks
is_among-in_order k ks = is_among-fold k [] ks

-- what each of the names is, each of them in order is
All-fold : (P : Name → Type 0) (before ks : List Name) → All P before → All P ks → All P (fold (insert_key name_cmp) before ks)
All-fold P before [] all more = all
All-fold P before (x ∷ xs) all more = All-fold P (insert_key name_cmp before x) xs (All-insert_key name_cmp x P before all (All-head P x xs more)) (All-tail P x xs more)

pub All-in_order : (P : Name → Type 0) (ks : List Name) → All P ks → All P (in_order ks)
All-in_order P ks all = All-fold P [] ks (All-nil P) all

-- ---- that they are sorted

above : (x : Name) (ys : List Name) → AllByRecursion (λ z. name_cmp x z ≡ Less) ys → (w : Name) → name_cmp w x ≡ Less → AllByRecursion (λ z. name_cmp w z ≡ Less) ys
above x [] h w less = tt
above x (y ∷ ys) h w less = (nat_list_cmp_total.trans w x y less h.0, above x ys h.1 w less)

pub insert_key-sorted : (x : Name) (ks : List Name) → IsStrictlySortedBy name_cmp ks → IsStrictlySortedBy name_cmp (insert_key name_cmp ks x)
unfolding IsStrictlySortedBy
insert_key-sorted x [] h = (tt, tt)
insert_key-sorted x (y ∷ ys) h =
    elim (name_cmp x y) as (λ o. name_cmp x y ≡ o → IsStrictlySortedBy name_cmp (match_ordering o (x ∷ y ∷ ys) (y ∷ ys) (y ∷ insert_key name_cmp ys x))) [
      | Less ↦ λ e. ((e, above y ys h.0 x e), h)
      | Equal ↦ λ e. h
      | Greater ↦ λ e.
          let after : name_cmp y x ≡ Less = nat_list_cmp_total.antisymm y x ∙ ap ordering_reverse e in
          (recursion_from_All (λ z. name_cmp y z ≡ Less) (insert_key name_cmp ys x) (All-insert_key name_cmp x (λ z. name_cmp y z ≡ Less) ys (All-from_recursion (λ z. name_cmp y z ≡ Less) ys h.0) after), insert_key-sorted x ys h.1)
    ] refl

fold-sorted : (before ks : List Name) → IsStrictlySortedBy name_cmp before → IsStrictlySortedBy name_cmp (fold (insert_key name_cmp) before ks)
fold-sorted before [] h = h
fold-sorted before (x ∷ xs) h = fold-sorted (insert_key name_cmp before x) xs (insert_key-sorted x before h)

pub in_order-sorted : (ks : List Name) → IsStrictlySortedBy name_cmp (in_order ks)
unfolding IsStrictlySortedBy
in_order-sorted ks = fold-sorted [] ks tt

-- ---- that no other list is

itself : (x : Name) → bytes_eq x x ≡ true
itself x = (bytes_eq-Decides x x).1 refl

pub apart : (x y : Name) → name_cmp x y ≡ Less → bytes_eq x y ≡ false
apart x y less = sym (is_eq-slice_cmp x y) ∙ ap is_eq less

-- a name below each of the names is not among them
not_among : (x : Name) (ys : List Name) → AllByRecursion (λ z. name_cmp x z ≡ Less) ys → is_among x ys ≡ false
not_among x [] h = refl
not_among x (y ∷ ys) h = rw (apart x y h.0, not_among x ys h.1) refl

first_among : (x : Name) (xs : List Name) → is_among x (x ∷ xs) ≡ true
first_among x xs = ap (λ b. b || is_among x xs) (itself x)

-- a sorted list whose first name is greater has not the lesser one
pub missed : (x y : Name) (ys : List Name) → name_cmp x y ≡ Less → IsStrictlySortedBy name_cmp (y ∷ ys) → is_among x (y ∷ ys) ≡ false
unfolding IsStrictlySortedBy
missed x y ys less h = not_among x (y ∷ ys) (less, above y ys h.0 x less)

-- what is left when both lists begin with one name
rest_among : (x : Name) (xs ys : List Name) → AllByRecursion (λ z. name_cmp x z ≡ Less) xs → AllByRecursion (λ z. name_cmp x z ≡ Less) ys
    → ((k : Name) → is_among k (x ∷ xs) ≡ is_among k (x ∷ ys)) → (k : Name) → is_among k xs ≡ is_among k ys
rest_among x xs ys hx hy same k =
    elim (bytes_eq k x) as (λ b. bytes_eq k x ≡ b → (b || is_among k xs) ≡ (b || is_among k ys) → is_among k xs ≡ is_among k ys) [
      | true ↦ λ e _.
          let here : k ≡ x = (bytes_eq-Decides k x).0 e in
          rw here (not_among x xs hx ∙ sym (not_among x ys hy))
      | false ↦ λ e f. f
    ] refl (same k)

pub same_names : (xs ys : List Name) → IsStrictlySortedBy name_cmp xs → IsStrictlySortedBy name_cmp ys → ((k : Name) → is_among k xs ≡ is_among k ys) → xs ≡ ys
unfolding IsStrictlySortedBy
same_names [] [] hx hy same = refl
same_names [] (y ∷ ys) hx hy same = absurd (both_ways false refl (same y ∙ first_among y ys))
same_names (x ∷ xs) [] hx hy same = absurd (both_ways false refl (sym (same x) ∙ first_among x xs))
same_names (x ∷ xs) (y ∷ ys) hx hy same =
    elim (name_cmp x y) as (λ o. name_cmp x y ≡ o → x ∷ xs ≡ y ∷ ys) [
      | Less ↦ λ e. absurd (true≢false (sym (first_among x xs) ∙ same x ∙ missed x y ys e hy))
      | Equal ↦ λ e.
          let here : x ≡ y = equal_names x y e in
          let of_ys = subst (λ n. AllByRecursion (λ z. name_cmp n z ≡ Less) ys) (sym here) hy.0 in
          let all : (k : Name) → is_among k (x ∷ xs) ≡ is_among k (x ∷ ys) = λ k. same k ∙ ap (λ n. is_among k (n ∷ ys)) (sym here) in
          let tails = same_names xs ys hx.1 hy.1 (rest_among x xs ys hx.0 of_ys all) in
          ap₂ (λ n ns. n ∷ ns) here tails
      | Greater ↦ λ e.
          let below : name_cmp y x ≡ Less = nat_list_cmp_total.antisymm y x ∙ ap ordering_reverse e in
          absurd (true≢false (sym (first_among y ys) ∙ sym (same y) ∙ missed y x xs below hx))
    ] refl

-- ---- the names of a list

same_among : (xs ys : List Name) (k : Name) → (Contains xs k → Contains ys k) → is_among k xs ≡ true → is_among k ys ≡ true
same_among xs ys k h e = list_any-from_Contains nat_list_eq_equiv k ys (h (Contains-from_any (λ x y t. (bytes_eq-Decides x y).0 t) k xs e))

-- the distinct names of a list are its names in order
pub names_in_order : (given names : List Name) → AreNamesOf given names → names ≡ in_order given
names_in_order given names are =
    same_names names (in_order given) are.sorted (in_order-sorted given) (λ k.
    same_answer (is_among k names) (is_among k given) (same_among names given k (are.same k).0) (same_among given names k (are.same k).1) ∙ sym (is_among-in_order k given))

-- putting them in order again changes nothing
pub in_order-in_order : (ks : List Name) → in_order (in_order ks) ≡ in_order ks
in_order-in_order ks = same_names (in_order (in_order ks)) (in_order ks) (in_order-sorted (in_order ks)) (in_order-sorted ks) (λ k. is_among-in_order k (in_order ks))

-- the names in order are the distinct names of the list
pub in_order-names : (given : List Name) → AreNamesOf given (in_order given)
in_order-names given = record {
  sorted = in_order-sorted given;
  same = λ k. (
    λ h. Contains-from_any (λ x y t. (bytes_eq-Decides x y).0 t) k given (sym (is_among-in_order k given) ∙ list_any-from_Contains nat_list_eq_equiv k (in_order given) h),
    λ h. Contains-from_any (λ x y t. (bytes_eq-Decides x y).0 t) k (in_order given) (is_among-in_order k given ∙ list_any-from_Contains nat_list_eq_equiv k given h),
  );
}
