-- A name that is among names in order changes nothing when it is put in again; and what slots keep.
use Rattle.std.proofs.Common.{◌≡◌, ℕ, List, [], ◌∷◌, true, false, ◌||◌, Less, Equal, Greater, Option, Some, None, length, All, IsTrue, IfSome, refl, sym, ap, ◌∙◌, subst, slice_set, slice_index_or, replicate, ◌<◌}
use Rattle.std.proofs.lemmas.Bool.{both_ways}
use Rattle.std.proofs.lemmas.Cmp.{nat_list_cmp_total}
use Rattle.std.proofs.lemmas.List.{length-set, length-replicate}
use Rattle.std.proofs.lemmas.List.Elements.{All-set, All-weaker, All-get_or, All-replicate}
use Rattle.std.proofs.lemmas.Slice.Eq.{bytes_eq-Decides}
use Rattle.std.specs.BTreeSet.{insert_key}
use Rattle.std.specs.List.Sorted.{IsStrictlySortedBy}
use Rattle.std.specs.Ordering.{match_ordering, ordering_reverse}
use Rattle.std.specs.Str.{bytes_eq}
use Rattle.std.proofs.Math.Bool.{or-true}
use denote.Ref.{Bor}
use Rattle.fbas_model.specs.Names.{Name, name_cmp, is_among}
use Rattle.node_json.specs.SeenNames.{AreSeen}
use Rattle.node_json.proofs.NamesInOrder.{is_among-insert_key, insert_key-sorted, missed, apart}

-- a name that is among names in order is not put in a second time
pub seen_before : (k : Name) (ks : List Name) → IsStrictlySortedBy name_cmp ks → is_among k ks ≡ true → insert_key name_cmp ks k ≡ ks
unfolding IsStrictlySortedBy
seen_before k [] h e = absurd (both_ways false refl e)
seen_before k (x ∷ xs) h e =
    elim (name_cmp k x) as (λ o. name_cmp k x ≡ o → match_ordering o (k ∷ x ∷ xs) (x ∷ xs) (x ∷ insert_key name_cmp xs k) ≡ x ∷ xs) [
      | Less ↦ λ less. absurd (both_ways (is_among k (x ∷ xs)) (missed k x xs less h) e)
      | Equal ↦ λ _. refl
      | Greater ↦ λ more.
          let below : name_cmp x k ≡ Less = nat_list_cmp_total.antisymm x k ∙ ap ordering_reverse more in
          let other : bytes_eq k x ≡ false = not_equal k x below in
          ap (λ ns. x ∷ ns) (seen_before k xs h.1 (ap (λ b. b || is_among k xs) (sym other) ∙ e))
    ] refl
  where
    not_equal : (k x : Name) → name_cmp x k ≡ Less → bytes_eq k x ≡ false
    not_equal k x less = elim (bytes_eq k x) as (λ b. bytes_eq k x ≡ b → b ≡ false) [
      | true ↦ λ same. absurd (both_ways (bytes_eq x k) (apart x k less) ((bytes_eq-Decides x k).1 (sym ((bytes_eq-Decides k x).0 same))))
      | false ↦ λ _. refl
    ] refl

among_more : (k x : Name) (ks : List Name) → IsTrue (is_among k ks) → IsTrue (is_among k (insert_key name_cmp ks x))
among_more k x ks h = is_among-insert_key k x ks ∙ ap (λ b. bytes_eq k x || b) h ∙ or-true (bytes_eq k x)

among_now : (x : Name) (ks : List Name) → IsTrue (is_among x (insert_key name_cmp ks x))
among_now x ks = is_among-insert_key x x ks ∙ ap (λ b. b || is_among x ks) ((bytes_eq-Decides x x).1 refl)

-- one more name, which is put into a slot
pub seen_more : (names : List Name) (slots : List (Option (Bor (List ℕ)))) (slot : ℕ) (name : Bor (List ℕ)) → AreSeen names slots
    → AreSeen (insert_key name_cmp names name.now) (slice_set slots slot (Some name))
seen_more names slots slot name seen = record {
  sorted = insert_key-sorted name.now names seen.sorted;
  some = rw (length-set slots slot (Some name)) seen.some;
  among = All-set (λ s. IfSome s (λ n. IsTrue (is_among n.now (insert_key name_cmp names name.now)))) slots slot (Some name) (among_now name.now names)
      (All-weaker (λ s. IfSome s (λ n. IsTrue (is_among n.now names))) (λ s. IfSome s (λ n. IsTrue (is_among n.now (insert_key name_cmp names name.now)))) still slots seen.among);
}
  where
    still : (s : Option (Bor (List ℕ))) → IfSome s (λ n. IsTrue (is_among n.now names)) → IfSome s (λ n. IsTrue (is_among n.now (insert_key name_cmp names name.now)))
    still None h = tt
    still (Some n) h = among_more n.now name.now names h

-- a name that stands in its slot is not put in again
pub seen_here : (names : List Name) (slots : List (Option (Bor (List ℕ)))) (slot : ℕ) (stands : Option (Bor (List ℕ))) (seen : Bor (List ℕ)) (name : Name) → AreSeen names slots
    → slot < length slots → stands ≡ slice_index_or slots slot stands → stands ≡ Some seen → bytes_eq seen.now name ≡ true → names ≡ insert_key name_cmp names name
seen_here names slots slot stands seen name are within there here same =
    let known : IfSome (slice_index_or slots slot stands) (λ n. IsTrue (is_among n.now names)) = All-get_or (λ s. IfSome s (λ n. IsTrue (is_among n.now names))) slots slot stands within are.among in
    let is : IsTrue (is_among seen.now names) = subst (λ (s : Option (Bor (List ℕ))). IfSome s (λ n. IsTrue (is_among n.now names))) (sym there ∙ here) known in
    let e : seen.now ≡ name = (bytes_eq-Decides seen.now name).0 same in
    sym (seen_before name names are.sorted (subst (λ (n : Name). is_among n names ≡ true) e is))

-- what is like none is none
pub none_only : {X : Type 0} (R : Option X → Type 0) → ((x : X) → R (Some x) → ⊥) → (o : Option X) → R o → o ≡ None
none_only R never None h = refl
none_only R never (Some x) h = absurd (never x h)

-- slots without a name
pub none_seen : (n : ℕ) → 0 < n → AreSeen [] (replicate n None)
unfolding IsStrictlySortedBy
none_seen n above = record { sorted = tt; some = rw (length-replicate {A = Option (Bor (List ℕ))} n None) above; among = all_none n }
  where
    all_none : (k : ℕ) → All (λ (s : Option (Bor (List ℕ))). IfSome s (λ n. IsTrue (is_among n.now []))) (replicate k None)
    all_none k = All-replicate (λ (s : Option (Bor (List ℕ))). IfSome s (λ n. IsTrue (is_among n.now []))) k None tt
