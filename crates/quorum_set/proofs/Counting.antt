-- What the loops over the two lists of a quorum set count.
use Rattle.std.proofs.Common.{◌≡◌, ℕ, ◌+◌, ◌≤◌, ◌<◌, ◌↔◌, Bool, true, false, IsTrue, cond, inl, inr, refl, sym, ◌∙◌, ap, arith, leb, length, take, take_all, add-zero}
use Rattle.std.proofs.lemmas.Bool.{cases_Bool, and_parts, and_from, leb-true, le-leb}
use mir.Val.{bool_byte}
use Rattle.fbas_model.specs.Nodes.{Nodes}
use Rattle.fbas_model.specs.Trees.{QuorumSet, quorum_set}
use Rattle.fbas_model.specs.QuorumSets.{HasChoiceWithin}
use Rattle.fbas_model.specs.Counting.{is_satisfied, count_met}
use Rattle.fbas_model.proofs.Counting.{choice_satisfied, satisfied_choice, is_satisfied-is}
use Rattle.std.specs.Prelude.{List, [], ◌∷◌, count_by, slice_index_or}
use Rattle.std.proofs.lemmas.List.Sums.{count_by_more_yes, count_by_more_no, sum_by-cons}
use Rattle.fbas_model.specs.Lists.{inner_entries, entries_of}

count_met-inner_entries : (u : Nodes) (qs : List QuorumSet) → count_met u (inner_entries qs) ≡ count_by (is_satisfied u) qs
count_met-inner_entries u [] = refl
count_met-inner_entries u (q ∷ qs) = ap (λ n. cond (is_satisfied u q) 1 0 + n) (count_met-inner_entries u qs) ∙ sym (sum_by-cons (λ q. cond (is_satisfied u q) 1 0) q qs)

-- the entries that are count_met are the nodes in u and the inner quorum sets that hold
count_met-entries_of : (u : Nodes) (ws : List ℕ) (qs : List QuorumSet) → count_met u (entries_of ws qs) ≡ count_by u ws + count_by (is_satisfied u) qs
count_met-entries_of u [] qs = omega (arith, count_met-inner_entries u qs)
count_met-entries_of u (w ∷ ws) qs = omega (arith, count_met-entries_of u ws qs, sum_by-cons (λ w. cond (u w) 1 0) w ws)

-- the code's test, after the walk over all the inner sets
pub answer_iff : (u : Nodes) (t : ℕ) (ws : List ℕ) (qs : List QuorumSet) (set : QuorumSet) → quorum_set t (entries_of ws qs) ≡ set → (inners : List QuorumSet) (i n : ℕ) → inners ≡ qs → length inners ≤ i → 1 ≤ t → n ≡ count_by u ws + count_by (is_satisfied u) (take i inners) → IsTrue (leb t n) ↔ HasChoiceWithin set u
answer_iff u t ws qs set is inners i n same past low counted =
    let entries = entries_of ws qs in
    let e : n ≡ count_by u ws + count_by (is_satisfied u) qs = rw (← take_all i inners past ∙ same) counted in
    rw (← is) (
      λ b. let k = leb-true t n b in satisfied_choice u (quorum_set t entries) (and_from (leb 1 t) (leb t (count_met u entries)) (le-leb 1 t low) (le-leb t (count_met u entries) (omega (arith, count_met-entries_of u ws qs)))),
      λ c. let k = leb-true t (count_met u entries) (and_parts (leb 1 t) (leb t (count_met u entries)) (choice_satisfied u c.1 c.2)).1 in le-leb t n (omega (arith, count_met-entries_of u ws qs)),
    )

-- one more of the list counted
pub count_step : {X : Type 0} (p : X → Bool) (qs : List X) (i : ℕ) (q : X) (b : Bool) → i < length qs → q ≡ slice_index_or qs i q → b ≡ p q → count_by p (take (i + 1) qs) ≡ count_by p (take i qs) + cond b 1 0
count_step p qs i q b h e f = elim (cases_Bool b) [
  | inl met ↦ rw met (count_by_more_yes p qs i q h (rw (← e) (sym f ∙ met)))
  | inr unmet ↦ rw unmet (count_by_more_no p qs i q h (rw (← e) (sym f ∙ unmet)) ∙ sym (add-zero (count_by p (take i qs))))
]

byte_is : (b : Bool) → cond b 1 0 ≡ bool_byte b
byte_is true = refl
byte_is false = refl

-- one more inner quorum set, counted if it holds
pub count_more : (u : Nodes) (qs : List QuorumSet) (i : ℕ) (q : QuorumSet) (b : Bool) → i < length qs → q ≡ slice_index_or qs i q → IsTrue b ↔ HasChoiceWithin q u → count_by (is_satisfied u) (take (i + 1) qs) ≡ count_by (is_satisfied u) (take i qs) + bool_byte b
count_more u qs i q b h e iff = count_step (is_satisfied u) qs i q b h e (is_satisfied-is u q b iff) ∙ ap (λ n. count_by (is_satisfied u) (take i qs) + n) (byte_is b)
