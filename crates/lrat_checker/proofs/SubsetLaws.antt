-- Where a clause stands among the lists, and which watches cannot be those of a subset.
use Rattle.std.proofs.Common.{◌≡◌, ℕ, zero, suc, ◌<◌, ◌≤◌, ◌+◌, true, false, ◌&&◌, List, [], ◌∷◌, ◌++◌, length, take, get_or, set, ⊎_elim, inl, inr, refl, sym, ap, ◌∙◌, subst, arith, cond, Option, Some, None, Result, Ok, Err, OnOk}
use Rattle.std.specs.Prelude.{◌==◌, ◌⊎◌, ◌||◌, Bool, IfSome}
use Rattle.std.specs.List.{list_any}
use Rattle.std.proofs.lemmas.Bool.{cases_eq, eq-eqb, eqb-true, ne_eqb, or_left, or_right, and_from, false≢true}
use Rattle.std.proofs.lemmas.List.{get_or-set_same, get_or-set_other, length-set}
use Rattle.std.proofs.lemmas.List.Folds.{list_any-append, list_any_at, list_any_more}
use Rattle.lrat_model.specs.Literal.{Literal, same, has, IsSubset}
use Rattle.lrat_model.specs.Clauses.{Held, clause_at, with_clause, without}
use Rattle.lrat_model.proofs.Runs.{clause_at-without}
use Rattle.lrat_model.proofs.Literals.{has-cons, same-itself, list_all-has}
use Rattle.lrat_checker.specs.declared.subsets.Watch.{Watch}
use Rattle.lrat_checker.specs.Covers.{Covers}
use Rattle.lrat_checker.specs.Keys.{code_of, slot_of, signature_of}
use Rattle.lrat_checker.specs.Subsets.{list_at, is_watch_of, IsFound, AreFound, NoneIn}

-- one watch more in the list of a code
module _ (lists : List (List Watch)) (key : ℕ) (now : Watch) (inside : slot_of (length lists) key < length lists) where
  abbrev pub pushed : List (List Watch)
  pushed = set lists (slot_of (length lists) key) (list_at lists key ++ now ∷ [])

  as_long : (k : ℕ) → list_at pushed k ≡ get_or pushed (slot_of (length lists) k) []
  as_long k = ap (λ s. get_or pushed (slot_of s k) []) (length-set lists (slot_of (length lists) key) (list_at lists key ++ now ∷ []))

  list_here : (k : ℕ) → slot_of (length lists) key ≡ slot_of (length lists) k → list_at pushed k ≡ list_at lists k ++ now ∷ []
  list_here k same =
      as_long k ∙ ap (λ s. get_or pushed s []) (sym same) ∙ get_or-set_same lists (slot_of (length lists) key) (list_at lists key ++ now ∷ []) [] inside
      ∙ ap (λ s. get_or lists s [] ++ now ∷ []) same

  pub listed_kept : (id : ℕ) (clause : List Literal) (k : ℕ) → list_any (is_watch_of id clause) (list_at lists k) ≡ true → list_any (is_watch_of id clause) (list_at pushed k) ≡ true
  listed_kept id clause k found =
      ⊎_elim
      (λ same. ap (list_any (is_watch_of id clause)) (list_here k same) ∙ list_any-append (is_watch_of id clause) (list_at lists k) (now ∷ []) ∙ or_left (list_any (is_watch_of id clause) (list_at lists k)) (list_any (is_watch_of id clause) (now ∷ [])) found)
      (λ differs. ap (list_any (is_watch_of id clause)) (as_long k ∙ get_or-set_other lists (slot_of (length lists) key) (slot_of (length lists) k) (list_at lists key ++ now ∷ []) [] (λ same. differs (sym same))) ∙ found)
      (cases_eq (slot_of (length lists) key) (slot_of (length lists) k))

  pub listed_new : (clause : List Literal) → now.signature ≡ signature_of clause → list_any (is_watch_of now.id clause) (list_at pushed key) ≡ true
  listed_new clause signed =
      ap (list_any (is_watch_of now.id clause)) (list_here key refl) ∙ list_any-append (is_watch_of now.id clause) (list_at lists key) (now ∷ [])
      ∙ or_right (list_any (is_watch_of now.id clause) (list_at lists key)) (list_any (is_watch_of now.id clause) (now ∷ []))
      (or_left (is_watch_of now.id clause now) false (and_from (now.id == now.id) (now.signature == signature_of clause) (eq-eqb now.id now.id refl) (eq-eqb now.signature (signature_of clause) signed)))

-- once one watch came, what was found is found
pub found_kept : (old new : List (List Watch)) (code : ℕ) (now : Watch) (inside : slot_of (length old) code < length old) → new ≡ pushed old code now inside → (id : ℕ) (clause : List Literal) → IsFound old id clause → IsFound new id clause
found_kept old new code now inside is id clause found =
    (found.0, found.1, ap (λ ls. list_any (is_watch_of id clause) (list_at ls found.0)) is ∙ listed_kept old code now inside id clause found.0 found.2)

-- the watch of a clause under no smaller id
pub late_watch : (id k : ℕ) (clause : List Literal) (w : Watch) → id ≤ w.id → k < id → is_watch_of k clause w ≡ false
late_watch id k clause w late early = ap (λ b. b && (w.signature == signature_of clause)) (ne_eqb w.id k (λ same. absurd (omega (arith, late, early, same))))

-- where a literal of a list stands
pub has-place : (ls : List Literal) (l : Literal) → has ls l ≡ true → (i : ℕ) × (i < length ls) × (get_or ls i l ≡ l)
has-place [] l there = absurd (false≢true there)
has-place (x ∷ xs) l there =
    ⊎_elim (λ first. (zero, omega arith, sym first))
    (λ later. (let rest : (i : ℕ) × (i < length xs) × (get_or xs i l ≡ l) = has-place xs l later in (suc rest.0, omega (arith, rest.1), rest.2)))
    (has-cons x l xs there)

pub has-at : (ls : List Literal) (i : ℕ) (d : Literal) → i < length ls → has ls (get_or ls i d) ≡ true
has-at ls i d within = list_any_at (same (get_or ls i d)) ls i d within (same-itself (get_or ls i d))

pub on_ok : {A E : Type 0} (r : Result A E) (P Q : Type 0) → OnOk r P → (P → Q) → OnOk r Q
on_ok (Ok x) P Q p f = f p
on_ok (Err e) P Q p f = tt

-- what is found among more clauses was there, or is the new one under its id
clause_at-pushed : (held : Held) (id : ℕ) (lits : List Literal) (k : ℕ) (clause : List Literal) → clause_at (with_clause held id lits) k ≡ Some clause → (clause_at held k ≡ Some clause) ⊎ ((id ≡ k) × (lits ≡ clause))
clause_at-pushed [] id lits k clause there =
    elim (id == k) as (λ b. (id == k) ≡ b → cond b (Some lits) None ≡ Some clause → (None ≡ Some clause) ⊎ ((id ≡ k) × (lits ≡ clause))) [
      | true ↦ λ same found. inr (eqb-true id k same, cc)
      | false ↦ λ _ found. cc
    ] refl there
clause_at-pushed (e ∷ held) id lits k clause there =
    elim (e.0 == k) as (λ b. cond b (Some e.1) (clause_at (with_clause held id lits) k) ≡ Some clause → (cond b (Some e.1) (clause_at held k) ≡ Some clause) ⊎ ((id ≡ k) × (lits ≡ clause))) [
      | true ↦ λ found. inl found
      | false ↦ λ found. clause_at-pushed held id lits k clause found
    ] there

-- an index of what is held has one clause more once that is put in
pub found_with : (held : Held) (old new : List (List Watch)) (id : ℕ) (lits : List Literal) → AreFound held old → IsFound new id lits → ((k : ℕ) (clause : List Literal) → IsFound old k clause → IsFound new k clause) → AreFound (with_clause held id lits) new
found_with held old new id lits all now kept k clause there =
    ⊎_elim (λ before. kept k clause (all k clause before)) (λ last. subst (IsFound new k) last.1 (subst (λ i. IsFound new i lits) last.0 now)) (clause_at-pushed held id lits k clause there)

-- an index has what is left where clauses are taken out
pub found_without : (index : Option (List (List Watch))) (held : Held) (ids : List ℕ) → IfSome index (AreFound held) → IfSome index (AreFound (without held ids))
found_without None held ids all = tt
found_without (Some lists) held ids all = λ k clause there. all k clause (clause_at-without held ids k clause there)

-- one element more that does not pass
pub none_more : {X : Type 0} (p : X → Bool) (xs : List X) (i : ℕ) (d : X) → i < length xs → list_any p (take i xs) ≡ false → p (get_or xs i d) ≡ false → list_any p (take (i + 1) xs) ≡ false
none_more p xs i d within before now = list_any_more p xs i d within ∙ ap (λ b. b || p (get_or xs i d)) before ∙ now

-- no clause covers the literals if none stands in the lists of their codes
pub none_covers : (lists : List (List Watch)) (held : Held) (id : ℕ) (lits : List Literal) → AreFound held lists → NoneIn lists held id lits 0 → ((i : ℕ) (m : Literal) → i < length lits → NoneIn lists held id lits (code_of (get_or lits i m))) → Covers held id lits → ⊥
none_covers lists held id lits all no_literal none covers =
    let k = covers.0 in
    let clause = covers.1 in
    let subset : IsSubset clause lits = covers.4 in
    let found : IsFound lists k clause = all k clause covers.3 in
    let at = found.0 in
    ⊎_elim
    (λ zero_is. false≢true (sym (no_literal k clause covers.2 covers.3 subset) ∙ ap (λ c. list_any (is_watch_of k clause) (list_at lists c)) (sym zero_is) ∙ found.2))
    (λ its.
    let l = its.0 in
    let place = has-place lits l (list_all-has (has lits) clause subset l its.1) in
    let gone : list_any (is_watch_of k clause) (list_at lists (code_of (get_or lits place.0 l))) ≡ false = none place.0 l place.1 k clause covers.2 covers.3 subset in
    false≢true (sym gone ∙ ap (λ c. list_any (is_watch_of k clause) (list_at lists c)) (ap code_of place.2 ∙ its.2) ∙ found.2))
    found.1
