-- What the clauses of choices are not needed beside.
use Rattle.std.proofs.Common.{◌≡◌, ℕ, suc, true, false, cond, ◌+◌, ◌-◌, ◌≤◌, ◌<◌, List, [], ◌∷◌, ◌++◌, length, map, take, get_or, ⊎_elim, inl, inr, refl, sym, ap, ◌∙◌, subst, arith, Some, None, Result, Ok, Err, OnOk}
use Rattle.std.specs.Prelude.{◌==◌, All}
use Rattle.std.proofs.lemmas.Bool.{cases_lt, eq-eqb}
use Rattle.std.proofs.lemmas.List.{append_assoc, append-nil, length-append}
use Rattle.std.proofs.Math.Seq.{take-append_seam}
use Rattle.std.proofs.lemmas.List.Elements.{All-append, All-get_or, All-cons, All-nil}
use Rattle.lrat_model.specs.Literal.{Literal, Plus, Minus, variable_of, negated, has}
use Rattle.lrat_model.specs.Clauses.{Held, clause_at, with_clause}
use Rattle.lrat_model.specs.Ranges.{IsInRange}
use Rattle.lrat_model.proofs.Literals.{list_all-from_has}
use Rattle.lrat_model.proofs.Runs.{clause_at-more}
use Rattle.counter_expansion.specs.Finding.{IsHeld, IsNeedless}
use Rattle.counter_expansion.specs.Gates.{Gate, Rises}
use Rattle.counter_expansion.specs.Counters.{number_at, gate_of}
use Rattle.counter_expansion.specs.declared.counters.Counter.{Counter}

pub clause_at-new : (held : Held) (id : ℕ) (clause : List Literal) → clause_at held id ≡ None → clause_at (with_clause held id clause) id ≡ Some clause
clause_at-new [] id clause none = ap (λ b. cond b (Some clause) None) (eq-eqb id id refl)
clause_at-new (e ∷ held) id clause none =
    elim (e.0 == id) as (λ b. cond b (Some e.1) (clause_at held id) ≡ None → cond b (Some e.1) (clause_at (with_clause held id clause) id) ≡ Some clause) [
      | true ↦ λ is. cc
      | false ↦ λ is. clause_at-new held id clause is
    ] none

pub held_new : (held after : Held) (id : ℕ) (clause : List Literal) → clause_at held id ≡ None → after ≡ with_clause held id clause → IsNeedless after clause
held_new held after id clause none is =
    inr (clause, (id, ap (λ h. clause_at h id) is ∙ clause_at-new held id clause none), list_all-from_has (has clause) clause (λ m h. h))

pub held_still : (held after : Held) (id : ℕ) (clause before : List Literal) → after ≡ with_clause held id clause → IsHeld held before → IsHeld after before
held_still held after id clause before is at = (at.0, ap (λ h. clause_at h at.0) is ∙ clause_at-more held id clause at.0 before at.1)

pub needless_still : (held after : Held) (clause : List Literal) → ((before : List Literal) → IsHeld held before → IsHeld after before) → IsNeedless held clause → IsNeedless after clause
needless_still held after clause kept (inl both) = inl both
needless_still held after clause kept (inr part) = inr (part.0, kept part.0 part.1, part.2)

-- positions that rise within bounds are few
pub rises-few : (low high : ℕ) (ps : List ℕ) → Rises low high ps → length ps + low ≤ high
rises-few low high [] rises = omega (arith, rises)
rises-few low high (p ∷ ps) rises = omega (arith, rises.0, rises-few p high ps rises.1)

-- each choice of positions takes the next one or not
pub chosen_either : (x : ℕ → Literal) (held after : Held) (chosen more : List Literal) (from high left : ℕ)
    → more ≡ chosen ++ x (from + 1) ∷ []
    → ((ps : List ℕ) → Rises (from + 1) high ps → length ps ≡ left - 1 → IsNeedless held (more ++ map x ps))
    → ((before : List Literal) → IsHeld held before → IsHeld after before)
    → ((ps : List ℕ) → Rises (from + 1) high ps → length ps ≡ left → IsNeedless after (chosen ++ map x ps))
    → 0 < left
    → (ps : List ℕ) → Rises from high ps → length ps ≡ left → IsNeedless after (chosen ++ map x ps)
chosen_either x held after chosen more from high left more_is with_it kept without_it some [] rises len = absurd (omega (arith, some, len))
chosen_either x held after chosen more from high left more_is with_it kept without_it some (p ∷ ps) rises len =
    ⊎_elim
    (λ (later : from + 1 < p). without_it (p ∷ ps) (later, rises.1) len)
    (λ (least : p ≤ from + 1).
    let is : p ≡ from + 1 = omega (arith, least, rises.0) in
    let there : Rises (from + 1) high ps = subst (λ q. Rises q high ps) is rises.1 in
    let found : IsNeedless held (more ++ map x ps) = with_it ps there (omega (arith, len)) in
    let same_list : more ++ map x ps ≡ chosen ++ map x (p ∷ ps) = ap (λ ls. ls ++ map x ps) more_is ∙ append_assoc chosen (x (from + 1) ∷ []) (map x ps) ∙ ap (λ q. chosen ++ x q ∷ map x ps) (sym is) in
    needless_still held after (chosen ++ map x (p ∷ ps)) kept (subst (λ ls. IsNeedless held ls) same_list found))
    (cases_lt (from + 1) p)

-- the clause with one more input, and without it again
pub with_next : (inputs : List ℕ) (from : ℕ) (chosen more : List Literal) (l : Literal) → more ≡ chosen ++ l ∷ [] → l ≡ Plus (get_or inputs from 0) → more ≡ chosen ++ Plus (number_at inputs (from + 1)) ∷ []
with_next inputs from chosen more l is l_is =
    let place : from ≡ from + 1 - 1 = omega arith in
    is ∙ ap (λ k. chosen ++ k ∷ []) (l_is ∙ ap (λ i. Plus (get_or inputs i 0)) place)

pub next_in_range : (vars : ℕ) (chosen more : List Literal) (x : ℕ) → more ≡ chosen ++ Plus x ∷ [] → IsInRange vars chosen → x ≤ vars → IsInRange vars more
next_in_range vars chosen more x is before now = subst (λ ls. IsInRange vars ls) (sym is) (All-append (λ l. variable_of l ≤ vars) chosen (Plus x ∷ []) before (All-cons (λ l. variable_of l ≤ vars) (Plus x) [] now (All-nil (λ l. variable_of l ≤ vars))))

pub on_both : {A E : Type 0} (r : Result A E) (P Q R : Type 0) → OnOk r P → OnOk r Q → (P → Q → R) → OnOk r R
on_both (Ok v) P Q R p q f = f p q
on_both (Err e) P Q R p q f = tt

-- no positions are left, or too few
pub none_chosen : (x : ℕ → Literal) (held : Held) (chosen : List Literal) (ps : List ℕ) → length ps ≡ 0 → IsNeedless held chosen → IsNeedless held (chosen ++ map x ps)
none_chosen x held chosen [] none is = subst (λ ls. IsNeedless held ls) (sym (append-nil chosen)) is
none_chosen x held chosen (p ∷ ps) none is = absurd (omega (arith, none))

pub too_few_left : (from high left : ℕ) (ps : List ℕ) → high - from < left → Rises from high ps → length ps ≡ left → ⊥
too_few_left from high left ps few rises len = omega (arith, few, rises-few from high ps rises, len)

pub input_within : (vars : ℕ) (inputs : List ℕ) (from : ℕ) → All (λ x. x ≤ vars) inputs → from < length inputs → number_at inputs (from + 1) ≤ vars
input_within vars inputs from all within =
    let place : from ≡ from + 1 - 1 = omega arith in
    subst (λ i. get_or inputs i 0 ≤ vars) place (All-get_or (λ x. x ≤ vars) inputs from 0 within all)

pub on_one : {A E : Type 0} (r : Result A E) (P R : Type 0) → OnOk r P → (P → R) → OnOk r R
on_one (Ok v) P R p f = f p
on_one (Err e) P R p f = tt

pub popped : (chosen more old left : List Literal) (l : Literal) (len : ℕ) → more ≡ chosen ++ l ∷ [] → old ≡ more → len ≡ length old → left ≡ take (len - 1) old → left ≡ chosen
popped chosen more old left l len more_is old_is len_is left_is =
    let whole : old ≡ chosen ++ l ∷ [] = old_is ∙ more_is in
    let count : length old ≡ length chosen + 1 = ap length whole ∙ length-append chosen (l ∷ []) in
    let seam : len - 1 ≡ length chosen = omega (arith, len_is, count) in
    left_is ∙ ap (λ n. take n old) seam ∙ ap (take (length chosen)) whole ∙ take-append_seam chosen (l ∷ [])

-- the choices of a gate's inputs for a head of t of them
abbrev pub AreChosen : Gate → Held → Literal → ℕ → Type 0
AreChosen gate held h t = (ps : List ℕ) → Rises 0 gate.n ps → length ps + t ≡ suc gate.n → IsNeedless held (negated h ∷ map gate.x ps)

-- what was chosen of the same inputs, after the same literal
pub choices_are : (c : Counter) (held : Held) (mine : List ℕ) (start : List Literal) (head t size : ℕ) → mine ≡ c.inputs.items → start ≡ Minus head ∷ [] → size + t ≡ suc (length c.inputs.items)
    → ((ps : List ℕ) → Rises 0 (length mine) ps → length ps ≡ size → IsNeedless held (start ++ map (λ i. Plus (number_at mine i)) ps))
    → AreChosen (gate_of c) held (Plus head) t
choices_are c held mine start head t size same_inputs start_is count all =
    let P : List Literal → List ℕ → Type 0 = λ ls xs. (qs : List ℕ) → Rises 0 (length xs) qs → length qs ≡ size → IsNeedless held (ls ++ map (λ i. Plus (number_at xs i)) qs) in
    let over : P start c.inputs.items = subst (λ xs. P start xs) same_inputs all in
    let from_start : P (Minus head ∷ []) c.inputs.items = subst (λ ls. P ls c.inputs.items) start_is over in
    λ ps rises len. from_start ps rises (omega (arith, count, len))
