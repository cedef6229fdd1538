-- A lemma that RAT hints show may be added: an assignment that makes all clauses held true, with the pivot made true, does so still.
use Rattle.std.proofs.Common.{◌≡◌, ℕ, Bool, true, false, not, ◌||◌, ◌&&◌, List, [], ◌∷◌, ⊎_elim, refl, sym, ap, ◌∙◌, subst, arith, cond, map, Option, Some, None, ◌+◌, ℤ}
use Rattle.std.specs.Prelude.{◌==◌, if◌then◌else◌}
use Rattle.std.specs.List.{list_any}
use Rattle.std.specs.Option.{option_or}
use Rattle.std.proofs.lemmas.Bool.{eqb-true, eq-eqb, or_cases, or_left, or_right, and_parts, and_from, false≢true, not-true}
use Rattle.lrat_model.specs.Literal.{Literal, Plus, Minus, negated, same, has, literal_true, clause_true}
use Rattle.lrat_model.specs.Clauses.{Held, clause_at, has_id, Satisfies}
use Rattle.lrat_model.specs.Propagation.{Outcome, Conflict, Stops, Leaves, propagate}
use Rattle.lrat_model.specs.Steps.{outcome_fault}
use Rattle.lrat_model.specs.Rat.{Group, groups_of, first_hints, made_false, group_outcome, named_outcome, take_group, groups_fault, ids_of, first_without, missing_fault, pivot_fault, rest_fault, rat_fault}
use Rattle.lrat_model.specs.declared.step.StepFault.{StepFault}
use Rattle.lrat_model.specs.declared.step.StepFault.TheVariants.{RatStep}
use Rattle.lrat_model.proofs.Truth.{AllTrue, AllTrue-cons, AllTrue-negated, LeavesTrue, propagate-true, no_conflict, literal_true-negated}

-- ---- a literal made true

-- the assignment with one literal made true
abbrev pub with_true : (ℕ → Bool) → Literal → ℕ → Bool
with_true v (Plus x) y = if y == x then true else v y
with_true v (Minus x) y = if y == x then false else v y

pub made_true : (v : ℕ → Bool) (p : Literal) → literal_true (with_true v p) p ≡ true
made_true v (Plus x) = ap (λ b. cond b true (v x)) (eq-eqb x x refl)
made_true v (Minus x) = ap (λ b. not (cond b false (v x))) (eq-eqb x x refl)

turned : (x y : ℕ) → (x == y) ≡ false → (y == x) ≡ false
turned x y differ = elim (y == x) as (λ b. (y == x) ≡ b → b ≡ false) [
  | true ↦ λ is. absurd (false≢true (sym differ ∙ eq-eqb x y (sym (eqb-true y x is))))
  | false ↦ λ _. refl
] refl

-- what was true stays so, but for the negation
stays_true : (v : ℕ → Bool) (p m : Literal) → same (negated p) m ≡ false → literal_true v m ≡ true → literal_true (with_true v p) m ≡ true
stays_true v (Plus x) (Plus y) differ is =
    elim (y == x) as (λ b. cond b true (v y) ≡ true) [
      | true ↦ refl
      | false ↦ is
    ]
stays_true v (Plus x) (Minus y) differ is = ap (λ b. not (cond b true (v y))) (turned x y differ) ∙ is
stays_true v (Minus x) (Plus y) differ is = ap (λ b. cond b false (v y)) (turned x y differ) ∙ is
stays_true v (Minus x) (Minus y) differ is =
    elim (y == x) as (λ b. not (cond b false (v y)) ≡ true) [
      | true ↦ refl
      | false ↦ is
    ]

-- some literal of the clause other than the negation is true
abbrev pub OtherTrue : (ℕ → Bool) → Literal → List Literal → Bool
OtherTrue v p clause = list_any (λ m. not (same (negated p) m) && literal_true v m) clause

other_stays_true : (v : ℕ → Bool) (p : Literal) (clause : List Literal) → OtherTrue v p clause ≡ true → clause_true (with_true v p) clause ≡ true
other_stays_true v p [] is = absurd (false≢true is)
other_stays_true v p (m ∷ ms) is =
    ⊎_elim
    (λ here.
    let both : (not (same (negated p) m) ≡ true) × (literal_true v m ≡ true) = and_parts (not (same (negated p) m)) (literal_true v m) here in
    or_left (literal_true (with_true v p) m) (clause_true (with_true v p) ms) (stays_true v p m (not-true (same (negated p) m) both.0) both.1))
    (λ there. or_right (literal_true (with_true v p) m) (clause_true (with_true v p) ms) (other_stays_true v p ms there))
    (or_cases (not (same (negated p) m) && literal_true v m) (OtherTrue v p ms) is)

other_where_absent : (v : ℕ → Bool) (p : Literal) (clause : List Literal) → clause_true v clause ≡ true → has clause (negated p) ≡ false → OtherTrue v p clause ≡ true
other_where_absent v p [] is absent = absurd (false≢true is)
other_where_absent v p (m ∷ ms) is absent =
    let absent_rest : has ms (negated p) ≡ false = (let neither : (same (negated p) m || has ms (negated p)) ≡ false = absent in grind arith) in
    let absent_here : not (same (negated p) m) ≡ true = (let neither : (same (negated p) m || has ms (negated p)) ≡ false = absent in grind arith) in
    ⊎_elim
    (λ here. or_left (not (same (negated p) m) && literal_true v m) (OtherTrue v p ms) (and_from (not (same (negated p) m)) (literal_true v m) absent_here here))
    (λ there. or_right (not (same (negated p) m) && literal_true v m) (OtherTrue v p ms) (other_where_absent v p ms there absent_rest))
    (or_cases (literal_true v m) (clause_true v ms) is)

-- ---- a group

-- the literals that are true once those of a clause were made false
abbrev pub OpenedTrue : (ℕ → Bool) → Option (List Literal) → Type 0
OpenedTrue v None = ⊥
OpenedTrue v (Some trues) = AllTrue v trues

-- where no other literal of the clause is true
opened_true : (v : ℕ → Bool) (p : Literal) (trues clause : List Literal) → AllTrue v trues → OtherTrue v p clause ≡ false → OpenedTrue v (made_false (negated p) trues clause)
opened_true v p trues [] all none = all
opened_true v p trues (m ∷ ms) all none =
    let none_here : (not (same (negated p) m) && literal_true v m) ≡ false = (let neither : ((not (same (negated p) m) && literal_true v m) || OtherTrue v p ms) ≡ false = none in grind arith) in
    let none_later : OtherTrue v p ms ≡ false = (let neither : ((not (same (negated p) m) && literal_true v m) || OtherTrue v p ms) ≡ false = none in grind arith) in
    elim (same (negated p) m) as (λ b. (not b && literal_true v m) ≡ false → OpenedTrue v (cond b (made_false (negated p) trues ms) (cond (has trues m) None (made_false (negated p) (negated m ∷ trues) ms)))) [
      | true ↦ λ _. opened_true v p trues ms all none_later
      | false ↦ λ false_here. elim (has trues m) as (λ b. has trues m ≡ b → OpenedTrue v (cond b None (made_false (negated p) (negated m ∷ trues) ms))) [
        | true ↦ λ is. false≢true (sym false_here ∙ all m is)
        | false ↦ λ _. opened_true v p (negated m ∷ trues) ms (AllTrue-cons v (negated m) trues (literal_true-negated v m ∙ ap not false_here) all) none_later
      ] refl
    ] none_here

-- in a group that is done, another literal is true
group_open : (v : ℕ → Bool) (held : Held) → Satisfies v held → (g : Group) (opened : Option (List Literal)) → OpenedTrue v opened → group_outcome held g opened ≡ Conflict → ⊥
group_open v held solves g None never done = never
group_open v held solves g (Some trues) all done = no_conflict v held solves trues (g.place + 1) g.hints all done

named_done : (v : ℕ → Bool) (held : Held) → Satisfies v held → (trues : List Literal) → AllTrue v trues → (p : Literal) (g : Group) (clause : List Literal) → named_outcome held trues p g (Some clause) ≡ Conflict → OtherTrue v p clause ≡ true
named_done v held solves trues all p g clause done =
    elim (has clause (negated p)) as (λ b. cond b (group_outcome held g (made_false (negated p) trues clause)) (Stops (RatStep g.place)) ≡ Conflict → OtherTrue v p clause ≡ true) [
      | true ↦ λ ends. elim (OtherTrue v p clause) as (λ b. OtherTrue v p clause ≡ b → b ≡ true) [
        | true ↦ λ _. refl
        | false ↦ λ none. absurd (group_open v held solves g (made_false (negated p) trues clause) (opened_true v p trues clause all none) ends)
      ] refl
      | false ↦ λ ends. cc
    ] done

group_done : (v : ℕ → Bool) (held : Held) → Satisfies v held → (trues : List Literal) → AllTrue v trues → (p : Literal) (g : Group) (clause : List Literal) → clause_at held g.id ≡ Some clause → take_group held trues p g ≡ Conflict → OtherTrue v p clause ≡ true
group_done v held solves trues all p g clause at done =
    named_done v held solves trues all p g clause (sym (ap (named_outcome held trues p g) at) ∙ done)

-- ---- the groups

outcome_conflict : (o : Outcome) → outcome_fault o ≡ None → o ≡ Conflict
outcome_conflict Conflict none = refl
outcome_conflict (Stops fault) none = cc
outcome_conflict (Leaves trues) none = cc

neither_fault : (first second : Option StepFault) → option_or first second ≡ None → (first ≡ None) × (second ≡ None)
neither_fault None second none = (refl, none)
neither_fault (Some fault) second none = cc

-- each id among those of groups without a fault is that of a group that is done
done_where_named : (held : Held) (trues : List Literal) (p : Literal) (groups : List Group) (k : ℕ) → groups_fault held trues p groups ≡ None → has_id (ids_of groups) k ≡ true → (g : Group) × (g.id ≡ k) × (take_group held trues p g ≡ Conflict)
done_where_named held trues p [] k none named = absurd (false≢true named)
done_where_named held trues p (g ∷ groups) k none named =
    let both : (outcome_fault (take_group held trues p g) ≡ None) × (groups_fault held trues p groups ≡ None) = neither_fault (outcome_fault (take_group held trues p g)) (groups_fault held trues p groups) none in
    ⊎_elim
    (λ here. (g, eqb-true g.id k here, outcome_conflict (take_group held trues p g) both.0))
    (λ there. done_where_named held trues p groups k both.1 there)
    (or_cases (g.id == k) (has_id (ids_of groups) k) named)

named_where_has : (held : Held) (l : Literal) (ids : List ℕ) → first_without held l ids ≡ None → (k : ℕ) (clause : List Literal) → clause_at held k ≡ Some clause → has clause l ≡ true → has_id ids k ≡ true
named_where_has [] l ids none k clause at there = cc
named_where_has (e ∷ held) l ids none k clause at there =
    elim (e.0 == k) as (λ b. (e.0 == k) ≡ b → cond b (Some e.1) (clause_at held k) ≡ Some clause → has_id ids k ≡ true) [
      | true ↦ λ is found.
          let same_clause : e.1 ≡ clause = cc in
          let there_too : has e.1 l ≡ true = subst (λ c. has c l ≡ true) (sym same_clause) there in
          let named : has_id ids e.0 ≡ true = here (has e.1 l) (has_id ids e.0) there_too none in
          subst (λ n. has_id ids n ≡ true) (eqb-true e.0 k is) named
      | false ↦ λ _ found. named_where_has held l ids (later (has e.1 l && not (has_id ids e.0)) none) k clause found there
    ] refl at where
      here : (a b : Bool) → a ≡ true → cond (a && not b) (Some e.0) (first_without held l ids) ≡ None → b ≡ true
      here a true is none_found = refl
      here true false is none_found = cc
      here false false is none_found = absurd (false≢true is)

      later : (b : Bool) → cond b (Some e.0) (first_without held l ids) ≡ None → first_without held l ids ≡ None
      later true none_found = cc
      later false none_found = none_found

none_missing : (groups : List Group) (o : Option ℕ) → missing_fault groups o ≡ None → o ≡ None
none_missing groups None none = refl
none_missing [] (Some id) none = cc
none_missing (g ∷ groups) (Some id) none = cc

-- with the pivot made true, each clause held stays true
satisfies_flipped : (v : ℕ → Bool) (held : Held) → Satisfies v held → (trues : List Literal) → AllTrue v trues → (p : Literal) (groups : List Group)
    → groups_fault held trues p groups ≡ None → first_without held (negated p) (ids_of groups) ≡ None → Satisfies (with_true v p) held
satisfies_flipped v held solves trues all p groups no_fault none_left k clause at =
    elim (has clause (negated p)) as (λ b. has clause (negated p) ≡ b → clause_true (with_true v p) clause ≡ true) [
      | true ↦ λ there.
          let done : (g : Group) × (g.id ≡ k) × (take_group held trues p g ≡ Conflict) = done_where_named held trues p groups k no_fault (named_where_has held (negated p) (ids_of groups) none_left k clause at there) in
          other_stays_true v p clause (group_done v held solves trues all p done.0 clause (ap (clause_at held) done.1 ∙ at) done.2)
      | false ↦ λ absent. other_stays_true v p clause (other_where_absent v p clause (solves k clause at) absent)
    ] refl

-- ---- a lemma

-- an assignment in which the clauses held and this one are true
abbrev pub Keeps : Held → List Literal → Type 0
Keeps held clause = (w : ℕ → Bool) × Satisfies w held × (clause_true w clause ≡ true)

pivot_keeps : (v : ℕ → Bool) (held : Held) → Satisfies v held → (trues : List Literal) → AllTrue v trues → (clause : List Literal) (groups : List Group) → pivot_fault held trues clause groups ≡ None → Keeps held clause
pivot_keeps v held solves trues all [] [] none = cc
pivot_keeps v held solves trues all [] (g ∷ groups) none = cc
pivot_keeps v held solves trues all (p ∷ rest) groups none =
    let both : (groups_fault held trues p groups ≡ None) × (missing_fault groups (first_without held (negated p) (ids_of groups)) ≡ None) = neither_fault (groups_fault held trues p groups) (missing_fault groups (first_without held (negated p) (ids_of groups))) none in (
      with_true v p,
      satisfies_flipped v held solves trues all p groups both.0 (none_missing groups (first_without held (negated p) (ids_of groups)) both.1),
      or_left (literal_true (with_true v p) p) (clause_true (with_true v p) rest) (made_true v p),
    )

rest_keeps : (v : ℕ → Bool) (held : Held) → Satisfies v held → (clause : List Literal) (groups : List Group) (outcome : Outcome) → LeavesTrue v outcome → rest_fault held clause groups outcome ≡ None → Keeps held clause
rest_keeps v held solves clause groups Conflict never none = absurd never
rest_keeps v held solves clause groups (Stops fault) _ none = cc
rest_keeps v held solves clause groups (Leaves trues) all none = pivot_keeps v held solves trues all clause groups none

-- what RAT hints show keeps satisfiability
pub rat_keeps : (v : ℕ → Bool) (held : Held) (clause : List Literal) (hints : List ℤ) → rat_fault held clause hints ≡ None → Satisfies v held → Keeps held clause
rat_keeps v held clause hints none solves =
    elim (clause_true v clause) as (λ b. clause_true v clause ≡ b → Keeps held clause) [
      | true ↦ λ is. (v, solves, is)
      | false ↦ λ is. rest_keeps v held solves clause (groups_of 1 hints) (propagate held (map negated clause) 1 (first_hints hints))
          (propagate-true v held solves (map negated clause) 1 (first_hints hints) (AllTrue-negated v clause is)) none
    ] refl
