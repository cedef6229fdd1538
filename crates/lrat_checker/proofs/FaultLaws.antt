-- What the faults of a lemma tell.
use Rattle.std.proofs.Common.{◌≡◌, ◌≢◌, ℕ, ◌≤◌, ◌+◌, true, false, cond, List, [], ◌∷◌, ◌++◌, refl, Option, Some, None, ℤ, pos, negsuc, map, Result, Ok, Err, OnOk, OnErr}
use Rattle.std.specs.Prelude.{nat_lt, is_ok, is_err}
use Rattle.std.specs.Option.{option_or}
use Rattle.std.proofs.lemmas.Bool.{ltb-false}
use Rattle.std.proofs.lemmas.List.Elements.{All-nil, All-cons}
use Rattle.lrat_model.specs.Literal.{Literal, variable_of, negated, has}
use Rattle.lrat_model.specs.Clauses.{Held, clause_at}
use Rattle.lrat_model.specs.Propagation.{status, Outcome, Conflict, Stops, Leaves, after_status, after_finding, take_hint, and_then, propagate}
use Rattle.lrat_model.specs.Steps.{literal_fault, outcome_fault}
use Rattle.lrat_model.specs.declared.step.ClauseStatus.{ClauseStatus}
use Rattle.lrat_model.specs.declared.step.ClauseStatus.TheVariants.{Falsified, Forces, Unresolved}
use Rattle.lrat_model.specs.declared.step.StepFault.{StepFault}
use Rattle.lrat_model.specs.declared.step.StepFault.TheVariants.{BadLiteral, Tautology, RatStep, Memory}
use Rattle.lrat_model.specs.Ranges.{IsInRange}
use Rattle.lrat_model.specs.Rat.{Group, first_hints, groups_of, made_false, group_outcome, named_outcome, take_group, groups_fault, ids_of, first_without, missing_fault, pivot_fault, rest_fault}
use Rattle.lrat_model.specs.Rules.{hints_fault}
use Rattle.lrat_model.specs.declared.step.Rule.{Rule}
use Rattle.lrat_model.specs.declared.step.Rule.TheVariants.{Rup, Rat}

-- literals without a fault are in range
pub range-literal_fault : (vars : ℕ) (before ls : List Literal) → literal_fault vars before ls ≡ None → IsInRange vars ls
range-literal_fault vars before [] none = All-nil (λ l. variable_of l ≤ vars)
range-literal_fault vars before (l ∷ ls) none =
    elim (nat_lt vars (variable_of l)) as (λ b. nat_lt vars (variable_of l) ≡ b → cond b (Some (BadLiteral l)) (cond (has before (negated l)) (Some (Tautology l)) (literal_fault vars (before ++ l ∷ []) ls)) ≡ None → IsInRange vars (l ∷ ls)) [
      | true ↦ λ over is. cc
      | false ↦ λ within is. elim (has before (negated l)) as (λ b. cond b (Some (Tautology l)) (literal_fault vars (before ++ l ∷ []) ls) ≡ None → IsInRange vars (l ∷ ls)) [
        | true ↦ λ here. cc
        | false ↦ λ rest. All-cons (λ k. variable_of k ≤ vars) l ls (ltb-false vars (variable_of l) within) (range-literal_fault vars (before ++ l ∷ []) ls rest)
      ] is
    ] refl none

-- want of memory is no fault of a lemma
pub literal_fault-not_memory : (vars : ℕ) (before ls : List Literal) → literal_fault vars before ls ≡ Some Memory → ⊥
literal_fault-not_memory vars before [] is = cc
literal_fault-not_memory vars before (l ∷ ls) is =
    elim (nat_lt vars (variable_of l)) as (λ b. cond b (Some (BadLiteral l)) (cond (has before (negated l)) (Some (Tautology l)) (literal_fault vars (before ++ l ∷ []) ls)) ≡ Some Memory → ⊥) [
      | true ↦ λ here. cc
      | false ↦ λ rest. elim (has before (negated l)) as (λ b. cond b (Some (Tautology l)) (literal_fault vars (before ++ l ∷ []) ls) ≡ Some Memory → ⊥) [
        | true ↦ λ here. cc
        | false ↦ λ later. literal_fault-not_memory vars (before ++ l ∷ []) ls later
      ] rest
    ] is

-- an outcome that is no want of memory
abbrev pub IsNotMemory : Outcome → Type 0
IsNotMemory Conflict = Unit {0}
IsNotMemory (Stops fault) = fault ≢ Memory
IsNotMemory (Leaves trues) = Unit {0}

after_status-not_memory : (trues : List Literal) (place : ℕ) (says : ClauseStatus) → IsNotMemory (after_status trues place says)
after_status-not_memory trues place Falsified = tt
after_status-not_memory trues place (Forces l) = tt
after_status-not_memory trues place Unresolved = λ is. cc

after_finding-not_memory : (trues : List Literal) (place id : ℕ) (found : Option (List Literal)) → IsNotMemory (after_finding trues place id found)
after_finding-not_memory trues place id None = λ is. cc
after_finding-not_memory trues place id (Some clause) = after_status-not_memory trues place (status trues clause)

take_hint-not_memory : (held : Held) (trues : List Literal) (place : ℕ) (hint : ℤ) → IsNotMemory (take_hint held trues place hint)
take_hint-not_memory held trues place (pos id) = after_finding-not_memory trues place id (clause_at held id)
take_hint-not_memory held trues place (negsuc n) = λ is. cc

propagate-not_memory : (held : Held) (trues : List Literal) (place : ℕ) (hints : List ℤ) → IsNotMemory (propagate held trues place hints)
propagate-not_memory held trues place [] = tt
propagate-not_memory held trues place (hint ∷ hints) =
    elim (take_hint held trues place hint) as (λ e. IsNotMemory e → IsNotMemory (and_then e (λ now. propagate held now (place + 1) hints))) [
      | Conflict ↦ λ _. tt
      | Stops fault ↦ λ still. still
      | Leaves now ↦ λ _. propagate-not_memory held now (place + 1) hints
    ] (take_hint-not_memory held trues place hint)

outcome_fault-not_memory : (outcome : Outcome) → IsNotMemory outcome → outcome_fault outcome ≡ Some Memory → ⊥
outcome_fault-not_memory Conflict not is = cc
outcome_fault-not_memory (Stops fault) not is = not cc
outcome_fault-not_memory (Leaves trues) not is = cc

after_first : (first second : Option StepFault) → (first ≡ Some Memory → ⊥) → (second ≡ Some Memory → ⊥) → option_or first second ≡ Some Memory → ⊥
after_first None second one two is = two is
after_first (Some fault) second one two is = one is

-- nor of RAT hints
group_outcome-not_memory : (held : Held) (g : Group) (opened : Option (List Literal)) → IsNotMemory (group_outcome held g opened)
group_outcome-not_memory held g None = tt
group_outcome-not_memory held g (Some trues) = propagate-not_memory held trues (g.place + 1) g.hints

take_group-not_memory : (held : Held) (trues : List Literal) (pivot : Literal) (g : Group) (found : Option (List Literal)) → IsNotMemory (named_outcome held trues pivot g found)
take_group-not_memory held trues pivot g None = λ is. cc
take_group-not_memory held trues pivot g (Some clause) =
    elim (has clause (negated pivot)) as (λ b. IsNotMemory (cond b (group_outcome held g (made_false (negated pivot) trues clause)) (Stops (RatStep g.place)))) [
      | true ↦ group_outcome-not_memory held g (made_false (negated pivot) trues clause)
      | false ↦ λ is. cc
    ]

groups_fault-not_memory : (held : Held) (trues : List Literal) (pivot : Literal) (groups : List Group) → groups_fault held trues pivot groups ≡ Some Memory → ⊥
groups_fault-not_memory held trues pivot [] is = cc
groups_fault-not_memory held trues pivot (g ∷ groups) is =
    after_first (outcome_fault (take_group held trues pivot g)) (groups_fault held trues pivot groups)
    (outcome_fault-not_memory (take_group held trues pivot g) (take_group-not_memory held trues pivot g (clause_at held g.id)))
    (groups_fault-not_memory held trues pivot groups) is

missing_fault-not_memory : (groups : List Group) (o : Option ℕ) → missing_fault groups o ≡ Some Memory → ⊥
missing_fault-not_memory groups None is = cc
missing_fault-not_memory [] (Some id) is = cc
missing_fault-not_memory (g ∷ groups) (Some id) is = cc

pivot_fault-not_memory : (held : Held) (trues clause : List Literal) (groups : List Group) → pivot_fault held trues clause groups ≡ Some Memory → ⊥
pivot_fault-not_memory held trues [] [] is = cc
pivot_fault-not_memory held trues [] (g ∷ groups) is = cc
pivot_fault-not_memory held trues (pivot ∷ rest) groups is =
    after_first (groups_fault held trues pivot groups) (missing_fault groups (first_without held (negated pivot) (ids_of groups)))
    (groups_fault-not_memory held trues pivot groups) (missing_fault-not_memory groups (first_without held (negated pivot) (ids_of groups))) is

rest_fault-not_memory : (held : Held) (clause : List Literal) (groups : List Group) (outcome : Outcome) → IsNotMemory outcome → rest_fault held clause groups outcome ≡ Some Memory → ⊥
rest_fault-not_memory held clause groups Conflict not is = cc
rest_fault-not_memory held clause groups (Stops fault) not is = not cc
rest_fault-not_memory held clause groups (Leaves trues) not is = pivot_fault-not_memory held trues clause groups is

hints_fault-not_memory : (rule : Rule) (held : Held) (clause : List Literal) (hints : List ℤ) → hints_fault rule held clause hints ≡ Some Memory → ⊥
hints_fault-not_memory Rup held clause hints is = outcome_fault-not_memory (propagate held (map negated clause) 1 hints) (propagate-not_memory held (map negated clause) 1 hints) is
hints_fault-not_memory Rat held clause hints is =
    rest_fault-not_memory held clause (groups_of 1 hints) (propagate held (map negated clause) 1 (first_hints hints)) (propagate-not_memory held (map negated clause) 1 (first_hints hints)) is

pub lemma_fault-not_memory : (rule : Rule) (vars : ℕ) (held : Held) (clause : List Literal) (hints : List ℤ) → option_or (literal_fault vars [] clause) (hints_fault rule held clause hints) ≡ Some Memory → ⊥
lemma_fault-not_memory rule vars held clause hints is =
    after_first (literal_fault vars [] clause) (hints_fault rule held clause hints) (literal_fault-not_memory vars [] clause) (hints_fault-not_memory rule held clause hints) is

-- no fault at all is none of the literals
pub literals_first : (first second : Option StepFault) → option_or first second ≡ None → first ≡ None
literals_first None second none = refl
literals_first (Some fault) second none = cc

-- what holds of an answer that is known
pub where_ok : {A E : Type 0} (r : Result A E) (P : Type 0) → is_err r ≡ false → OnOk r P → P
where_ok (Ok x) P ok p = p
where_ok (Err e) P ok p = cc

pub either : {A E : Type 0} (r : Result A E) (P Q R : Type 0) → OnOk r P → OnErr r Q → (P → R) → (Q → R) → R
either (Ok x) P Q R p q f g = f p
either (Err e) P Q R p q f g = g q

pub taken : {A E B : Type 0} (r : Result A E) (x y : B) → is_err r ≡ false → cond (is_ok r) x y ≡ x
taken (Ok v) x y ok = refl
taken (Err e) x y ok = cc
