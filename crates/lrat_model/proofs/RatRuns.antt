-- Runs with RAT hints: each step keeps satisfiability.
use Rattle.std.proofs.Common.{◌≡◌, ℕ, Bool, true, false, List, [], ◌∷◌, ◌++◌, refl, sym, ap, ◌∙◌, subst, cond, map, Some, None, ◌+◌, ℤ, pos, negsuc}
use Rattle.std.specs.Prelude.{nat_le}
use Rattle.std.specs.Option.{option_or}
use Rattle.std.proofs.lemmas.Bool.{false≢true}
use Rattle.lrat_model.specs.Literal.{Literal, negated, formula_true}
use Rattle.lrat_model.specs.Clauses.{Held, Satisfies, IsUnsatisfiable}
use Rattle.lrat_model.specs.Propagation.{Outcome, Conflict, Stops, Leaves, and_then, take_hint, propagate}
use Rattle.lrat_model.specs.Steps.{Database, ProofStep, Addition, Deletion, after_step, step_fault, outcome_fault, literal_fault, progress_of}
use Rattle.lrat_model.specs.Runs.{formula_database}
use Rattle.lrat_model.specs.Rat.{first_hints, groups_of, rest_fault}
use Rattle.lrat_model.specs.Rules.{hints_fault, addition_fault_by, step_fault_by, RunBy, IsSatisfiable}
use Rattle.lrat_model.specs.declared.step.Rule.{Rule}
use Rattle.lrat_model.specs.declared.step.Rule.TheVariants.{Rup, Rat}
use Rattle.lrat_model.specs.declared.step.StepFault.TheVariants.{IdOrder}
use Rattle.lrat_model.specs.declared.step.Progress.TheVariants.{Refuted}
use Rattle.lrat_model.proofs.Runs.{clause_at-without, Satisfies-with_clause, Satisfies-numbered}
use Rattle.lrat_model.proofs.RatTruth.{Keeps, rat_keeps}

-- ---- what Rup takes, Rat takes too

first_conflict : (held : Held) (trues : List Literal) (place : ℕ) (hints : List ℤ) → propagate held trues place hints ≡ Conflict → propagate held trues place (first_hints hints) ≡ Conflict
first_conflict held trues place [] is = cc
first_conflict held trues place (negsuc n ∷ hints) is = cc
first_conflict held trues place (pos id ∷ hints) is =
    elim (take_hint held trues place (pos id)) as (λ o. and_then o (λ now. propagate held now (place + 1) hints) ≡ Conflict → and_then o (λ now. propagate held now (place + 1) (first_hints hints)) ≡ Conflict) [
      | Conflict ↦ λ _. refl
      | Stops fault ↦ λ ends. cc
      | Leaves now ↦ λ ends. first_conflict held now (place + 1) hints ends
    ] is

conflict_where_none : (o : Outcome) → outcome_fault o ≡ None → o ≡ Conflict
conflict_where_none Conflict none = refl
conflict_where_none (Stops fault) none = cc
conflict_where_none (Leaves trues) none = cc

pub hints_rat_takes : (held : Held) (clause : List Literal) (hints : List ℤ) → hints_fault Rup held clause hints ≡ None → hints_fault Rat held clause hints ≡ None
hints_rat_takes held clause hints none =
    ap (rest_fault held clause (groups_of 1 hints)) (first_conflict held (map negated clause) 1 hints (conflict_where_none (propagate held (map negated clause) 1 hints) none))

addition_parts : (rule : Rule) (vars : ℕ) (database : Database) (id : ℕ) (clause : List Literal) (hints : List ℤ) → addition_fault_by rule vars database id clause hints ≡ None
    → (nat_le id database.last ≡ false) × (literal_fault vars [] clause ≡ None) × (hints_fault rule database.held clause hints ≡ None)
addition_parts rule vars database id clause hints none =
    elim (nat_le id database.last) as (λ b. cond b (Some (IdOrder database.last id)) (option_or (literal_fault vars [] clause) (hints_fault rule database.held clause hints)) ≡ None → (b ≡ false) × (literal_fault vars [] clause ≡ None) × (hints_fault rule database.held clause hints ≡ None)) [
      | true ↦ λ h. cc
      | false ↦ λ h. elim (literal_fault vars [] clause) as (λ o. option_or o (hints_fault rule database.held clause hints) ≡ None → (false ≡ false) × (o ≡ None) × (hints_fault rule database.held clause hints ≡ None)) [
        | Some fault ↦ λ k. cc
        | None ↦ λ k. (refl, refl, k)
      ] h
    ] none

pub rat_takes : (vars : ℕ) (database : Database) (step : ProofStep) → step_fault_by Rup vars database step ≡ None → step_fault_by Rat vars database step ≡ None
rat_takes vars database (Deletion id ids) none = none
rat_takes vars database (Addition id clause hints) none =
    let parts : (nat_le id database.last ≡ false) × (literal_fault vars [] clause ≡ None) × (hints_fault Rup database.held clause hints ≡ None) = addition_parts Rup vars database id clause hints none in
    ap (λ b. cond b (Some (IdOrder database.last id)) (option_or (literal_fault vars [] clause) (hints_fault Rat database.held clause hints))) parts.0
    ∙ ap (λ o. option_or o (hints_fault Rat database.held clause hints)) parts.1 ∙ hints_rat_takes database.held clause hints parts.2

pub rup_is_the_first_rule : (vars : ℕ) (database : Database) (step : ProofStep) → step_fault_by Rup vars database step ≡ step_fault vars database step
rup_is_the_first_rule vars database (Addition id clause hints) = refl
rup_is_the_first_rule vars database (Deletion id ids) = refl

pub run_rat_takes : (vars : ℕ) (old : Database) (steps : List ProofStep) (new : Database) → RunBy Rup vars old steps new → RunBy Rat vars old steps new
run_rat_takes vars old [] new run = run
run_rat_takes vars old (step ∷ steps) new run = (rat_takes vars old step run.0, run_rat_takes vars (after_step old step) steps new run.1)

-- ---- satisfiability

keeps : (rule : Rule) (v : ℕ → Bool) (held : Held) (clause : List Literal) (hints : List ℤ) → hints_fault rule held clause hints ≡ None → Satisfies v held → Keeps held clause
keeps Rup v held clause hints none solves = rat_keeps v held clause hints (hints_rat_takes held clause hints none) solves
keeps Rat v held clause hints none solves = rat_keeps v held clause hints none solves

pub step_keeps : (rule : Rule) (vars : ℕ) (old : Database) (step : ProofStep) → step_fault_by rule vars old step ≡ None → IsSatisfiable old.held → IsSatisfiable (after_step old step).held
step_keeps rule vars old (Deletion id ids) none some = (some.0, λ k found at. some.1 k found (clause_at-without old.held ids k found at))
step_keeps rule vars old (Addition id clause hints) none some =
    let left : Keeps old.held clause = keeps rule some.0 old.held clause hints (addition_parts rule vars old id clause hints none).2 some.1 in
    (left.0, Satisfies-with_clause left.0 old.held id clause left.1 left.2)

pub run_keeps : (rule : Rule) (vars : ℕ) (old : Database) (steps : List ProofStep) (new : Database) → RunBy rule vars old steps new → IsSatisfiable old.held → IsSatisfiable new.held
run_keeps rule vars old [] new run some = subst (λ (d : Database). IsSatisfiable d.held) (sym run) some
run_keeps rule vars old (step ∷ steps) new run some = run_keeps rule vars (after_step old step) steps new run.1 (step_keeps rule vars old step run.0 some)

no_empty : (rule : Rule) (vars : ℕ) (old : Database) (step : ProofStep) → step_fault_by rule vars old step ≡ None → IsSatisfiable old.held → progress_of step ≡ Refuted → ⊥
no_empty rule vars old (Addition id [] hints) none some ends = false≢true (keeps rule some.0 old.held [] hints (addition_parts rule vars old id [] hints none).2 some.1).2
no_empty rule vars old (Addition id (l ∷ ls) hints) none some ends = cc
no_empty rule vars old (Deletion id ids) none some ends = cc

pub refuted_by : (rule : Rule) (vars : ℕ) (old : Database) (steps : List ProofStep) (last : ProofStep) (new : Database) → RunBy rule vars old (steps ++ last ∷ []) new → progress_of last ≡ Refuted → IsUnsatisfiable old.held
refuted_by rule vars old [] last new run ends v solves = no_empty rule vars old last run.0 (v, solves) ends
refuted_by rule vars old (step ∷ steps) last new run ends v solves =
    let left : IsSatisfiable (after_step old step).held = step_keeps rule vars old step run.0 (v, solves) in
    refuted_by rule vars (after_step old step) steps last new run.1 ends left.0 left.1

pub formula_refuted_by : (rule : Rule) (vars : ℕ) (clauses : List (List Literal)) (steps : List ProofStep) (last : ProofStep) (new : Database) → RunBy rule vars (formula_database clauses) (steps ++ last ∷ []) new → progress_of last ≡ Refuted → (v : ℕ → Bool) → formula_true v clauses ≡ false
formula_refuted_by rule vars clauses steps last new run ends v =
    elim (formula_true v clauses) as (λ b. formula_true v clauses ≡ b → b ≡ false) [
      | true ↦ λ holds. absurd (refuted_by rule vars (formula_database clauses) steps last new run ends v (Satisfies-numbered v 1 clauses holds))
      | false ↦ λ _. refl
    ] refl
