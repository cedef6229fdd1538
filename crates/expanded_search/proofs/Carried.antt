-- What of a log holds over the formula too.
use Rattle.std.proofs.Common.{◌≡◌, ℕ, ◌+◌, ◌<◌, ◌≤◌, true, false, cond, List, [], ◌∷◌, ◌++◌, length, map, ⊎_elim, refl, sym, ◌∙◌, subst, Option, Some, None, ℤ}
use Rattle.std.specs.Prelude.{nat_le, nat_lt, All}
use Rattle.std.specs.Option.{option_or}
use Rattle.std.proofs.lemmas.Bool.{false≢true, true≢false, false_from_ne_true}
use Rattle.lrat_model.specs.Literal.{Literal, variable_of, negated, has, IsConsistent}
use Rattle.lrat_model.specs.Clauses.{Held, IsUnsatisfiable}
use Rattle.lrat_model.specs.Propagation.{propagate, Follows, Closes}
use Rattle.lrat_model.specs.Steps.{ProofStep, Addition, Database, step_fault, literal_fault, outcome_fault}
use Rattle.lrat_model.specs.Runs.{Run}
use Rattle.lrat_model.specs.Lemmas.{Settles, IsUseful, IsDue, others}
use Rattle.lrat_model.specs.declared.step.StepFault.{StepFault}
use Rattle.lrat_model.specs.declared.step.StepFault.TheVariants.{IdOrder, BadLiteral, Tautology}
use Rattle.lrat_model.proofs.Literals.{negated-negated, has-cons, has-first, has-rest, has-push}
use Rattle.lrat_model.proofs.Runs.{follows_unless, refuted}
use Rattle.cdcl_core.specs.Log.{IsLemma, IsForgetting, NamesClause, EndsEmpty}
use Rattle.counter_expansion.specs.Finding.{Finds, Given, By, IsRefuted}
use Rattle.counter_expansion.proofs.Finding.{negated-differs, refuted_finds, conflict_refutes, found_is_settled}

-- ---- useful lemmas

-- more true literals find as much
pub finds_more : (held : Held) (trues more : List Literal) → ((m : Literal) → has trues m ≡ true → has more m ≡ true) → (l : Literal) → Finds held trues l → Finds held more l
finds_more held trues more includes l (Given _ h) = Given l (includes l h)
finds_more held trues more includes l (By _ clause at rest) = By l clause at (λ m h isnt. finds_more held trues more includes (negated m) (rest m h isnt))

-- where the clauses held close, no lemma is useful
pub closed_useless : (held : Held) (clause : List Literal) → IsUseful held clause → Closes held → ⊥
closed_useless held clause (l, within, open_one) (hints, follows) =
    let start : List Literal = map negated (others l clause) in
    let closes : IsRefuted held [] = conflict_refutes held [] hints follows in
    let found : Finds held start l = finds_more held [] start (λ m h. absurd (false≢true h)) l (refuted_finds held [] l closes) in
    let settled : (by : List ℤ) × Settles held start l by = found_is_settled held start l found in
    open_one settled.0 settled.1

-- a lemma beside is one over the formula, with hints that name clauses held there
pub lemma_carried : (vars : ℕ) (now beside : Database) (id : ℕ) (lits : List Literal) (hints : List ℤ) → IsLemma vars beside id lits hints → (IsUseful beside.held lits → IsUseful now.held lits)
    → (more : List ℤ) → All (NamesClause now.held) more → length more ≤ vars + 1 → IsLemma vars now (now.last + 1) lits more
lemma_carried vars now beside id lits hints lemma carry more named few = record {
  next = refl;
  distinct = lemma.distinct;
  range = lemma.range;
  named = named;
  few_hints = few;
  useful = λ some. carry (lemma.useful some);
}

-- a deletion beside is one over the formula
pub forgetting_carried : (now beside : Database) (id : ℕ) → IsForgetting beside id → (Closes now.held → Closes beside.held) → IsForgetting now now.last
forgetting_carried now beside id forgets carry = record { own = refl; unclosed = λ closes. forgets.unclosed (carry closes) }

-- a useful lemma that follows is due
pub due_carried : (held : Held) (lits : List Literal) (hints : List ℤ) → IsUseful held lits → IsConsistent lits → 0 < length lits → Follows held lits hints → IsDue held
due_carried held lits hints useful consistent some follows = (lits, hints, some, consistent, follows, useful)

-- ---- steps that are taken

fault_parts : (vars : ℕ) (before : List Literal) (l : Literal) (ls : List Literal) → literal_fault vars before (l ∷ ls) ≡ None → (has before (negated l) ≡ false) × (literal_fault vars (before ++ l ∷ []) ls ≡ None)
fault_parts vars before l ls none =
    elim (nat_lt vars (variable_of l)) as (λ b. cond b (Some (BadLiteral l)) (cond (has before (negated l)) (Some (Tautology l)) (literal_fault vars (before ++ l ∷ []) ls)) ≡ None → (has before (negated l) ≡ false) × (literal_fault vars (before ++ l ∷ []) ls ≡ None)) [
      | true ↦ λ is. absurd cc
      | false ↦ λ is. elim (has before (negated l)) as (λ b. cond b (Some (Tautology l)) (literal_fault vars (before ++ l ∷ []) ls) ≡ None → (b ≡ false) × (literal_fault vars (before ++ l ∷ []) ls ≡ None)) [
        | true ↦ λ here. absurd cc
        | false ↦ λ rest. (refl, rest)
      ] is
    ] none

-- of literals without a fault none has its negation among them, or before
none_negated : (vars : ℕ) (before ls : List Literal) → literal_fault vars before ls ≡ None → (m : Literal) → has ls m ≡ true → (has before (negated m) ≡ true → ⊥) × (has ls (negated m) ≡ true → ⊥)
none_negated vars before [] none m h = absurd (false≢true h)
none_negated vars before (l ∷ ls) none m h =
    let parts : (has before (negated l) ≡ false) × (literal_fault vars (before ++ l ∷ []) ls ≡ None) = fault_parts vars before l ls none in
    let later : (k : Literal) → has ls k ≡ true → (has (before ++ l ∷ []) (negated k) ≡ true → ⊥) × (has ls (negated k) ≡ true → ⊥) = none_negated vars (before ++ l ∷ []) ls parts.1 in
    let pushed : (k : Literal) → has (l ∷ before) k ≡ true → has (before ++ l ∷ []) k ≡ true = λ k there. has-push before l k ∙ there in
    ⊎_elim
    (λ (is : m ≡ l). subst (λ (k : Literal). (has before (negated k) ≡ true → ⊥) × (has (l ∷ ls) (negated k) ≡ true → ⊥)) (sym is) (
      λ there. true≢false (sym there ∙ parts.0),
      λ there. ⊎_elim (λ (same : negated l ≡ l). negated-differs l (sym same))
          (λ inside. (later (negated l) inside).0 (pushed (negated (negated l)) (subst (λ (k : Literal). has (l ∷ before) k ≡ true) (sym (negated-negated l)) (has-first l before))))
          (has-cons l (negated l) ls there),
    ))
    (λ inside. (
      λ there. (later m inside).0 (pushed (negated m) (has-rest l (negated m) before there)),
      λ there. ⊎_elim (λ (same : negated m ≡ l). (later m inside).0 (pushed (negated m) (subst (λ (k : Literal). has (l ∷ before) k ≡ true) (sym same) (has-first l before))))
          (λ further. (later m inside).1 further)
          (has-cons l (negated m) ls there),
    ))
    (has-cons l m ls h)

fine_literals : (vars : ℕ) (database : Database) (id : ℕ) (lits : List Literal) (hints : List ℤ) → step_fault vars database (Addition id lits hints) ≡ None → literal_fault vars [] lits ≡ None
fine_literals vars database id lits hints none =
    elim (nat_le id database.last) as (λ b. cond b (Some (IdOrder database.last id)) (option_or (literal_fault vars [] lits) (outcome_fault (propagate database.held (map negated lits) 1 hints))) ≡ None → literal_fault vars [] lits ≡ None) [
      | true ↦ λ is. absurd cc
      | false ↦ λ is. elim (literal_fault vars [] lits) as (λ (f : Option StepFault). option_or f (outcome_fault (propagate database.held (map negated lits) 1 hints)) ≡ None → f ≡ None) [
        | Some fault ↦ λ k. absurd cc
        | None ↦ λ _. refl
      ] is
    ] none

-- a lemma that is taken has no contradiction, and follows
pub consistent_of_taken : (vars : ℕ) (database : Database) (id : ℕ) (lits : List Literal) (hints : List ℤ) → step_fault vars database (Addition id lits hints) ≡ None → IsConsistent lits × Follows database.held lits hints
consistent_of_taken vars database id lits hints none = (
  λ l h. false_from_ne_true (has lits (negated l)) (none_negated vars [] lits (fine_literals vars database id lits hints none) l h).1,
  follows_unless vars database id lits hints none,
)

-- a run that ends with the empty lemma refutes what it began with
pub ends_unsatisfiable : (vars : ℕ) (old new : Database) (log : List ProofStep) → Run vars old log new → EndsEmpty log → IsUnsatisfiable old.held
ends_unsatisfiable vars old new log run (before, last, is, ends, opens) =
    let whole : Run vars old (before ++ last ∷ []) new = subst (λ (ls : List ProofStep). Run vars old ls new) is run in
    refuted vars old before last new whole ends
