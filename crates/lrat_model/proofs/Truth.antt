-- What follows is true wherever the clauses held are.
use Rattle.std.proofs.Common.{◌≡◌, ℕ, Bool, true, false, not, ◌||◌, List, [], ◌∷◌, ⊎_elim, refl, sym, subst, arith, cond, map, pos, negsuc, Option, Some, None, ◌+◌, ℤ}
use Rattle.std.specs.List.{list_all}
use Rattle.std.proofs.lemmas.Bool.{or_cases, or_left, or_right, and_parts, false≢true}
use Rattle.std.proofs.Math.Bool.{not-not}
use Rattle.lrat_model.specs.Literal.{Literal, Plus, Minus, negated, same, has, literal_true, clause_true}
use Rattle.lrat_model.specs.Clauses.{Held, clause_at, Satisfies}
use Rattle.lrat_model.specs.Propagation.{not_false, status_of, status, Outcome, Conflict, Stops, Leaves, after_status, after_finding, take_hint, and_then, propagate, Follows}
use Rattle.lrat_model.specs.declared.step.ClauseStatus.{ClauseStatus}
use Rattle.lrat_model.specs.declared.step.ClauseStatus.TheVariants.{Falsified, Forces, Unresolved}
use Rattle.lrat_model.proofs.Literals.{same-true, has-cons}

-- each literal of the list is true
abbrev pub AllTrue : (ℕ → Bool) → List Literal → Type 0
AllTrue v literals = (l : Literal) → has literals l ≡ true → literal_true v l ≡ true

pub literal_true-negated : (v : ℕ → Bool) (l : Literal) → literal_true v (negated l) ≡ not (literal_true v l)
literal_true-negated v (Plus x) = refl
literal_true-negated v (Minus x) = sym (not-not (v x))

pub AllTrue-cons : (v : ℕ → Bool) (l : Literal) (ls : List Literal) → literal_true v l ≡ true → AllTrue v ls → AllTrue v (l ∷ ls)
AllTrue-cons v l ls first rest m e =
    ⊎_elim (λ same. subst (λ k. literal_true v k ≡ true) (sym same) first) (λ there. rest m there) (has-cons l m ls e)

-- a literal whose negation is true is false
false_where_negated : (v : ℕ → Bool) (trues : List Literal) → AllTrue v trues → (l : Literal) → has trues (negated l) ≡ true → literal_true v l ≡ false
false_where_negated v trues all l h =
    let one : literal_true v (negated l) ≡ true = all (negated l) h in
    let two : literal_true v (negated l) ≡ not (literal_true v l) = literal_true-negated v l in
    grind arith

-- a true clause stays true without its false literals
pub clause_true-not_false : (v : ℕ → Bool) (trues : List Literal) → AllTrue v trues → (clause : List Literal) → clause_true v clause ≡ true → clause_true v (not_false trues clause) ≡ true
clause_true-not_false v trues all [] e = e
clause_true-not_false v trues all (l ∷ ls) e =
    elim (has trues (negated l)) as (λ b. has trues (negated l) ≡ b → clause_true v (cond (not b) (l ∷ not_false trues ls) (not_false trues ls)) ≡ true) [
      | true ↦ λ h. clause_true-not_false v trues all ls
          (let no : literal_true v l ≡ false = false_where_negated v trues all l h in
          let yes : (literal_true v l || clause_true v ls) ≡ true = e in grind arith)
      | false ↦ λ h. ⊎_elim (λ here. or_left (literal_true v l) (clause_true v (not_false trues ls)) here)
          (λ there. or_right (literal_true v l) (clause_true v (not_false trues ls)) (clause_true-not_false v trues all ls there))
          (or_cases (literal_true v l) (clause_true v ls) e)
    ] refl

-- where all literals are the same, it is the true one
only_true : (v : ℕ → Bool) (l : Literal) (ls : List Literal) → list_all (same l) ls ≡ true → clause_true v ls ≡ true → literal_true v l ≡ true
only_true v l [] all e = absurd (false≢true e)
only_true v l (m ∷ ls) all e =
    let parts : (same l m ≡ true) × (list_all (same l) ls ≡ true) = and_parts (same l m) (list_all (same l) ls) all in
    ⊎_elim (λ here. subst (λ k. literal_true v k ≡ true) (sym (same-true l m parts.0)) here)
    (λ there. only_true v l ls parts.1 there)
    (or_cases (literal_true v m) (clause_true v ls) e)

-- what a true clause may say: never that it is false, and it forces only what is true
abbrev pub TellsTruth : (ℕ → Bool) → ClauseStatus → Type 0
TellsTruth v Falsified = ⊥
TellsTruth v (Forces l) = literal_true v l ≡ true
TellsTruth v Unresolved = Unit {0}

pub status_of-true : (v : ℕ → Bool) (literals : List Literal) → clause_true v literals ≡ true → TellsTruth v (status_of literals)
status_of-true v [] e = false≢true e
status_of-true v (l ∷ ls) e =
    elim (list_all (same l) ls) as (λ b. list_all (same l) ls ≡ b → TellsTruth v (cond b (Forces l) Unresolved)) [
      | true ↦ λ all. ⊎_elim (λ here. here) (λ there. only_true v l ls all there) (or_cases (literal_true v l) (clause_true v ls) e)
      | false ↦ λ _. tt
    ] refl

pub status-true : (v : ℕ → Bool) (trues : List Literal) → AllTrue v trues → (clause : List Literal) → clause_true v clause ≡ true → TellsTruth v (status trues clause)
status-true v trues all clause e = status_of-true v (not_false trues clause) (clause_true-not_false v trues all clause e)

-- from true literals a hint leads on with true literals, or to a fault
abbrev pub LeavesTrue : (ℕ → Bool) → Outcome → Type 0
LeavesTrue v Conflict = ⊥
LeavesTrue v (Stops fault) = Unit {0}
LeavesTrue v (Leaves trues) = AllTrue v trues

after_status-true : (v : ℕ → Bool) (trues : List Literal) (place : ℕ) → AllTrue v trues → (r : ClauseStatus) → TellsTruth v r → LeavesTrue v (after_status trues place r)
after_status-true v trues place all Falsified never = never
after_status-true v trues place all (Forces l) forced = AllTrue-cons v l trues forced all
after_status-true v trues place all Unresolved _ = tt

after_finding-true : (v : ℕ → Bool) (trues : List Literal) (place id : ℕ) → AllTrue v trues → (found : Option (List Literal)) → ((clause : List Literal) → found ≡ Some clause → clause_true v clause ≡ true) → LeavesTrue v (after_finding trues place id found)
after_finding-true v trues place id all None holds = tt
after_finding-true v trues place id all (Some clause) holds = after_status-true v trues place all (status trues clause) (status-true v trues all clause (holds clause refl))

take_hint-true : (v : ℕ → Bool) (held : Held) → Satisfies v held → (trues : List Literal) (place : ℕ) (hint : ℤ) → AllTrue v trues → LeavesTrue v (take_hint held trues place hint)
take_hint-true v held solves trues place (pos id) all = after_finding-true v trues place id all (clause_at held id) (solves id)
take_hint-true v held solves trues place (negsuc n) all = tt

pub propagate-true : (v : ℕ → Bool) (held : Held) → Satisfies v held → (trues : List Literal) (place : ℕ) (hints : List ℤ) → AllTrue v trues → LeavesTrue v (propagate held trues place hints)
propagate-true v held solves trues place [] all = all
propagate-true v held solves trues place (hint ∷ hints) all =
    elim (take_hint held trues place hint) as (λ e. LeavesTrue v e → LeavesTrue v (and_then e (λ now. propagate held now (place + 1) hints))) [
      | Conflict ↦ λ never. never
      | Stops fault ↦ λ _. tt
      | Leaves now ↦ λ still. propagate-true v held solves now (place + 1) hints still
    ] (take_hint-true v held solves trues place hint all)

-- from true literals, hints lead to no clause that is false
pub no_conflict : (v : ℕ → Bool) (held : Held) → Satisfies v held → (trues : List Literal) (place : ℕ) (hints : List ℤ) → AllTrue v trues → propagate held trues place hints ≡ Conflict → ⊥
no_conflict v held solves trues place hints all e = subst (λ ending. LeavesTrue v ending) e (propagate-true v held solves trues place hints all)

-- the negations of a false clause's literals are true
pub AllTrue-negated : (v : ℕ → Bool) (clause : List Literal) → clause_true v clause ≡ false → AllTrue v (map negated clause)
AllTrue-negated v [] e = λ m h. absurd (false≢true h)
AllTrue-negated v (l ∷ ls) e =
    let first : literal_true v (negated l) ≡ true =
    (let flips : literal_true v (negated l) ≡ not (literal_true v l) = literal_true-negated v l in
    let neither : (literal_true v l || clause_true v ls) ≡ false = e in grind arith) in
    let rest : clause_true v ls ≡ false = (let neither : (literal_true v l || clause_true v ls) ≡ false = e in grind arith) in
    AllTrue-cons v (negated l) (map negated ls) first (AllTrue-negated v ls rest)

pub what_follows_is_true : (held : Held) (clause : List Literal) (hints : List ℤ) (v : ℕ → Bool) → Follows held clause hints → Satisfies v held → clause_true v clause ≡ true
what_follows_is_true held clause hints v follows solves =
    elim (clause_true v clause) as (λ b. clause_true v clause ≡ b → b ≡ true) [
      | true ↦ λ _. refl
      | false ↦ λ e. absurd (no_conflict v held solves (map negated clause) 1 hints (AllTrue-negated v clause e) follows)
    ] refl
