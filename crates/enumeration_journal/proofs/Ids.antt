-- Where the clauses of a journal are held.
use Rattle.std.proofs.Common.{◌≡◌, ℕ, ◌<◌, ◌==◌, Bool, true, false, List, [], ◌∷◌, map, cond, refl, sym, ap, subst, arith, inl, inr, Some, None, ℤ}
use Rattle.std.specs.Prelude.{nat_le}
use Rattle.std.specs.Option.{option_or}
use Rattle.std.proofs.lemmas.Bool.{cases_Bool, false_from_ne_true, eqb-true, eq-eqb}
use Rattle.std.proofs.lemmas.Bool.Decides.{nat_tests}
use Rattle.lrat_model.specs.Literal.{Literal, negated}
use Rattle.lrat_model.specs.Clauses.{Held, clause_at, with_clause, without}
use Rattle.lrat_model.specs.Propagation.{propagate}
use Rattle.lrat_model.specs.Steps.{Addition, Deletion, Database, step_fault, after_step, literal_fault, outcome_fault}
use Rattle.lrat_model.specs.declared.step.StepFault.TheVariants.{IdOrder}
use Rattle.lrat_model.proofs.Runs.{clause_at-without}
use Rattle.enumeration_journal.specs.Journals.{JournalLine, SetLine, StepLine, Rules, nothing_held, after_line, JournalRun}
use Rattle.enumeration_journal.specs.declared.kinds.ListKind.{ListKind}

-- no clause is held under an id above the last
abbrev pub AreBelow : Database → Type 0
AreBelow d = (k : ℕ) → d.last < k → clause_at d.held k ≡ None

pub nothing_below : AreBelow nothing_held
nothing_below k h = refl

differ : (id k : ℕ) → id < k → (id == k) ≡ false
differ id k h = false_from_ne_true (id == k) (λ e. absurd (let same = eqb-true id k e in omega arith))

none_more : (held : Held) (id : ℕ) (clause : List Literal) (k : ℕ) → clause_at held k ≡ None → (id == k) ≡ false → clause_at (with_clause held id clause) k ≡ None
none_more [] id clause k was other = ap (λ (b : Bool). cond b (Some clause) None) other
none_more (e ∷ held) id clause k was other =
    elim (e.0 == k) as (λ b. cond b (Some e.1) (clause_at held k) ≡ None → cond b (Some e.1) (clause_at (with_clause held id clause) k) ≡ None) [
      | true ↦ λ h. h
      | false ↦ λ h. none_more held id clause k h other
    ] was

below_with : (d : Database) (id : ℕ) (clause : List Literal) → AreBelow d → d.last < id → AreBelow (record { held = with_clause d.held id clause; last = id })
below_with d id clause before above k h = none_more d.held id clause k (before k (omega arith)) (differ id k h)

-- a clause that is added is found, where its id is new
pub found_new : (held : Held) (id : ℕ) (clause : List Literal) → clause_at held id ≡ None → clause_at (with_clause held id clause) id ≡ Some clause
found_new [] id clause was = ap (λ (b : Bool). cond b (Some clause) None) (eq-eqb id id refl)
found_new (e ∷ held) id clause was =
    elim (e.0 == id) as (λ b. cond b (Some e.1) (clause_at held id) ≡ None → cond b (Some e.1) (clause_at (with_clause held id clause) id) ≡ Some clause) [
      | true ↦ λ h. absurd (cc)
      | false ↦ λ h. found_new held id clause h
    ] was

-- an addition that is taken has an id above the last
id_above : (vars : ℕ) (d : Database) (id : ℕ) (lits : List Literal) (hints : List ℤ) → step_fault vars d (Addition id lits hints) ≡ None → d.last < id
id_above vars d id lits hints h =
    elim (cases_Bool (nat_le id d.last)) [
      | inl low ↦ absurd (let k : cond (nat_le id d.last) (Some (IdOrder d.last id)) (option_or (literal_fault vars [] lits) (outcome_fault (propagate d.held (map negated lits) 1 hints))) ≡ None = h in
          let l : cond true (Some (IdOrder d.last id)) (option_or (literal_fault vars [] lits) (outcome_fault (propagate d.held (map negated lits) 1 hints))) ≡ None = subst (λ (b : Bool). cond b (Some (IdOrder d.last id)) (option_or (literal_fault vars [] lits) (outcome_fault (propagate d.held (map negated lits) 1 hints))) ≡ None) low k in
          cc)
      | inr high ↦ above id d.last high
    ]
  where
    above : (a b : ℕ) → nat_le a b ≡ false → b < a
    above a b e = grind (arith, nat_tests)

none_without : (held : Held) (ids : List ℕ) (k : ℕ) → clause_at held k ≡ None → clause_at (without held ids) k ≡ None
none_without held ids k was =
    elim (clause_at (without held ids) k) as (λ o. clause_at (without held ids) k ≡ o → o ≡ None) [
      | None ↦ λ _. refl
      | Some clause ↦ λ e. absurd (let there = clause_at-without held ids k clause e in cc)
    ] refl

pub below_run : (r : Rules) (kind : ListKind) (old : Database) (lines : List JournalLine) (new : Database) → JournalRun r kind old lines new → AreBelow old → AreBelow new
below_run r kind old [] new run before = subst (λ (d : Database). AreBelow d) (sym run) before
below_run r kind old (SetLine which id u ∷ lines) new run before = below_run r kind (after_line r old (SetLine which id u)) lines new run.2 (below_with old id (r.clause which u) before run.0.0)
below_run r kind old (StepLine (Addition id lits hints) ∷ lines) new run before = below_run r kind (after_step old (Addition id lits hints)) lines new run.2 (below_with old id lits before (id_above (r.vars) old id lits hints run.0))
below_run r kind old (StepLine (Deletion id ids) ∷ lines) new run before = below_run r kind (after_step old (Deletion id ids)) lines new run.2 (λ k h. none_without old.held ids k (before k h))
