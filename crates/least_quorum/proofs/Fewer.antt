-- In an assignment of what is held, a quorum of true nodes is smaller than the one listed last.
use Rattle.std.proofs.Common.{◌≡◌, ℕ, zero, suc, ◌+◌, ◌-◌, ◌<◌, ◌≤◌, Bool, true, false, not, ◌||◌, cond, length, refl, sym, ap, ◌∙◌, arith, inl, inr}
use Rattle.std.proofs.lemmas.Bool.{cases_Bool}
use Rattle.fbas_model.specs.Nodes.{Table, members, ◌⊆◌, size}
use Rattle.fbas_model.specs.Restriction.{kept}
use Rattle.fbas_model.proofs.Kept.{HasRanked, ranked}
use Rattle.fbas_model.proofs.RestrictionLaw.{members-kept}
use Rattle.lrat_model.specs.Literal.{clause_true, formula_true}
use Rattle.lrat_model.specs.Clauses.{Satisfies}
use Rattle.cdcl_core.specs.Solving.{Solving}
use Rattle.enumeration_journal.specs.Numbering.{variable_in, assignment_of}
use Rattle.clause_encoder.specs.NameCounter.{counted, counter_of, true_count}
use Rattle.clause_encoder.proofs.NameCounts.{few}
use Rattle.clause_encoder.proofs.FormulaLaw.{true_numbered}
use Rattle.least_journal.proofs.Counts.{assigned_count}
use Rattle.least_quorum.specs.Staying.{Stays, HoldsCounter, clause_of_size}

-- ---- the counter is true

counter_true : (v : ℕ → Bool) (solver : Solving) (g : ℕ) → HoldsCounter solver g → Satisfies v solver.database.held → formula_true v (counter_of g) ≡ true
counter_true v solver g holds solves = true_numbered v 1 (counter_of g) (λ id clause at. solves id clause (holds id clause at).held)

-- ---- how many are true

-- an assignment with more true ones counts more
more_true : (v w : ℕ → Bool) (n : ℕ) → ((x : ℕ) → x < n → w (x + 1) ≡ true → v (x + 1) ≡ true) → true_count w n ≤ true_count v n
more_true v w zero more = omega arith
more_true v w (suc n) more = elim (cases_Bool (w (n + 1))) [
  | inl is ↦
      let one : true_count w (suc n) ≡ true_count w n + 1 = ap (λ (b : Bool). cond b (true_count w n + 1) (true_count w n)) is in
      let two : true_count v (suc n) ≡ true_count v n + 1 = ap (λ (b : Bool). cond b (true_count v n + 1) (true_count v n)) (more n (omega arith) is) in
      omega (arith, one, two, more_true v w n (λ x low there. more x (omega arith) there))
  | inr is ↦
      let one : true_count w (suc n) ≡ true_count w n = ap (λ (b : Bool). cond b (true_count w n + 1) (true_count w n)) is in
      omega (arith, one, grows n, more_true v w n (λ x low there. more x (omega arith) there))
]
  where
    grows : (n : ℕ) → true_count v n ≤ true_count v (suc n)
    grows n = elim (v (n + 1)) as (λ b. true_count v n ≤ cond b (true_count v n + 1) (true_count v n)) [
      | true ↦ omega arith
      | false ↦ omega arith
    ]

module _ (v : ℕ → Bool) (g u : Table) (places : length u ≡ length g) (within : members u ⊆ members g) (trues : (w : ℕ) → members u w ≡ true → v (variable_in g w) ≡ true) where
  assigned_true : (x : ℕ) → x < size g → assignment_of g u (x + 1) ≡ true → v (x + 1) ≡ true
  assigned_true x low is =
      let at : HasRanked g x = ranked g x low in
      let chosen : members (kept g u) x ≡ true = ap (members (kept g u)) (sym (before x)) ∙ is in
      let here : members u at.0 ≡ true = sym (members-kept g u at.0 places at.1) ∙ ap (members (kept g u)) at.2 ∙ chosen in
      ap (λ (n : ℕ). v (n + 1)) (sym at.2) ∙ trues at.0 here
    where
      before : (x : ℕ) → x + 1 - 1 ≡ x
      before x = omega arith

  at_least : size u ≤ true_count v (size g)
  at_least = let count = assigned_count g u (sym places) within in omega (arith, count, more_true v (assignment_of g u) (size g) assigned_true)

pub smaller : (v : ℕ → Bool) (solver : Solving) (g u : Table) (best id : ℕ) → HoldsCounter solver (size g) → Stays solver id (clause_of_size g best) → 0 < best → Satisfies v solver.database.held
    → length u ≡ length g → members u ⊆ members g → ((w : ℕ) → members u w ≡ true → v (variable_in g w) ≡ true) → size u < best
smaller v solver g u best id holds there some solves places within trues =
    let unit : clause_true v (clause_of_size g best) ≡ true = solves id (clause_of_size g best) there.held in
    let off : v (counted (size g) (size g) best) ≡ false = refused (v (counted (size g) (size g) best)) unit in
    omega (arith, few v (size g) (counter_true v solver (size g) holds solves) best some off, at_least v g u places within trues)
  where
    refused : (x : Bool) → (not x || false) ≡ true → x ≡ false
    refused true h = absurd cc
    refused false h = refl
