-- The literals of a log have variables in range, since those of its lemmas do.
use Rattle.std.proofs.Common.{◌≡◌, ℕ, ◌+◌, ◌*◌, ◌<◌, ◌≤◌, ◌^◌, List, [], ◌∷◌, length, drop, true, ap, subst, arith}
use Rattle.std.specs.List.{All, AllByRecursion}
use Rattle.std.proofs.lemmas.List.Elements.{All-from_recursion}
use Rattle.lrat_model.specs.Literal.{Literal, has}
use Rattle.lrat_model.specs.Steps.{ProofStep, Addition, Deletion, Database, after_step}
use Rattle.lrat_model.specs.Runs.{Run, formula_database}
use Rattle.lrat_model.proofs.Literals.{has-first, has-rest}
use Rattle.lrat_text.specs.Texts.{IsLiteral, HasNumbers, HasLiterals}
use Rattle.cdcl_core.specs.Log.{AreLemmas, IsBoundedLog, units}
use Rattle.cdcl_core.specs.Solving.{Solving, logged}
use Rattle.cdcl_core.specs.Trail.{IsVariable}
use Rattle.fbas_model.specs.Nodes.{Table}
use Rattle.fbas_model.specs.Fbas.{Fbas}
use Rattle.clause_encoder.specs.declared.limits.TheConstants.{MOST_VARS}
use Rattle.quorum_questions.specs.Evidence.{vars_of, clauses_of, IsLog}

literals_in : (vars : ℕ) (lits : List Literal) → vars < 2 ^ 31 → ((l : Literal) → has lits l ≡ true → IsVariable vars l) → AllByRecursion IsLiteral lits
literals_in vars [] small range = tt
literals_in vars (l ∷ lits) small range =
    let first = range l (has-first l lits) in
    ((first.0, omega (arith, first.1)), literals_in vars lits small (λ m at. range m (has-rest l m lits at)))

literals_of : (vars : ℕ) (old : Database) (log : List ProofStep) → vars < 2 ^ 31 → AreLemmas vars old log → AllByRecursion HasLiterals log
literals_of vars old [] small lemmas = tt
literals_of vars old (Deletion id ids ∷ log) small lemmas = (tt, literals_of vars (after_step old (Deletion id ids)) log small lemmas.1)
literals_of vars old (Addition id lits hints ∷ log) small lemmas =
    (literals_in vars lits small lemmas.0.range, literals_of vars (after_step old (Addition id lits hints)) log small lemmas.1)

pub log_literals : (vars : ℕ) (old : Database) (log : List ProofStep) → vars < 2 ^ 31 → AreLemmas vars old log → All HasLiterals log
log_literals vars old log small lemmas = All-from_recursion HasLiterals log (literals_of vars old log small lemmas)

-- what a solver logs over the formula is a log
pub log_is : (f : Fbas) (b : Table) (vars : ℕ) (old new : Database) (log : List ProofStep) → vars ≡ vars_of f b → old ≡ formula_database (clauses_of f b) → vars_of f b ≤ MOST_VARS → Run vars old log new → AreLemmas vars old log
    → IsBoundedLog vars log → length log ≤ 2 * units log + 1 → All HasNumbers log → IsLog f b log new
log_is f b vars old new log same of_formula small run lemmas bounded short numbers =
    let d = formula_database (clauses_of f b) in
    let run_there : Run (vars_of f b) d log new = subst (λ (x : Database). Run (vars_of f b) x log new) of_formula (subst (λ (n : ℕ). Run n old log new) same run) in
    let lemmas_there : AreLemmas (vars_of f b) d log = subst (λ (x : Database). AreLemmas (vars_of f b) x log) of_formula (subst (λ (n : ℕ). AreLemmas n old log) same lemmas) in
    record {
      run = run_there;
      lemmas = lemmas_there;
      bounded = subst (λ (n : ℕ). IsBoundedLog n log) same bounded;
      short = short;
      numbers = numbers;
      literals = log_literals (vars_of f b) d log (omega (arith, small)) lemmas_there;
    }

-- what a solver logs that had logged nothing over the formula is a log
pub log_of : (f : Fbas) (b : Table) (old new : Solving) → old.vars ≡ vars_of f b → old.database ≡ formula_database (clauses_of f b) → (size : ℕ) → size ≡ vars_of f b → size ≤ MOST_VARS → old.log ≡ []
    → Run old.vars old.database (logged old new) new.database → AreLemmas old.vars old.database (logged old new) → new.vars ≡ old.vars → IsBoundedLog new.vars new.log → length new.log ≤ 2 * units new.log + 1 → All HasNumbers new.log → IsLog f b new.log new.database
log_of f b old new vars of_formula size sized small none run lemmas same bounded short numbers =
    let all : logged old new ≡ new.log = ap (λ (steps : List ProofStep). drop (length steps) new.log) none in
    log_is f b old.vars old.database new.database new.log vars of_formula (subst (λ (n : ℕ). n ≤ MOST_VARS) sized small)
    (subst (λ (steps : List ProofStep). Run old.vars old.database steps new.database) all run)
    (subst (λ (steps : List ProofStep). AreLemmas old.vars old.database steps) all lemmas)
    (subst (λ (n : ℕ). IsBoundedLog n new.log) same bounded) short numbers
