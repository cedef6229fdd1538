-- What shows the answer to a question.
use Rattle.std.specs.Prelude.{◌≡◌, ℕ, ◌+◌, ◌*◌, ◌≤◌, List, length, All}
use Rattle.fbas_model.specs.Nodes.{Table, members}
use Rattle.fbas_model.specs.Fbas.{Fbas, Intersects}
use Rattle.greatest_quorum.specs.Greatest.{greatest_of}
use Rattle.lrat_model.specs.Literal.{Literal}
use Rattle.lrat_model.specs.Steps.{ProofStep, Database}
use Rattle.lrat_model.specs.Runs.{Run, formula_database}
use Rattle.lrat_model.specs.Propagation.{Closes}
use Rattle.lrat_model.specs.Lemmas.{IsDue}
use Rattle.lrat_text.specs.Texts.{HasNumbers, HasLiterals}
use Rattle.cdcl_core.specs.Log.{AreLemmas, EndsEmpty, HasNoEmptyLemma, IsBoundedLog, units}
use Rattle.clause_encoder.specs.Formula.{formula_clauses, formula_vars}
use Rattle.clause_encoder.specs.declared.version.Version.TheVariants.{Three}
use Rattle.clause_encoder.specs.declared.limits.TheConstants.{MOST_VARS, MOST_CLAUSES}
use Rattle.witness_pair.specs.Pairs.{IsPair}
use Rattle.witness_pair.specs.declared.Pair.{Pair}
use Rattle.quorum_questions.specs.declared.answers.Size.{Size}
use Rattle.quorum_questions.specs.declared.answers.Answer.{Answer}
use Rattle.quorum_questions.specs.declared.answers.Answer.TheVariants.{Yes, No, Spent}

-- the intersection formula once b is deleted, each gate once on a side: its variables, and its clauses
abbrev pub vars_of : Fbas → Table → ℕ
vars_of f b = formula_vars Three f b (greatest_of f b)

abbrev pub clauses_of : Fbas → Table → List (List Literal)
clauses_of f b = formula_clauses Three f b (greatest_of f b)

-- how many variables and clauses the formula has
pub record IsSize (f : Fbas) (b : Table) (size : Size) : Type 0 where
  pub vars : size.vars ≡ vars_of f b
  pub clauses : size.clauses ≡ length (clauses_of f b)
  pub small : size.vars ≤ MOST_VARS
  pub few : size.clauses ≤ MOST_CLAUSES

-- a log over the formula: from its clauses to what is held at the end, each step is taken and is a lemma that is useful where it has a literal, or a deletion of such lemmas within the bounds, and its line says it; there is at most one step more than twice the units
pub record IsLog (f : Fbas) (b : Table) (log : List ProofStep) (new : Database) : Type 0 where
  pub run : Run (vars_of f b) (formula_database (clauses_of f b)) log new
  pub lemmas : AreLemmas (vars_of f b) (formula_database (clauses_of f b)) log
  pub bounded : IsBoundedLog (vars_of f b) log
  pub short : length log ≤ 2 * units log + 1
  pub numbers : All HasNumbers log
  pub literals : All HasLiterals log

-- every two quorums share a node: the log ends with the empty lemma, which stands nowhere else in it, and takes at most these units
pub record IsRefutation (f : Fbas) (b : Table) (budget : ℕ) (log : List ProofStep) (size : Size) : Type 0 where
  pub intersects : Intersects f (members b)
  pub sized : IsSize f b size
  pub new : Database
  pub run : IsLog f b log new
  pub ends : EndsEmpty log
  pub taken : units log ≤ budget

-- two quorums that share no node
pub record IsWitness (f : Fbas) (b : Table) (p : Pair) : Type 0 where
  pub apart : IsPair f (members b) p
  pub first : length p.first ≡ length f
  pub second : length p.second ≡ length f

-- the budget is spent: the log has no empty lemma and takes exactly these units, what is held at its end does not close, and a lemma was due
pub record IsSpent (f : Fbas) (b : Table) (budget : ℕ) (log : List ProofStep) (size : Size) : Type 0 where
  pub sized : IsSize f b size
  pub new : Database
  pub run : IsLog f b log new
  pub unrefuted : HasNoEmptyLemma log
  pub taken : units log ≡ budget
  pub unclosed : Closes new.held → ⊥
  pub due : IsDue new.held

-- what an answer shows of a system once b is deleted, where the search had these units
abbrev pub Shows : Fbas → Table → ℕ → Answer → Type 0
Shows f b budget (Yes log size) = IsRefutation f b budget log size
Shows f b budget (No pair) = IsWitness f b pair
Shows f b budget (Spent log size) = IsSpent f b budget log size
