-- The formula that is searched, a search over it that has not begun, and how one ends.
use Rattle.std.specs.Prelude.{◌≡◌, ◌↔◌, ℕ, Bool, ◌≤◌, [], List, length, All}
use Rattle.fbas_model.specs.Nodes.{Table, members}
use Rattle.fbas_model.specs.Fbas.{Fbas, Intersects, IsGreatestQuorum, all_nodes}
use Rattle.greatest_quorum.specs.Greatest.{greatest_of}
use Rattle.lrat_model.specs.Clauses.{IsUnsatisfiable, Satisfies, numbered}
use Rattle.lrat_model.specs.Ranges.{AreInRange}
use Rattle.lrat_model.specs.Runs.{formula_database}
use Rattle.lrat_text.specs.Texts.{HasNumbers}
use Rattle.clause_encoder.specs.declared.version.Version.TheVariants.{Three}
use Rattle.clause_encoder.specs.Variables.{Variables}
use Rattle.clause_encoder.specs.Formula.{formula_clauses}
use Rattle.clause_encoder.specs.Meaning.{value_of}
use Rattle.quorum_questions.specs.Evidence.{vars_of, clauses_of, IsSize, IsRefutation, IsWitness, IsSpent, Shows}
use Rattle.quorum_questions.specs.declared.asking.TheConstants.{MOST_UNITS}
use Rattle.quorum_questions.specs.declared.answers.Answer.{Answer}
use Rattle.quorum_questions.specs.declared.searching.Asked.{Asked}
use Rattle.quorum_questions.specs.declared.searching.Formula.{Formula}
use Rattle.quorum_questions.specs.declared.searching.Search.{Search}
use Rattle.quorum_questions.specs.declared.searching.End.{End}
use Rattle.quorum_questions.specs.declared.searching.End.TheVariants.{Told, Refuted, Spent}

-- what may be asked: the faulty nodes are given for each node of the system, and the units are few
pub record IsAsked (asked : Asked) : Type 0 where
  pub same_n : length asked.faulty.now ≡ length asked.system.now.sets
  pub few : asked.budget ≤ MOST_UNITS

abbrev pub IsAnswerTo : Asked → Answer → Type 0
IsAnswerTo asked = Shows asked.system.now.sets asked.faulty.now asked.budget

-- the intersection formula once b is deleted, what its variables stand for, and its size
pub record IsFormula (f : Fbas) (b : Table) (formula : Formula) : Type 0 where
  pub store : formula.store ≡ formula_database (clauses_of f b)
  pub range : AreInRange formula.size.vars formula.store.held
  pub exact : IsUnsatisfiable formula.store.held ↔ Intersects f (members b)
  pub map : formula.map ≡ record { greatest = greatest_of f b; count = vars_of f b }
  pub places : length formula.map.greatest ≡ length f
  pub greatest : IsGreatestQuorum f (members b) (all_nodes f) (members formula.map.greatest)
  pub size : IsSize f b formula.size

abbrev pub IsFormulaFor : Asked → Formula → Type 0
IsFormulaFor asked = IsFormula asked.system.now.sets asked.faulty.now

-- the solver holds the intersection formula once b is deleted, and has logged nothing
pub record IsStarted (f : Fbas) (b : Table) (s : Search) : Type 0 where
  pub vars : s.solver.vars ≡ vars_of f b
  pub database : s.solver.database ≡ formula_database (clauses_of f b)
  pub log : s.solver.log ≡ []
  pub exact : IsUnsatisfiable s.solver.database.held ↔ Intersects f (members b)
  pub map : s.map ≡ record { greatest = greatest_of f b; count = vars_of f b }
  pub places : length s.map.greatest ≡ length f
  pub greatest : IsGreatestQuorum f (members b) (all_nodes f) (members s.map.greatest)
  pub size : IsSize f b s.size

abbrev pub IsStartedFor : Asked → Search → Type 0
IsStartedFor asked = IsStarted asked.system.now.sets asked.faulty.now

-- the values of the formula's variables make its clauses true
pub record Tells (asked : Asked) (map : Variables) (values : List Bool) : Type 0 where
  pub places : length map.greatest ≡ length asked.system.now.sets
  pub greatest : IsGreatestQuorum asked.system.now.sets (members asked.faulty.now) (all_nodes asked.system.now.sets) (members map.greatest)
  pub valued : length values ≡ map.count
  pub satisfied : Satisfies (value_of values) (numbered 1 (formula_clauses Three asked.system.now.sets asked.faulty.now map.greatest))

-- what the end of a search shows, where the numbers of its log are in range, as they are once the solver hands it out
abbrev pub Ends : Fbas → Table → ℕ → Search → End → Type 0
Ends f b budget s (Told pair) = IsWitness f b pair
Ends f b budget s Refuted = All HasNumbers s.solver.log → IsRefutation f b budget s.solver.log s.size
Ends f b budget s Spent = All HasNumbers s.solver.log → IsSpent f b budget s.solver.log s.size
