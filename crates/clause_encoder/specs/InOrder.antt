-- What a store with the ids from 1 on shows.
use Rattle.std.specs.Prelude.{◌≡◌, ◌≤◌, List, map}
use Rattle.lrat_model.specs.Literal.{Literal}
use Rattle.lrat_model.specs.Clauses.{Held}
use Rattle.lrat_model.specs.Runs.{formula_database}
use Rattle.clause_encoder.specs.declared.limits.TheConstants.{MOST_CLAUSES}
use Rattle.clause_encoder.specs.declared.clauses.Clauses.TheInside.{Inside}

-- the clauses held, without their ids
abbrev pub clauses_of : Held → List (List Literal)
clauses_of held = map (λ e. e.1) held

abbrev pub shown : Inside → List (List Literal)
shown c = clauses_of c.store.held

pub record IsInOrder (c : Inside) : Type 0 where
  pub clauses : c.store ≡ formula_database (clauses_of c.store.held)
  pub few : c.store.last ≤ MOST_CLAUSES
