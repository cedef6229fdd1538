use Rattle.std.proofs.Common.{◌≡◌, List, ◌++◌, ap, sym, subst, ◌∙◌}
use Rattle.lrat_model.specs.Literal.{Literal}
use Rattle.lrat_model.specs.Ranges.{AreInRange}
use Rattle.lrat_model.specs.Runs.{formula_database}
use Rattle.lrat_model.specs.Steps.{Database}
use Rattle.clause_encoder.specs.NameCounter.{counter_vars, counter_of}
use Rattle.clause_encoder.proofs.NameCounts.{square}
use Rattle.clause_encoder.proofs.NameWriting.{counter_in_range}
use Rattle.clause_encoder.proofs.name_counter.counter_clauses.Goals as goal

pub returns-clause-last : goal.returns-clause-last
returns-clause-last c =
    let g = c.args.g in
    let stored : c.into_store.result ≡ formula_database (counter_of g) = c.into_store.ensures.clauses ∙ ap formula_database (c.in_ok-push_rows.ensures ∙ ap (λ (cs : List (List Literal)). cs ++ counter_of g) c.new-clauses.ensures) in
    ap (λ (d : Database). d.last) stored ∙ square g g

pub returns-clause-in_range : goal.returns-clause-in_range
returns-clause-in_range c =
    let g = c.args.g in
    let stored : c.into_store.result ≡ formula_database (counter_of g) = c.into_store.ensures.clauses ∙ ap formula_database (c.in_ok-push_rows.ensures ∙ ap (λ (cs : List (List Literal)). cs ++ counter_of g) c.new-clauses.ensures) in
    subst (λ (d : Database). AreInRange (counter_vars g) d.held) (sym stored) (counter_in_range g)
