use Rattle.std.proofs.Common.{◌≡◌, ◌∙◌, ◌↔◌, sym, subst}
use Rattle.fbas_model.specs.Nodes.{members}
use Rattle.fbas_model.specs.Fbas.{Intersects}
use Rattle.lrat_model.specs.Clauses.{IsUnsatisfiable}
use Rattle.lrat_model.specs.Steps.{Database}
use Rattle.quorum_questions.proofs.searching.start.Goals as goal

pub returns-clause-started : goal.returns-clause-started
returns-clause-started c = λ f b s. record {
  vars = c.in_ok-solver.ensures.vars ∙ s.size.vars;
  database = c.in_ok-solver.ensures.database ∙ s.store;
  log = c.in_ok-solver.ensures.log;
  exact = subst (λ (d : Database). IsUnsatisfiable d.held ↔ Intersects f (members b)) (sym c.in_ok-solver.ensures.database) s.exact;
  map = s.map;
  places = s.places;
  greatest = s.greatest;
  size = s.size;
}
