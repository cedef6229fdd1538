use Rattle.std.proofs.Common.{length, ◌∙◌, ap}
use Rattle.command_run.proofs.solving.formula.Goals as goal

pub formula_text-requires-clause-places : goal.formula_text-requires-clause-places
formula_text-requires-clause-places c = ap (λ m. length m.greatest) c.in-Ok.ensures.variables ∙ c.requires.same_names
