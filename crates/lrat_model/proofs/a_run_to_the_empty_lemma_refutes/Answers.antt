use Rattle.lrat_model.proofs.Runs.{refuted, formula_refuted}
use Rattle.lrat_model.proofs.a_run_to_the_empty_lemma_refutes.Goals as goal

pub returns-clause-held : goal.returns-clause-held
returns-clause-held c = refuted

pub returns-clause-formula : goal.returns-clause-formula
returns-clause-formula c = formula_refuted
