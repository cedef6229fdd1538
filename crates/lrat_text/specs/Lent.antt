-- Steps that are borrowed.
use Rattle.std.specs.Prelude.{List, map, ℤ, pos}
use Rattle.lrat_model.specs.Steps.{ProofStep, Addition, Deletion}
use Rattle.lrat_text.specs.declared.lent.HintsRef.{HintsRef}
use Rattle.lrat_text.specs.declared.lent.HintsRef.TheVariants.{Short, Wide}
use Rattle.lrat_text.specs.declared.lent.StepRef.{StepRef}
use Rattle.lrat_text.specs.declared.lent.StepRef.TheVariants.{Add, Delete}

-- the hints, however wide they are kept
abbrev pub lent_hints : HintsRef → List ℤ
lent_hints (Short ids) = map pos ids.now
lent_hints (Wide hints) = hints.now

-- what a step that is borrowed says
abbrev pub lent_step : StepRef → ProofStep
lent_step (Add id lits hints) = Addition id lits.now (lent_hints hints)
lent_step (Delete id ids) = Deletion id ids.now
