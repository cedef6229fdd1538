-- What a search finds over the formula's store is evidence over the formula.
use Rattle.std.proofs.Common.{◌≡◌, ℕ, ◌≤◌, List, subst, arith}
use Rattle.fbas_model.specs.Nodes.{Table}
use Rattle.fbas_model.specs.Fbas.{Fbas}
use Rattle.lrat_model.specs.Steps.{ProofStep, Database}
use Rattle.clause_encoder.specs.declared.limits.TheConstants.{MOST_VARS}
use Rattle.expanded_search.specs.Found.{IsLogOver, IsRefuting, IsSpending}
use Rattle.quorum_questions.specs.Evidence.{IsLog, IsRefutation, IsSpent}
use Rattle.quorum_questions.specs.Searching.{IsFormula}
use Rattle.quorum_questions.specs.declared.answers.Size.{Size}
use Rattle.quorum_questions.specs.declared.searching.Formula.{Formula}
use Rattle.quorum_questions.proofs.Literals.{log_is}

log_over : (f : Fbas) (b : Table) (formula : Formula) (log : List ProofStep) (new : Database) → IsFormula f b formula → IsLogOver formula.size.vars formula.store log new → IsLog f b log new
log_over f b formula log new s l =
    log_is f b formula.size.vars formula.store new log s.size.vars s.store (subst (λ (n : ℕ). n ≤ MOST_VARS) s.size.vars s.size.small) l.run l.lemmas l.bounded l.short l.numbers

pub refutation_over : (f : Fbas) (b : Table) (formula : Formula) (budget : ℕ) (log : List ProofStep) → IsFormula f b formula → IsRefuting formula.size.vars formula.store budget log → IsRefutation f b budget log formula.size
refutation_over f b formula budget log s r = record {
  intersects = s.exact.0 r.refuted;
  sized = s.size;
  new = r.new;
  run = log_over f b formula log r.new s r.run;
  ends = r.ends;
  taken = r.taken;
}

pub spent_over : (f : Fbas) (b : Table) (formula : Formula) (budget : ℕ) (log : List ProofStep) → IsFormula f b formula → IsSpending formula.size.vars formula.store budget log → IsSpent f b budget log formula.size
spent_over f b formula budget log s r = record {
  sized = s.size;
  new = r.new;
  run = log_over f b formula log r.new s r.run;
  unrefuted = r.unrefuted;
  taken = r.taken;
  unclosed = r.unclosed;
  due = r.due;
}

-- what is refuted within few units is within more
pub refutation_within : (f : Fbas) (b : Table) (few budget : ℕ) (log : List ProofStep) (size : Size) → few ≤ budget → IsRefutation f b few log size → IsRefutation f b budget log size
refutation_within f b few budget log size less shown = record {
  intersects = shown.intersects;
  sized = shown.sized;
  new = shown.new;
  run = shown.run;
  ends = shown.ends;
  taken = omega (arith, less, shown.taken);
}
