-- The limits as numbers: another number in the code is another promise, and is refused here.
use Rattle.std.proofs.Common.{◌≡◌, refl}
use Rattle.cli_words.specs.declared.budget.TheConstants.{MOST_BUDGET, USUAL_BUDGET}
use Rattle.cli_words.specs.declared.formula.TheConstants.{OLDEST_FORMULA, NEWEST_FORMULA}
use Rattle.cli_words.specs.declared.organisations.TheConstants.{MOST_ORGANISATIONS}

most_budget : MOST_BUDGET ≡ 4000000000
most_budget = refl

usual_budget : USUAL_BUDGET ≡ 1000000
usual_budget = refl

most_organisations : MOST_ORGANISATIONS ≡ 100
most_organisations = refl

oldest_formula : OLDEST_FORMULA ≡ 2
oldest_formula = refl

newest_formula : NEWEST_FORMULA ≡ 3
newest_formula = refl
