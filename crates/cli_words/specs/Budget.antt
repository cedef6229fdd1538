-- The budget that a command line gives.
use Rattle.std.specs.Prelude.{ℕ, List, Option, Some, None, if◌then◌else◌}
use Rattle.cli_words.specs.Numbers.{number_between}
use Rattle.cli_words.specs.declared.budget.TheConstants.{MOST_BUDGET, USUAL_BUDGET}
use Rattle.cli_words.specs.declared.orders.Command.{Command}
use Rattle.cli_words.specs.Table.{has_budget}

-- the units that a text says, if it is a number and not too many
abbrev pub units_in : List ℕ → Option ℕ
units_in text = number_between 0 MOST_BUDGET text

-- the units of a search by the text of its option
abbrev pub budget_in : Option (List ℕ) → Option ℕ
budget_in None = Some USUAL_BUDGET
budget_in (Some text) = units_in text

-- a command without that option has none
abbrev pub budget_of : Command → Option (List ℕ) → Option ℕ
budget_of command text = if has_budget command then budget_in text else Some 0
