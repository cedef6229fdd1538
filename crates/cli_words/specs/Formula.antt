-- The version of the formula that a command line asks for.
use Rattle.std.specs.Prelude.{ℕ, List, Option, Some, None, if◌then◌else◌}
use Rattle.cli_words.specs.Numbers.{number_between}
use Rattle.cli_words.specs.declared.formula.TheConstants.{OLDEST_FORMULA, NEWEST_FORMULA}
use Rattle.cli_words.specs.declared.orders.Command.{Command}
use Rattle.cli_words.specs.Table.{has_formula}

-- the version by the text of its option: the newest if none is asked for
abbrev pub formula_in : Option (List ℕ) → Option ℕ
formula_in None = Some NEWEST_FORMULA
formula_in (Some text) = number_between OLDEST_FORMULA NEWEST_FORMULA text

-- a command without that option has none
abbrev pub formula_of : Command → Option (List ℕ) → Option ℕ
formula_of command text = if has_formula command then formula_in text else Some 0
