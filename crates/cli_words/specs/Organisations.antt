-- How many organisations the trial of a command line has.
use Rattle.std.specs.Prelude.{ℕ, List, Option, Some, None, if◌then◌else◌}
use Rattle.cli_words.specs.Numbers.{number_between}
use Rattle.cli_words.specs.declared.organisations.TheConstants.{MOST_ORGANISATIONS}
use Rattle.cli_words.specs.declared.orders.Command.{Command}
use Rattle.cli_words.specs.Table.{has_configuration}

-- the number that a text says, if it is one from 1 on and not too large
abbrev pub organisations_in : Option (List ℕ) → Option ℕ
organisations_in None = None
organisations_in (Some text) = number_between 1 MOST_ORGANISATIONS text

-- a command about a configuration has none
abbrev pub organisations_of : Command → Option (List ℕ) → Option ℕ
organisations_of command text = if has_configuration command then Some 0 else organisations_in text
