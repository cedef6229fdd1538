-- Which words are taken, and the order that they give. Options, positionals and their refusals are those that clap states.
use Rattle.std.specs.Prelude.{ℕ, List, [], ◌∷◌, ◌++◌, Bool, true, Option, Some, None, unwrap_or, Result, Ok, Err, if◌then◌else◌}
use Rattle.std.specs.Str.{bytes_eq}
use Rattle.clap.specs.Words.{App, Row as Matched, Rule, Text, fault_of, first_of, matches_of, new_rule, with_rule}
use Rattle.clap.specs.Walk.{is_empty}
use Rattle.clap.specs.Simple.{new_shape}
use Rattle.cli_words.specs.Budget.{budget_of}
use Rattle.cli_words.specs.Formula.{formula_of}
use Rattle.cli_words.specs.Order.{Ordered, has_same_path}
use Rattle.cli_words.specs.Organisations.{organisations_of}
use Rattle.cli_words.specs.Table.{Row, commands, common, file_id, flag_id, row_of, target_id}
use Rattle.cli_words.specs.declared.table.Target.TheVariants.{Config, Organisations}
use Rattle.cli_words.specs.declared.table.SecondFile.{SecondFile}
use Rattle.cli_words.specs.declared.table.SecondFile.TheVariants.{Certificate, Script}
use Rattle.cli_words.specs.declared.table.Flag.{Flag}
use Rattle.cli_words.specs.declared.table.Flag.TheVariants.{From, Faulty, Orgs, FaultyOrgs, Node, Set, Budget, Formula}
use Rattle.cli_words.specs.declared.table.Parameter.{Parameter}
use Rattle.cli_words.specs.declared.table.Parameter.TheVariants.{Needs, Takes, Common}
use Rattle.cli_words.specs.declared.orders.Command.{Command}
use Rattle.cli_words.specs.declared.orders.OrderFault.{OrderFault}
use Rattle.cli_words.specs.declared.orders.OrderFault.TheVariants.{Words, SamePath}

-- ---- the arguments of each command

-- a word that must be there, by its place among these
abbrev pub positional : Text → Rule
positional id = record (new_rule id) { required = true }

-- an option that must be there
abbrev pub needed : Text → Rule
needed id = record (new_rule id) { long = Some id; required = true }

-- an option that may be left out
abbrev pub optional : Text → Rule
optional id = record (new_rule id) { long = Some id }

-- the app with these arguments after its own
abbrev pub with_rules : App → List Rule → App
with_rules app [] = app
with_rules app (rule ∷ rules) = with_rules (with_rule app rule) rules

-- an app of this name and these arguments
abbrev pub app_with : Text → List Rule → App
app_with name rules = record { top = record (new_shape name) { rules = rules }; subs = [] }

abbrev pub optionals : List Flag → List Rule
optionals [] = []
optionals (flag ∷ flags) = optional (flag_id flag) ∷ optionals flags

abbrev pub option_rules : Parameter → List Rule
option_rules (Needs flag) = needed (flag_id flag) ∷ []
option_rules (Takes flag) = optional (flag_id flag) ∷ []
option_rules Common = optionals common

abbrev pub all_option_rules : List Parameter → List Rule
all_option_rules [] = []
all_option_rules (parameter ∷ parameters) = option_rules parameter ++ all_option_rules parameters

abbrev pub file_rules : Option SecondFile → List Rule
file_rules None = []
file_rules (Some file) = positional (file_id file) ∷ []

-- the arguments of a row: what the command is about, its second file, and its options
abbrev pub rules_of_row : Row → List Rule
rules_of_row row = positional (target_id row.target) ∷ (file_rules row.second ++ all_option_rules row.options)

-- the arguments of a command, as clap reads them
unfoldable pub app_for : Command → App
app_for command = app_with (row_of command).word (rules_of_row (row_of command))

-- clap takes the words: it has no kind of refusal for them
unfoldable pub is_taken : App → List Text → Bool
is_taken app words = is_empty (fault_of app words)

-- ---- what is read of words that are taken

-- the first text of an argument, or the empty text
abbrev pub text_of : Text → List Matched → Text
text_of id rows = unwrap_or (first_of id rows) []

-- the texts of a command: what it does not have, or what was not given, is among no rows
abbrev pub order_in : Command → ℕ → ℕ → ℕ → List Matched → Ordered
order_in command budget trial formula rows = record {
  command = command;
  config = text_of (target_id Config) rows;
  cert = text_of (file_id Certificate) rows;
  script = text_of (file_id Script) rows;
  orgs = first_of (flag_id Orgs) rows;
  node = first_of (flag_id Node) rows;
  from = first_of (flag_id From) rows;
  faulty = first_of (flag_id Faulty) rows;
  faulty_orgs = first_of (flag_id FaultyOrgs) rows;
  set = first_of (flag_id Set) rows;
  budget = budget;
  trial = trial;
  formula = formula;
}

-- one path for both files is refused
abbrev pub path_checked : Ordered → Result Ordered OrderFault
path_checked o = if has_same_path o then Err SamePath else Ok o

-- the order of a command's texts with this budget, this many organisations and this version of the formula, if all are numbers
abbrev pub order_with : Command → List Matched → Option ℕ → Option ℕ → Option ℕ → Result Ordered OrderFault
order_with command rows None trial formula = Err Words
order_with command rows (Some budget) None formula = Err Words
order_with command rows (Some budget) (Some trial) None = Err Words
order_with command rows (Some budget) (Some trial) (Some formula) = path_checked (order_in command budget trial formula rows)

-- the order of a command's texts
abbrev pub order_among : Command → List Matched → Result Ordered OrderFault
order_among command rows = order_with command rows (budget_of command (first_of (flag_id Budget) rows)) (organisations_of command (first_of (target_id Organisations) rows)) (formula_of command (first_of (flag_id Formula) rows))

-- the order that a command's own words give, which begin with its name
unfoldable pub order_by : Command → List Text → Result Ordered OrderFault
order_by command words = if is_taken (app_for command) words then order_among command (matches_of (app_for command) words) else Err Words

-- ---- the command line

-- the first of these whose word the name is
abbrev pub named_among : List Command → Text → Option Command
named_among [] name = None
named_among (command ∷ rest) name = if bytes_eq name (row_of command).word then Some command else named_among rest name

-- the command of a name
unfoldable pub command_named : Text → Option Command
command_named name = named_among commands name

-- the order of a command, if there is one
abbrev pub order_if_any : Option Command → List Text → Result Ordered OrderFault
order_if_any None words = Err Words
order_if_any (Some command) words = order_by command words

-- the order of words that begin with the command's name
abbrev pub order_after : List Text → Result Ordered OrderFault
order_after [] = Err Words
order_after (name ∷ rest) = order_if_any (command_named name) (name ∷ rest)

-- the order of the words, which begin with the program's name
abbrev pub order_of : List Text → Result Ordered OrderFault
order_of [] = Err Words
order_of (program ∷ words) = order_after words
