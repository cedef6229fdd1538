-- The usage text: a line for each command, which follows from its row.
use Rattle.std.specs.Prelude.{List, [], ◌∷◌, ◌++◌, Option, Some, None, codes}
use Rattle.clap.specs.Words.{Text}
use Rattle.cli_words.specs.Table.{Row, commands, common, file_place, flag_id, flag_place, row_of, target_place}
use Rattle.cli_words.specs.declared.orders.Command.{Command}
use Rattle.cli_words.specs.declared.table.SecondFile.{SecondFile}
use Rattle.cli_words.specs.declared.table.Flag.{Flag}
use Rattle.cli_words.specs.declared.table.Parameter.{Parameter}
use Rattle.cli_words.specs.declared.table.Parameter.TheVariants.{Needs, Takes, Common}

-- an option and its value
abbrev pub flag_text : Flag → Text
flag_text flag = codes "--" ++ (flag_id flag ++ (32 ∷ flag_place flag))

-- what may be left out stands in brackets
abbrev pub parameter_text : Parameter → Text
parameter_text (Needs flag) = flag_text flag
parameter_text (Takes flag) = codes "[" ++ (flag_text flag ++ codes "]")
parameter_text Common = codes "[COMMON]"

-- each with a space before it
abbrev pub parameter_texts : List Parameter → Text
parameter_texts [] = []
parameter_texts (parameter ∷ parameters) = (32 ∷ parameter_text parameter) ++ parameter_texts parameters

abbrev pub flag_texts : List Flag → Text
flag_texts [] = []
flag_texts (flag ∷ flags) = (32 ∷ flag_text flag) ++ flag_texts flags

abbrev pub file_text : Option SecondFile → Text
file_text None = []
file_text (Some file) = 32 ∷ file_place file

-- the line of a row: the command's word, its arguments, its options
abbrev pub row_line : Row → Text
row_line row = row.word ++ ((32 ∷ target_place row.target) ++ (file_text row.second ++ (parameter_texts row.options ++ codes "\n")))

abbrev pub command_lines : List Command → Text
command_lines [] = []
command_lines (command ∷ rest) = row_line (row_of command) ++ command_lines rest

-- what `COMMON` stands for
abbrev pub common_line : Text
common_line = codes "COMMON:" ++ (flag_texts common ++ codes "\n")

unfoldable pub usage : Text
usage = codes "usage: quorum_cli COMMAND\n" ++ (command_lines commands ++ common_line)
