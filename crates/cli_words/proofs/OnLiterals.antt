-- What a proof unfolds to compute `order_of` at words that are written out.
use Rattle.std.specs.Prelude.{⊤}
use Rattle.clap.proofs.OnLiterals.{clap_on_literals}
use Rattle.cli_words.specs.Table.{row_of}
use Rattle.cli_words.specs.Words.{app_for, command_named, is_taken, order_by}

unfoldable pub words_on_literals : ⊤
unfolding clap_on_literals row_of app_for command_named is_taken order_by
words_on_literals = tt
