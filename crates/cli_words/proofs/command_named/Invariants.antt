use Rattle.std.proofs.Common.{◌≡◌, drop}
use Rattle.cli_words.specs.Words.{named_among}
use Rattle.cli_words.proofs.command_named.Given as goal

abbrev pub invariant-loop-command : goal.invariant-loop-command
invariant-loop-command l = named_among (drop l.command-index l.commands) l.name ≡ named_among l.commands l.name
