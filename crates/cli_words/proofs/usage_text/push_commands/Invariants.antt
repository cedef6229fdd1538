use Rattle.std.proofs.Common.{◌≡◌, ◌++◌, drop}
use Rattle.cli_words.specs.Usage.{command_lines}
use Rattle.cli_words.proofs.usage_text.push_commands.Given as goal

abbrev pub invariant-loop-command : goal.invariant-loop-command
invariant-loop-command l = l.text.items ++ command_lines (drop l.command-index l.commands) ≡ l.fn.text.items ++ command_lines l.commands
