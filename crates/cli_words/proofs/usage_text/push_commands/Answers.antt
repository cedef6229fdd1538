use Rattle.std.proofs.Common.{◌++◌, ◌∙◌, ap}
use Rattle.std.proofs.lemmas.List.{at_drop_more}
use Rattle.cli_words.specs.Table.{Row}
use Rattle.cli_words.specs.Usage.{command_lines, row_line}
use Rattle.cli_words.proofs.Texts.{text_more}
use Rattle.cli_words.proofs.usage_text.push_commands.Goals as goal

pub loop-command-preserved : goal.loop-command-preserved
loop-command-preserved c =
    let added = c.in_ok-push_row.ensures ∙ ap (λ (r : Row). c.loop-command.text.items ++ row_line r) c.row_of.ensures in
    text_more command_lines c.args.commands.now c.loop-command.command-index c.loop-command.text.items _ _ _ added (at_drop_more command_lines c.args.commands.now c.loop-command.command-index _ c.loop-command-test.true) c.loop-command.invariant
