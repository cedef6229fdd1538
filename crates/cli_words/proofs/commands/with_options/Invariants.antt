use Rattle.std.proofs.Common.{◌≡◌, drop}
use Rattle.clap.specs.Words.{app_of}
use Rattle.cli_words.specs.Words.{all_option_rules, with_rules}
use Rattle.cli_words.proofs.commands.with_options.Given as goal

abbrev pub invariant-loop-option : goal.invariant-loop-option
invariant-loop-option l =
    with_rules (app_of l.command) (all_option_rules (drop l.option-index l.options)) ≡ with_rules (app_of l.initial.command) (all_option_rules l.options)
