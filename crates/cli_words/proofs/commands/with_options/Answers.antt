use Rattle.std.proofs.Common.{◌∙◌, ◌+◌, List, ap, drop, get_or, sym}
use Rattle.std.proofs.lemmas.List.{at_drop_more}
use Rattle.clap.specs.Words.{App, Rule, app_of}
use Rattle.cli_words.specs.Words.{all_option_rules, option_rules, with_rules}
use Rattle.cli_words.specs.declared.table.Parameter.{Parameter}
use Rattle.cli_words.specs.declared.table.Parameter.TheVariants.{Needs}
use Rattle.cli_words.specs.declared.table.Flag.TheVariants.{From}
use Rattle.cli_words.proofs.WordsLemmas.{with_rules-append}
use Rattle.cli_words.proofs.commands.with_options.Goals as goal

pub loop-option-preserved : goal.loop-option-preserved
loop-option-preserved c =
    let options = c.args.options.now in
    let i = c.loop-option.option-index in
    let here : List Rule = option_rules (get_or options i (Needs From)) in
    let before : App = app_of c.loop-option.command in
    ap (λ (app : App). with_rules app (all_option_rules (drop (i + 1) options))) c.in_ok-command.ensures
    ∙ (sym (with_rules-append before here (all_option_rules (drop (i + 1) options)))
    ∙ (sym (at_drop_more (λ (left : List Parameter). with_rules before (all_option_rules left)) options i (Needs From) c.loop-option-test.true)
    ∙ c.loop-option.invariant))
