use Rattle.std.proofs.Common.{ap, ◌≡◌, ◌∙◌, []}
use Rattle.std.proofs.lemmas.Result.{IfOk-weaker}
use Rattle.clap.specs.Words.{App, Text, app_of, rule_of, with_rule}
use Rattle.cli_words.specs.Table.{Row, row_view, target_id}
use Rattle.cli_words.specs.Words.{all_option_rules, app_for, app_with, file_rules, positional, rules_of_row, with_rules}
use Rattle.cli_words.proofs.WordsLemmas.{app_by_parts}
use Rattle.cli_words.proofs.commands.arguments_of.Goals as goal

pub returns : goal.returns
unfolding app_for
returns c =
    let row : Row = row_view c.row_of-row.result in
    let new : App = app_with row.word [] in
    let about : app_of c.in_ok-command.command ≡ with_rule new (positional (target_id row.target)) =
    c.in_ok-command.ensures.shape c.positional.ensures.local
    ∙ (ap (λ (app : App). with_rule app (rule_of c.positional.result)) c.new.ensures.app
    ∙ (ap (with_rule new) c.positional.ensures.rule ∙ ap (λ (id : Text). with_rule new (positional id)) c.id.ensures)) in
    let file : app_of c.in_ok-command-2.command ≡ with_rules (with_rule new (positional (target_id row.target))) (file_rules row.second) =
    c.in_ok-command-2.ensures ∙ ap (λ (app : App). with_rules app (file_rules row.second)) about in
    IfOk-weaker c.with_options.result _ _ (λ a h. h
    ∙ (ap (λ (app : App). with_rules app (all_option_rules row.options)) file
    ∙ (app_by_parts row ∙ ap (λ (r : Row). app_with r.word (rules_of_row r)) c.row_of-row.ensures))) c.with_options.ensures
