use Rattle.std.proofs.Common.{◌∙◌, ◌+◌, List, ap, drop, get_or, sym}
use Rattle.std.proofs.lemmas.List.{at_drop_more}
use Rattle.cli_words.specs.Words.{command_named, named_among}
use Rattle.cli_words.specs.declared.orders.Command.{Command}
use Rattle.cli_words.specs.declared.orders.Command.TheVariants.{Query}
use Rattle.cli_words.specs.declared.orders.Query.TheVariants.{Show}
use Rattle.cli_words.proofs.WordsLemmas.{named_further, named_here}
use Rattle.cli_words.proofs.command_named.Goals as goal

pub loop-command-preserved : goal.loop-command-preserved
loop-command-preserved c =
    let all = c.all_commands-commands.result.now in
    let i = c.loop-command.command-index in
    let name = c.args.name.now in
    sym (at_drop_more (λ (left : List Command). named_among left name) all i (Query Show) c.loop-command-test.true
    ∙ named_further (get_or all i (Query Show)) (drop (i + 1) all) name (sym c.is_named.ensures ∙ c.if-is_named.false))
    ∙ c.loop-command.invariant

pub returns-then-is_named : goal.returns-then-is_named
unfolding command_named
returns-then-is_named c =
    let all = c.all_commands-commands.result.now in
    let i = c.loop-command.command-index in
    let name = c.args.name.now in
    sym (sym c.loop-command.invariant
    ∙ (at_drop_more (λ (left : List Command). named_among left name) all i (Query Show) c.loop-command-test.true
    ∙ named_here (get_or all i (Query Show)) (drop (i + 1) all) name (sym c.is_named.ensures ∙ c.if-is_named.true)))
    ∙ ap (λ (listed : List Command). named_among listed name) c.all_commands-commands.ensures
