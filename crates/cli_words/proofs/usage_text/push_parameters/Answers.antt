use Rattle.std.proofs.lemmas.List.{at_drop_more}
use Rattle.cli_words.specs.Usage.{parameter_texts}
use Rattle.cli_words.proofs.Texts.{text_more}
use Rattle.cli_words.proofs.usage_text.push_parameters.Goals as goal

pub loop-parameter-preserved : goal.loop-parameter-preserved
loop-parameter-preserved c =
    text_more parameter_texts c.args.parameters.now c.loop-parameter.parameter-index c.loop-parameter.text.items _ _ _ c.in_ok-push_parameter.ensures (at_drop_more parameter_texts c.args.parameters.now c.loop-parameter.parameter-index _ c.loop-parameter-test.true) c.loop-parameter.invariant
