use Rattle.std.proofs.Common.{◌≡◌, ◌++◌, drop}
use Rattle.cli_words.specs.Usage.{parameter_texts}
use Rattle.cli_words.proofs.usage_text.push_parameters.Given as goal

abbrev pub invariant-loop-parameter : goal.invariant-loop-parameter
invariant-loop-parameter l = l.text.items ++ parameter_texts (drop l.parameter-index l.parameters) ≡ l.fn.text.items ++ parameter_texts l.parameters
