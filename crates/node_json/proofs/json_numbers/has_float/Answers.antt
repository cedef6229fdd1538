use Rattle.std.proofs.Common.{◌∙◌, ap}
use Rattle.std.specs.Float.{float_is_finite}
use Rattle.node_json.proofs.JsonNumbers.{in_range-float}
use Rattle.node_json.proofs.json_numbers.has_float.Goals as goal

pub returns : goal.returns
returns c = c.is_finite.ensures.value ∙ ap float_is_finite c.to_float-nearest.ensures ∙ in_range-float c.args.negative c.args.numeral.now
