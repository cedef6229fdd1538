use Rattle.std.proofs.Common.{◌∙◌}
use Rattle.cli_words.specs.Order.{order_view}
use Rattle.request_reading.proofs.Trials.{trial_read}
use Rattle.request_reading.proofs.reading.over_trial.Goals as goal

pub returns-clause-gives : goal.returns-clause-gives
returns-clause-gives c = trial_read (order_view c.args.order.now) c.in_ok-text.field-0.system c.as_bytes.result.now c.in_ok-search.search c.in_ok-text.ensures.read (c.as_bytes.ensures.value ∙ c.in_ok-text.ensures.text) c.in_ok-search.ensures.gives
