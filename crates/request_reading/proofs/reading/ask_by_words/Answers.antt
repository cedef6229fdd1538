use Rattle.std.proofs.Common.{subst}
use Rattle.std.proofs.lemmas.Result.{IfOk-weaker}
use Rattle.cli_words.specs.Order.{order_view}
use Rattle.request_reading.specs.Meaning.{ChecksFile}
use Rattle.request_reading.proofs.Meanings.{YesMeans-weaker}
use Rattle.request_reading.proofs.reading.ask_by_words.Goals as goal

pub returns-clause-shows : goal.returns-clause-shows
returns-clause-shows g c = IfOk-weaker c.carry_out-asked.result _ _ (λ asked names is tells. YesMeans-weaker _ _ asked (λ means. record { order = order_view c.in_ok-order.order; taken = c.in_ok-order.ensures.ok; means = means }) (names (subst ChecksFile c.in_ok-order.ensures.ok is) tells)) c.carry_out-asked.ensures.shows
