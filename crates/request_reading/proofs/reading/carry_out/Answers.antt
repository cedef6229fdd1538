use Rattle.std.proofs.Common.{rules, sym}
use Rattle.std.proofs.lemmas.Result.{IfOk-weaker}
use Rattle.request_reading.proofs.Trials.{checked_over_configuration}
use Rattle.request_reading.proofs.reading.carry_out.Goals as goal

pub returns-clause-shows : goal.returns-clause-shows
returns-clause-shows g c = IfOk-weaker c.over_trial.result _ _ (λ asked fits is tells. absurd (checked_over_configuration c.args.order.now.command is (sym c.if-has_configuration.ensures))) c.over_trial.ensures.fits

-- (by names that stay where another body is tried)
pub returns-then-has_configuration-clause-gives : goal.returns-then-has_configuration-clause-gives
returns-then-has_configuration-clause-gives g c = λ tells. rw (sym c.if-has_configuration.ensures) (search rules)
