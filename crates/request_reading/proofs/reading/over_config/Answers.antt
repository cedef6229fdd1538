use Rattle.std.proofs.Common.{subst}
use Rattle.std.proofs.lemmas.Result.{IfOk-weaker}
use Rattle.cli_words.specs.Order.{order_view}
use Rattle.desk_io.specs.State.{DeskState}
use Rattle.request_reading.specs.declared.operands.Operands.{Operands}
use Rattle.request_reading.specs.Answers.{claim_by}
use Rattle.request_reading.specs.Meaning.{HasFile, ShowsClaim}
use Rattle.request_reading.proofs.Readings.{system_read}
use Rattle.request_reading.proofs.Meanings.{YesMeans-weaker, means_by}
use Rattle.request_reading.proofs.reading.over_config.Goals as goal

pub returns-clause-shows : goal.returns-clause-shows
returns-clause-shows g c =
    let k = c.args.order.now.command in
    let o = order_view c.args.order.now in
    let config = c.args.config.now in
    let s : Operands = c.in_ok-operands.operands in
    IfOk-weaker c.command.result _ _ (λ asked has is tells. YesMeans-weaker _ _ asked (λ shows. record {
      system = c.in_ok-system.system;
      read = system_read config c.in_ok-system.system c.in_ok-system.ensures.gives;
      means = means_by k o c.in_ok-system.system config (g.D.Desk.state c.args.desk.now).files s is (c.in_ok-operands.ensures.gives tells)
          (subst (λ (d : DeskState). HasFile (ShowsClaim s.system (claim_by k o.formula config s.system s.orgs s.named)) d.files o.cert) (c.in_ok-operands.ensures.desk.reads tells) shows);
    }) (has is tells)) c.command.ensures.shows
