use Rattle.std.proofs.lemmas.Result.{IfOk-weaker}
use Rattle.std.proofs.Common.{◌≡◌, ℕ, List, Some, subst}
use Rattle.cli_words.specs.Order.{order_view}
use Rattle.desk_io.specs.State.{DeskState}
use Rattle.request_reading.specs.Meaning.{ConfigMeans}
use Rattle.request_reading.proofs.Readings.{file_held}
use Rattle.request_reading.proofs.Meanings.{YesMeans-weaker}
use Rattle.request_reading.proofs.reading.over_file.Goals as goal

pub returns-clause-shows : goal.returns-clause-shows
returns-clause-shows g c =
    let o = order_view c.args.order.now in
    let files = (g.D.Desk.state c.args.desk.now).files in
    IfOk-weaker c.over_config.result _ _ (λ asked has is tells. YesMeans-weaker _ _ asked (λ means. record {
      config = c.in_ok-config.config.items;
      held = subst (λ (name : List ℕ). files name ≡ Some c.in_ok-config.config.items) c.deref.ensures (file_held _ (files c.deref.result.now) c.in_ok-config.config.items (c.in_ok-config.ensures.ok tells));
      means = subst (λ (bytes : List ℕ). ConfigMeans o files bytes) c.deref-2.ensures.value (subst (λ (s : DeskState). ConfigMeans o s.files c.deref-2.result.now) (c.in_ok-config.ensures.desk.reads tells) means);
    }) (has is tells)) c.over_config.ensures.shows
