use Rattle.std.proofs.Common.{List, ℕ, ◌∙◌, ap}
use Rattle.request_reading.specs.declared.status.Status.TheVariants.{Yes}
use Rattle.request_reading.specs.declared.reply.Reply.{Reply}
use Rattle.command_run.proofs.solving.greatest.Goals as goal

pub returns : goal.returns
returns c = record {
  quorum = c.greatest-quorum.result;
  places = c.greatest-quorum.ensures.same_n;
  is = c.greatest-quorum.ensures.greatest;
  said = c.new.ensures ∙ ap {B = Reply} (λ (t : List ℕ). record { status = Yes; text = t }) c.in_ok-text.ensures;
}
