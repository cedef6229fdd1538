use Rattle.std.proofs.Common.{ℕ, List, inr, sym, ◌∙◌, ap}
use Rattle.std.proofs.lemmas.Bool.{false≢true}
use Rattle.request_reading.specs.declared.status.Status.TheVariants.{No}
use Rattle.request_reading.specs.declared.reply.Reply.{Reply}
use Rattle.command_run.proofs.solving.available.Goals as goal

pub returns : goal.returns
returns c = inr (record {
  not = λ a. false≢true (sym c.if-available.false ∙ c.available.ensures.available.1 a);
  unmet = c.available.new.scratch;
  places = c.available.ensures.same_n ∙ (c.new-unmet.ensures.size ∙ c.len.ensures.sets);
  are = c.available.ensures.unmet;
  said = c.new.ensures ∙ ap {B = Reply} (λ (t : List ℕ). record { status = No; text = t }) c.in_ok-text.ensures;
})
