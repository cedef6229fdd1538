use Rattle.std.proofs.Common.{◌≡◌, Ok, sym, ◌∙◌}
use Rattle.std.proofs.lemmas.Result.{IfOk-weaker}
use Rattle.lrat_model.specs.Steps.{step_of}
use Rattle.lrat_text.specs.Texts.{HasNumbers}
use Rattle.lrat_text.specs.Lines.{after_id}
use Rattle.lrat_text.proofs.SaysLaws.{after_numbers}
use Rattle.lrat_text.proofs.reading.read_step.Goals as goal

pub returns-clause-numbers : goal.returns-clause-numbers
returns-clause-numbers c =
    IfOk-weaker c.read_after_id.result (λ step. after_id c.in-Some-read.id c.next.new.self ≡ Ok (step_of step)) (λ step. HasNumbers (step_of step))
    (λ step k. after_numbers c.in-Some.first.now c.next.new.self c.in-Some-read.id (step_of step) (sym c.read.ensures ∙ c.in-Some-read.is) k) c.read_after_id.ensures.ok
