use Rattle.std.proofs.Common.{◌≡◌, ◌<◌, ◌++◌, ◌∷◌, [], ◌∙◌, List, true, length, map, take, drop, ap, sym, arith}
use Rattle.std.proofs.lemmas.List.{take_all}
use Rattle.lrat_model.specs.Steps.{ProofStep}
use Rattle.lrat_text.specs.Lent.{lent_step}
use Rattle.lrat_text.specs.Texts.{line_of}
use Rattle.cert_writer.specs.Texts.{joined}
use Rattle.cert_writer.specs.Writing.{Pending}
use Rattle.cert_writer.proofs.WritingLaws.{writes_more, writes_same, writes_failed}
use Rattle.cert_writer.proofs.TextSteps.{lines_more, lines_rest}
use Rattle.cert_writer.proofs.writer.CertWriter.steps.Goals as goal

pub loop-place-preserved : goal.loop-place-preserved
loop-place-preserved g c =
    let log = c.args.log.now in
    let low : c.loop-place.place < length log = omega (arith, c.loop-place-test.true, c.len-place-end.ensures) in
    let one = writes_same _ _ _ _ _ _ _ _ _ (ap (λ (s : ProofStep). line_of s ++ 10 ∷ []) c.step.ensures) c.step-in-loop-place.ensures in
    writes_same _ _ _ _ _ _ _ _ _ (lines_more line_of log c.loop-place.place (lent_step c.step.result) low) (writes_more _ _ _ _ _ _ _ _ _ _ _ _ c.loop-place.invariant one)

pub returns-then-self : goal.returns-then-self
returns-then-self g c =
    let log = c.args.log.now in
    let failed : c.loop-place.self.failed ≡ true = sym (ap (λ (p : Pending). p.failed) c.self.view_is) ∙ c.if-self.true in
    writes_same _ _ _ _ _ _ _ _ _ (lines_rest line_of log c.loop-place.place) (writes_failed _ _ (joined (map line_of (drop c.loop-place.place log))) _ _ _ _ _ _ failed c.loop-place.invariant)

pub returns : goal.returns
returns g c =
    let log = c.args.log.now in
    let all : take c.loop-place.place log ≡ log = take_all c.loop-place.place log (omega (arith, c.loop-place-test.false, c.len-place-end.ensures)) in
    writes_same _ _ _ _ _ _ _ _ _ (ap (λ (steps : List ProofStep). joined (map line_of steps)) all) c.loop-place.invariant
