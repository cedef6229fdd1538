use Rattle.std.proofs.Common.{◌&&◌, Result, Ok, inl, inr, ap, ◌∙◌}
use Rattle.std.proofs.lemmas.Result.{IfErr-weaker}
use Rattle.lrat_model.specs.Steps.{ProofStep, step_of, after_step, progress_of}
use Rattle.lrat_model.specs.Rules.{step_fault_by}
use Rattle.cert_lines.specs.declared.faults.CertError.{CertError}
use Rattle.reach_kinds.specs.Bodies.{and_then, holding, adds_covered, asks_steps, counted, literal_in}
use Rattle.reach_kinds.proofs.Refused.{refused_so}
use Rattle.certificate_file.specs.Acceptance.{extent, after_progress, take_step}
use Rattle.certificate_file.proofs.proving.add_step.Goals as goal

pub returns-clause-err : goal.returns-clause-err
returns-clause-err c =
    let now = c.args.checker.now in
    let l = c.args.line in
    let n = c.args.units.now in
    let to = c.args.to in
    let step = step_of c.in_ok-fit.fit in
    let fit = rw c.extent-kind.ensures at c.in_ok-fit.ensures.ok in
    IfErr-weaker c.take_counted_step.result _ _ (λ e came. elim came [
      | inl memory ↦ inl memory
      | inr refused ↦
          let said = rw c.extent-kind.ensures at refused in
          inr (λ h.
          ap (λ (s : Result ProofStep CertError). and_then (take_step l to h now n) (and_then (literal_in (extent to) l) s)) c.in_ok-step.ensures.ok
          ∙ ap (and_then (take_step l to h now n)) fit
          ∙ refused_so l (asks_steps (extent to) && adds_covered now.database.held step) (step_fault_by now.rule now.vars now.database step) _ (Ok (after_progress to h (holding now (after_step now.database step)) (counted n step) (progress_of step))) e said)
    ]) c.take_counted_step.ensures.err
