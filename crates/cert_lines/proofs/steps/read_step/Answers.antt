use Rattle.std.proofs.Common.{rules, ◌≡◌, ◌+◌, ◌++◌, [], ℕ, List, true, Bool, if◌then◌else◌, refl, ap, sym, subst, ◌∙◌, arith, append_assoc, Err, inr}
use Rattle.std.proofs.lemmas.Bool.{false≢true}
use Rattle.std.proofs.lemmas.List.{append-nil}
use Rattle.desk_io.specs.State.{left_of}
use Rattle.desk_io.specs.declared.Which.TheVariants.{Cert}
use Rattle.lrat_text.specs.Words.{words_of}
use Rattle.lrat_text.specs.Lines.{step_in}
use Rattle.lrat_stream.specs.Outline.{outline_in}
use Rattle.lrat_stream.specs.Ahead.{ahead}
use Rattle.lrat_stream.proofs.WordSteps.{moved}
use Rattle.cert_lines.specs.Taking.{goes_on, TookLine}
use Rattle.cert_lines.proofs.Ends.{on_cert}
use Rattle.cert_lines.proofs.StepStarts.{at_start}
use Rattle.cert_lines.proofs.Takings.{more_part, long_line}
use Rattle.cert_lines.proofs.steps.read_step.Goals as goal

pub parts-init : goal.parts-init
parts-init g c =
    let checker = c.args.checker.now in
    let reader = c.restart.new.self in
    let left = left_of Cert (g.D.Desk.state c.args.desk.now) in
    record {
      suffix = (
        [],
        λ off. (refl, off),
        λ n before bytes took. subst (λ (xs : List ℕ). TookLine g.D.Desk.tells n before xs c.args.first c.args.lines.now left) (sym (append-nil bytes)) took,
        λ more. at_start checker.rule checker.vars checker.database reader checker.open_addition (c.args.lines.now.part ++ more) c.restart.ensures.stage c.restart.ensures.begun,
      );
      few = c.requires.few;
      fits = search rules;
      solid = search rules;
      database = refl;
      rule = refl;
      vars = refl;
      rest = search rules;
      writes = search rules;
      reads = search rules;
    }

pub parts-preserved : goal.parts-preserved
parts-preserved g c =
    let first = c.args.lines.now.part in
    let next = c.take_part.new.self in
    let end = c.in_ok-end.end in
    let suffix = c.parts.invariant.suffix.0 in
    let checker = c.args.checker.now in
    let reader = c.parts.reader in
    let open_now = c.parts.checker.open_addition in
    let later = c.part-in-parts.new.self in
    let left = left_of Cert (g.D.Desk.state c.parts.desk) in
    let left_later = left_of Cert (g.D.Desk.state c.take_part.new.desk) in
    let on : goes_on c.parts.end ≡ true = sym c.goes_on.ensures ∙ c.parts-test.true in
    record {
      suffix = (
        suffix ++ next.part,
        λ off. absurd (false≢true (sym (c.parts.invariant.suffix.1 off).1 ∙ on)),
        λ n before bytes took.
            subst (λ (xs : List ℕ). TookLine g.D.Desk.tells n before xs end next left_later) (append_assoc bytes suffix next.part)
            (more_part g.D.Desk.tells n before (bytes ++ suffix) c.parts.end c.parts.lines left end next left_later on (c.parts.invariant.suffix.2 n before bytes took) c.in_ok-end.ensures.part),
        λ more.
            ap (λ (xs : List ℕ). outline_in checker.rule checker.vars checker.database (step_in (first ++ xs))) (append_assoc suffix next.part more)
            ∙ c.parts.invariant.suffix.3 (next.part ++ more)
            ∙ ap (λ (xs : List ℕ). ahead checker.rule checker.vars checker.database reader.words open_now (words_of (reader.begun.items ++ (xs ++ (next.part ++ more))))) (sym c.part.ensures)
            ∙ moved checker.rule c.parts.checker.rule checker.vars c.parts.checker.vars checker.database c.parts.checker.database c.parts.invariant.rule c.parts.invariant.vars c.parts.invariant.database reader.words later.words open_now c.part-in-parts.new.checker.open_addition (words_of (reader.begun.items ++ (c.part.result.now ++ (next.part ++ more)))) (words_of (later.begun.items ++ (next.part ++ more))) (c.in_ok-part.ensures.ahead (next.part ++ more)),
      );
      few = λ further.
          let number = c.in_ok-end.ensures.part.number ∙ ap (λ (b : Bool). if b then c.parts.lines.number else c.parts.lines.number + 1) further in
          let few = c.parts.invariant.few on in omega (arith, number, few);
      fits = c.in_ok-part.ensures.fits;
      solid = c.in_ok-part.ensures.solid;
      database = c.in_ok-part.ensures.database ∙ c.parts.invariant.database;
      rule = c.in_ok-part.ensures.rule ∙ c.parts.invariant.rule;
      vars = c.in_ok-part.ensures.vars ∙ c.parts.invariant.vars;
      rest = search rules;
      writes = search rules;
      reads = search rules;
    }

pub returns-in_err-end-clause-err : goal.returns-in_err-end-clause-err
returns-in_err-end-clause-err g c =
    let left = left_of Cert (g.D.Desk.state c.parts.desk) in
    let suffix = c.parts.invariant.suffix.0 in
    let on : goes_on c.parts.end ≡ true = sym c.goes_on.ensures ∙ c.parts-test.true in
    let e = c.in_err-end.field-0.0 in
    let r : c.from_residual-in_err-end.result ≡ Err e = search rules in
    rw r (λ tells. on_cert e (λ fault long. inr (λ n before bytes took. long_line g.D.Desk.tells n before (bytes ++ suffix) c.parts.end c.parts.lines left fault on (c.parts.invariant.suffix.2 n before bytes took) tells long)) (c.in_err-end.ensures.err tells))

pub returns-clause-line : goal.returns-clause-line
returns-clause-line g c =
    let first = c.args.lines.now.part in
    let now = c.parts.lines in
    let suffix = c.parts.invariant.suffix.0 in
    let checker = c.args.checker.now in
    let reader = c.parts.reader in
    let open_now = c.parts.checker.open_addition in (
      suffix,
      λ off. (c.parts.invariant.suffix.1 off).0,
      c.parts.invariant.suffix.2,
      ap (λ (xs : List ℕ). outline_in checker.rule checker.vars checker.database (step_in (first ++ xs))) (sym (append-nil suffix))
          ∙ c.parts.invariant.suffix.3 []
          ∙ ap (λ (xs : List ℕ). ahead checker.rule checker.vars checker.database reader.words open_now (words_of (reader.begun.items ++ xs))) (append-nil now.part ∙ sym c.part-2.ensures)
          ∙ moved checker.rule c.parts.checker.rule checker.vars c.parts.checker.vars checker.database c.parts.checker.database c.parts.invariant.rule c.parts.invariant.vars c.parts.invariant.database reader.words c.last.new.self.words open_now c.last.new.checker.open_addition (words_of (reader.begun.items ++ c.part-2.result.now)) [] c.in_ok-last.ensures.ahead,
    )
