use Rattle.std.proofs.Common.{rules, ◌≡◌, ◌+◌, ◌++◌, ℕ, List, true, Bool, if◌then◌else◌, Err, inr, ap, sym, subst, ◌∙◌, arith, append_assoc}
use Rattle.desk_io.specs.State.{left_of}
use Rattle.desk_io.specs.declared.Which.TheVariants.{Cert}
use Rattle.cert_lines.specs.Taking.{goes_on, TookLine}
use Rattle.cert_lines.proofs.Ends.{on_cert}
use Rattle.cert_lines.proofs.Takings.{more_part, long_line}
use Rattle.cert_lines.proofs.lines.Lines.rest_of_line.Goals as goal

pub returns-in_err-end-clause-err : goal.returns-in_err-end-clause-err
returns-in_err-end-clause-err g c =
    let left = left_of Cert (g.D.Desk.state c.parts.desk) in
    let suffix = c.parts.invariant.line.0 in
    let on : goes_on c.parts.end ≡ true = sym c.goes_on.ensures ∙ c.parts-test.true in
    let e = c.in_err-end.field-0.0 in
    let r : c.from_residual-in_err-end.result ≡ Err e = search rules in
    rw r (λ tells. on_cert e (λ fault long. inr (λ n before bytes took. long_line g.D.Desk.tells n before (bytes ++ suffix) c.parts.end c.parts.self left fault on (c.parts.invariant.line.2 n before bytes took) tells long)) (c.in_err-end.ensures.err tells))

pub parts-preserved : goal.parts-preserved
parts-preserved g c =
    let old = c.args.text.now.items in
    let first = c.args.self.now.part in
    let now = c.take_part.new.self in
    let end = c.in_ok-end.end in
    let suffix = c.parts.invariant.line.0 in
    let left = left_of Cert (g.D.Desk.state c.parts.desk) in
    let later = left_of Cert (g.D.Desk.state c.take_part.new.desk) in
    let on : goes_on c.parts.end ≡ true = sym c.goes_on.ensures ∙ c.parts-test.true in
    record {
      line = (
        suffix ++ now.part,
        c.in_ok-extend_from_slice-2.ensures.items
            ∙ ap (λ (xs : List ℕ). c.parts.text.items ++ xs) c.part-in-parts.ensures
            ∙ ap (λ (xs : List ℕ). xs ++ now.part) c.parts.invariant.line.1
            ∙ append_assoc old (first ++ suffix) now.part
            ∙ ap (λ (xs : List ℕ). old ++ xs) (append_assoc first suffix now.part),
        λ n before bytes took.
            subst (λ (xs : List ℕ). TookLine g.D.Desk.tells n before xs end now later) (append_assoc bytes suffix now.part)
            (more_part g.D.Desk.tells n before (bytes ++ suffix) c.parts.end c.parts.self left end now later on (c.parts.invariant.line.2 n before bytes took) c.in_ok-end.ensures.part),
      );
      few = λ further.
          let number = c.in_ok-end.ensures.part.number ∙ ap (λ (b : Bool). if b then c.parts.self.number else c.parts.self.number + 1) further in
          let few = c.parts.invariant.few on in omega (arith, number, few);
      rest = search rules;
      writes = search rules;
      reads = search rules;
    }
