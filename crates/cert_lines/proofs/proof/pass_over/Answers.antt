use Rattle.std.proofs.Common.{rules, ◌≡◌, ◌+◌, ◌<◌, ◌++◌, ◌||◌, ℕ, List, [], length, true, false, Bool, if◌then◌else◌, refl, ap, sym, ◌∙◌, arith, length-append, Err}
use Rattle.std.proofs.lemmas.Bool.{or_parts}
use Rattle.desk_io.specs.State.{left_of}
use Rattle.desk_io.specs.declared.Which.TheVariants.{Cert}
use Rattle.cert_lines.specs.Steps.{is_comment, is_wordless}
use Rattle.cert_lines.specs.Taking.{goes_on}
use Rattle.cert_lines.proofs.Ends.{on_cert}
use Rattle.cert_lines.proofs.ProofStarts.{blank_part, wordless_more, comment_front, word_text, passed_text}
use Rattle.cert_lines.proofs.Takings.{first_part, more_part, first_long, long_line}
use Rattle.cert_lines.proofs.proof.pass_over.Goals as goal

pub parts-init : goal.parts-init
parts-init g c =
    let old = c.args.lines.now in
    let left = left_of Cert (g.D.Desk.state c.args.desk.now) in
    let later = left_of Cert (g.D.Desk.state c.take_part.new.desk) in
    let took = c.in_ok-end.ensures.part in
    record {
      line = (
        [],
        λ _. refl,
        sym (c.is_comment-is_comment.ensures ∙ ap is_comment c.part.ensures),
        took.grows,
        first_part g.D.Desk.tells old left c.in_ok-end.end c.take_part.new.self later c.requires.fresh took,
      );
      few = λ further.
          let number = took.number ∙ ap (λ (b : Bool). if b then old.number else old.number + 1) further in
          let few = c.requires.few in omega (arith, number, few);
      rest = search rules;
      writes = search rules;
      reads = search rules;
    }

pub parts-preserved : goal.parts-preserved
parts-preserved g c =
    let part = c.parts.lines.part in
    let next = c.take_part-in-parts.new.self in
    let blanks = c.parts.invariant.line.0 in
    let left = left_of Cert (g.D.Desk.state c.parts.desk) in
    let later = left_of Cert (g.D.Desk.state c.take_part-in-parts.new.desk) in
    let before = c.args.lines.now in
    let on : goes_on c.parts.end ≡ true = sym c.goes_on.ensures ∙ c.if-not-goes_on.false in
    let comment = c.is_comment-is_comment.result in
    let passed : (comment || is_wordless part) ≡ true = ap (λ (xs : List ℕ). comment || is_wordless xs) (sym c.part-in-parts.ensures) ∙ sym c.is_passed.ensures ∙ c.parts-test.true in
    let some : 0 < length (blanks ++ part) = c.parts.invariant.line.3 on in
    record {
      line = (
        blanks ++ part,
        λ no. wordless_more blanks part (c.parts.invariant.line.1 no) (blank_part comment part passed no),
        comment_front (blanks ++ part) next.part some ∙ c.parts.invariant.line.2,
        λ _. omega (arith, some, length-append (blanks ++ part) next.part),
        more_part g.D.Desk.tells before.number (before.unread ++ left_of Cert (g.D.Desk.state c.args.desk.now)) (blanks ++ part) c.parts.end c.parts.lines left c.in_ok-end-2.end next later on c.parts.invariant.line.4 c.in_ok-end-2.ensures.part,
      );
      few = λ further.
          let number = c.in_ok-end-2.ensures.part.number ∙ ap (λ (b : Bool). if b then c.parts.lines.number else c.parts.lines.number + 1) further in
          let few = c.parts.invariant.few on in omega (arith, number, few);
      rest = search rules;
      writes = search rules;
      reads = search rules;
    }

pub returns-in_err-end-clause-err : goal.returns-in_err-end-clause-err
returns-in_err-end-clause-err g c =
    let old = c.args.lines.now in
    let left = left_of Cert (g.D.Desk.state c.args.desk.now) in
    let e = c.in_err-end.field-0.0 in
    let r : c.from_residual.result ≡ Err e = search rules in
    rw r (λ tells. on_cert e (λ fault. first_long old.number old.taken (old.unread ++ left) fault c.requires.fresh) (c.in_err-end.ensures.err tells))

pub returns-in_err-end-2-clause-err : goal.returns-in_err-end-2-clause-err
returns-in_err-end-2-clause-err g c =
    let old = c.args.lines.now in
    let left = left_of Cert (g.D.Desk.state c.parts.desk) in
    let on : goes_on c.parts.end ≡ true = sym c.goes_on.ensures ∙ c.if-not-goes_on.false in
    let e = c.in_err-end-2.field-0.0 in
    let r : c.from_residual-in_err-end-2.result ≡ Err e = search rules in
    rw r (λ tells. on_cert e (λ fault. long_line g.D.Desk.tells old.number (old.unread ++ left_of Cert (g.D.Desk.state c.args.desk.now)) (c.parts.invariant.line.0 ++ c.parts.lines.part) c.parts.end c.parts.lines left fault on c.parts.invariant.line.4 tells) (c.in_err-end-2.ensures.err tells))

pub returns-then-not-goes_on-clause-passed : goal.returns-then-not-goes_on-clause-passed
returns-then-not-goes_on-clause-passed g c = λ _.
    let part = c.parts.lines.part in
    let blanks = c.parts.invariant.line.0 in
    let comment = c.is_comment-is_comment.result in
    let passed : (comment || is_wordless part) ≡ true = ap (λ (xs : List ℕ). comment || is_wordless xs) (sym c.part-in-parts.ensures) ∙ sym c.is_passed.ensures ∙ c.parts-test.true in (
      blanks ++ part,
      c.parts.end,
      passed_text comment blanks part c.parts.invariant.line.2 c.parts.invariant.line.1 passed,
      sym c.goes_on.ensures ∙ c.if-not-goes_on.true,
      c.parts.invariant.line.4,
    )

pub returns-clause-word : goal.returns-clause-word
returns-clause-word g c =
    let part = c.parts.lines.part in
    let blanks = c.parts.invariant.line.0 in
    let comment = c.is_comment-is_comment.result in
    let passed : (comment || is_wordless part) ≡ false = ap (λ (xs : List ℕ). comment || is_wordless xs) (sym c.part-in-parts.ensures) ∙ sym c.is_passed.ensures ∙ c.parts-test.false in
    let words = or_parts comment (is_wordless part) passed in (
      blanks,
      c.parts.invariant.line.1 words.0,
      λ more. word_text comment blanks part more c.parts.invariant.line.2 passed,
      c.parts.invariant.line.4,
    )
