use Rattle.std.proofs.Common.{◌≡◌, ℕ, ◌+◌, ◌<◌, ◌≤◌, ◌++◌, List, length, ap, sym, subst, refl, arith, ◌∙◌, IsTrue}
use Rattle.desk_io.specs.State.{left_of}
use Rattle.desk_io.specs.declared.Which.TheVariants.{Cert}
use Rattle.cert_lines.specs.Limits.{Unread}
use Rattle.cert_lines.specs.Lines.{lines_of}
use Rattle.cert_lines.specs.Parts.{with_front}
use Rattle.cert_lines.specs.Taking.{IsBegun}
use Rattle.cert_lines.specs.Texts.{IsTooLong}
use Rattle.cert_lines.specs.declared.lines.TheConstants.{MAX_LINE_BYTES}
use Rattle.cert_lines.specs.declared.faults.CertError.TheVariants.{LineTooLong}
use Rattle.cert_lines.proofs.Takings.{part_too_long}
use Rattle.cert_lines.proofs.lines.Lines.take_part.Goals.{then-goes_on, else-goes_on}
use Rattle.cert_lines.proofs.lines.Lines.take_part.Goals as goal

pub returns-then-taken-gt-MAX_LINE_BYTES-clause-err : goal.returns-then-taken-gt-MAX_LINE_BYTES-clause-err
returns-then-taken-gt-MAX_LINE_BYTES-clause-err g c = λ tells front size.
    let now = c.args.self.now in
    let left = left_of Cert (g.D.Desk.state c.args.desk.now) in
    let later = left_of Cert (g.D.Desk.state c.take.new.desk) in
    let part = c.take.new.self.part in
    let number : c.self.inside.number ≡ now.number = ap (λ (u : Unread). u.number) c.self.view_is in
    let taken : c.self.inside.taken ≡ now.taken = ap (λ (u : Unread). u.taken) c.self.view_is in
    let same : length c.part.result.now ≡ length part = ap (λ (xs : List ℕ). length xs) c.part.ensures in
    let long : MAX_LINE_BYTES < length front + length part = omega (arith, size, taken, same, c.if-taken-gt-MAX_LINE_BYTES.true) in
    let begun : IsBegun c.in_ok-end.end part (lines_of (now.unread ++ left)) (lines_of (c.take.new.self.unread ++ later)) =
    subst (λ (u : Unread). IsBegun c.in_ok-end.end part (lines_of (u.unread ++ left)) (lines_of (c.take.new.self.unread ++ later))) c.self.view_is (c.in_ok-end.ensures.lines tells) in
    subst (λ (k : ℕ). IsTooLong now.number (with_front front (lines_of (now.unread ++ left))) (LineTooLong k)) (sym number)
    (part_too_long now.number c.in_ok-end.end front part (lines_of (now.unread ++ left)) (lines_of (c.take.new.self.unread ++ later)) c.requires long begun)

pub returns-clause-part : goal.returns-clause-part
returns-clause-part g c =
    let now = c.args.self.now in
    let left = left_of Cert (g.D.Desk.state c.args.desk.now) in
    let later = left_of Cert (g.D.Desk.state c.take.new.desk) in
    let part = c.take.new.self.part in
    let number : c.self.inside.number ≡ now.number = ap (λ (u : Unread). u.number) c.self.view_is in
    let taken : c.self.inside.taken ≡ now.taken = ap (λ (u : Unread). u.taken) c.self.view_is in
    let same : length c.part.result.now ≡ length part = ap (λ (xs : List ℕ). length xs) c.part.ensures in
    let begun : IsTrue g.D.Desk.tells → IsBegun c.in_ok-end.end part (lines_of (now.unread ++ left)) (lines_of (c.take.new.self.unread ++ later)) =
    λ tells. subst (λ (u : Unread). IsBegun c.in_ok-end.end part (lines_of (u.unread ++ left)) (lines_of (c.take.new.self.unread ++ later))) c.self.view_is (c.in_ok-end.ensures.lines tells) in
    let short : now.taken + length part ≤ MAX_LINE_BYTES = omega (arith, taken, same, c.if-taken-gt-MAX_LINE_BYTES.false) in
    elim c.if-goes_on.branch [
      | then-goes_on w ↦ rw (w.self-is) (record {
        lines = begun;
        number = rw (sym c.goes_on.ensures ∙ w.if-goes_on.true) number;
        taken = rw (sym c.goes_on.ensures ∙ w.if-goes_on.true) (omega (arith, taken, same));
        short = short;
        grows = c.in_ok-end.ensures.grows;
      })
      | else-goes_on w ↦ rw (w.self-is) (record {
        lines = begun;
        number = rw (sym c.goes_on.ensures ∙ w.if-goes_on.false) (ap (λ (n : ℕ). n + 1) number);
        taken = rw (sym c.goes_on.ensures ∙ w.if-goes_on.false) refl;
        short = short;
        grows = c.in_ok-end.ensures.grows;
      })
    ]
