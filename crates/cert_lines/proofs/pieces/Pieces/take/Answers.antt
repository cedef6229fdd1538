use Rattle.std.proofs.Common.{List, ℕ, ◌∷◌, ◌++◌, sym, ap, ◌∙◌, append_assoc}
use Rattle.desk_io.specs.State.{left_of}
use Rattle.desk_io.specs.declared.Which.TheVariants.{Cert}
use Rattle.cert_lines.specs.Lines.{tail, lines_of}
use Rattle.cert_lines.specs.Parts.{with_front}
use Rattle.cert_lines.proofs.Fronts.{part_front, feed_front}
use Rattle.cert_lines.proofs.pieces.Pieces.take.Goals as goal

pub returns-then-not-branch-clause-lines : goal.returns-then-not-branch-clause-lines
returns-then-not-branch-clause-lines g c = λ tells.
    let none = c.in_ok-fill.ensures.none c.if-not-branch.true tells in
    (ap lines_of none ∙ ap tail (sym (c.in_ok-fill.ensures.part c.if-not-branch.true)), ap lines_of (sym (c.in_ok-fill.ensures.all tells) ∙ none))

pub returns-then-cut-clause-lines : goal.returns-then-cut-clause-lines
returns-then-cut-clause-lines g c = λ tells.
    let later = left_of Cert (g.D.Desk.state c.fill.new.desk) in
    let part = c.cut.new.self.part in
    let unread = c.cut.new.self.unread in
    ap lines_of (c.in_ok-fill.ensures.all tells ∙ ap (λ (xs : List ℕ). xs ++ later) (c.cut.ensures.feed c.if-cut.true) ∙ append_assoc part (10 ∷ unread) later)
    ∙ feed_front part (unread ++ later) c.cut.ensures.feedless

pub returns-clause-lines : goal.returns-clause-lines
returns-clause-lines g c = λ tells.
    let later = left_of Cert (g.D.Desk.state c.fill.new.desk) in
    let part = c.cut.new.self.part in
    let cut = c.cut.ensures.all c.if-cut.false in
    ap lines_of (c.in_ok-fill.ensures.all tells ∙ ap (λ (xs : List ℕ). xs ++ later) (sym cut.0))
    ∙ part_front part later c.cut.ensures.feedless
    ∙ ap (λ (xs : List ℕ). with_front part (lines_of (xs ++ later))) (sym cut.1)
