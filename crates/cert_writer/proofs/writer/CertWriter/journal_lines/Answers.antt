use Rattle.std.proofs.Common.{◌∙◌, [], ◌∷◌, ◌++◌, sym, ap}
use Rattle.blocking_lists.specs.Lines.{journal_line_of}
use Rattle.cert_writer.specs.Texts.{journal_line}
use Rattle.cert_writer.specs.Listing.{CanBeLine}
use Rattle.cert_writer.specs.Writing.{Pending}
use Rattle.cert_writer.proofs.Loops.{next_past, next_has, rest_unput}
use Rattle.cert_writer.proofs.WritingLaws.{writes_more, writes_same, writes_nothing}
use Rattle.cert_writer.proofs.TextSteps.{lines_push}
use Rattle.cert_writer.proofs.writer.CertWriter.journal_lines.Goals as goal

pub each-init : goal.each-init
each-init g c = record { done = []; whole = c.lines-lines.ensures; writes = writes_nothing _ _ _ _ }

pub returns-then-self : goal.returns-then-self
returns-then-self g c =
    rest_unput c.each.invariant.done _ _ c.each.invariant.whole _ (journal_line c.args.names.now) _ _ _ _ _ _ (sym (ap (λ (p : Pending). p.failed) c.self.view_is) ∙ c.if-self.true) c.each.invariant.writes

pub journal_line-requires : goal.journal_line-requires
journal_line-requires g c = next_has c.each.invariant.done _ _ c.each.invariant.whole (CanBeLine _) _ _ c.in-Some.ensures.front c.requires

pub each-preserved : goal.each-preserved
each-preserved g c =
    let line = journal_line_of c.in-Some.line in
    record {
      done = c.each.invariant.done ++ line ∷ [];
      whole = next_past c.each.invariant.done _ _ c.each.invariant.whole line _ c.in-Some.ensures.front;
      writes = writes_same _ _ _ _ _ _ _ _ _ (lines_push (journal_line c.args.names.now) c.each.invariant.done line) (writes_more _ _ _ _ _ _ _ _ _ _ _ _ c.each.invariant.writes c.journal_line.ensures);
    }
