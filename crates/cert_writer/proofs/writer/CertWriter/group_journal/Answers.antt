use Rattle.std.proofs.Common.{◌∙◌, [], ◌∷◌, ◌++◌, sym, ap}
use Rattle.blocking_lists.specs.Lines.{journal_line_of}
use Rattle.node_json.specs.Groups.{texts_of}
use Rattle.cert_writer.specs.Texts.{group_journal_line}
use Rattle.cert_writer.specs.Grouping.{CanBeGroupLine}
use Rattle.cert_writer.specs.Writing.{Pending}
use Rattle.cert_writer.proofs.Loops.{next_past, next_has, rest_unput}
use Rattle.cert_writer.proofs.WritingLaws.{writes_more, writes_same, writes_nothing}
use Rattle.cert_writer.proofs.TextSteps.{lines_push}
use Rattle.cert_writer.proofs.writer.CertWriter.group_journal.Goals as goal

pub each-init : goal.each-init
each-init g c = record { done = []; whole = c.lines-lines.ensures; writes = writes_nothing _ _ _ _ }

pub returns-then-self : goal.returns-then-self
returns-then-self g c =
    let line = group_journal_line c.args.names.now (texts_of c.args.groups.now) in
    rest_unput c.each.invariant.done _ _ c.each.invariant.whole _ line _ _ _ _ _ _ (sym (ap (λ (p : Pending). p.failed) c.self.view_is) ∙ c.if-self.true) c.each.invariant.writes

pub group_line-requires : goal.group_line-requires
group_line-requires g c = next_has c.each.invariant.done _ _ c.each.invariant.whole (CanBeGroupLine _ _) _ _ c.in-Some.ensures.front c.requires

pub each-preserved : goal.each-preserved
each-preserved g c =
    let line = group_journal_line c.args.names.now (texts_of c.args.groups.now) in
    let said = journal_line_of c.in-Some.line in
    record {
      done = c.each.invariant.done ++ said ∷ [];
      whole = next_past c.each.invariant.done _ _ c.each.invariant.whole said _ c.in-Some.ensures.front;
      writes = writes_same _ _ _ _ _ _ _ _ _ (lines_push line c.each.invariant.done said) (writes_more _ _ _ _ _ _ _ _ _ _ _ _ c.each.invariant.writes c.group_line.ensures);
    }
