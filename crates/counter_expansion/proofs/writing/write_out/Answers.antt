use Rattle.std.proofs.Common.{List, Ok, ap, subst}
use Rattle.counter_expansion.specs.Gates.{AreApart, AreWritten, IsCounted}
use Rattle.counter_expansion.specs.Counters.{gates_of, ArePlaced}
use Rattle.counter_expansion.specs.declared.counters.Counter.{Counter}
use Rattle.counter_expansion.specs.declared.cells.Cell.{Cell}
use Rattle.counter_expansion.proofs.writing.write_out.Goals as goal

pub returns : goal.returns
returns c =
    let held = c.write_all.new.store.held in
    let counters = c.deref-2.ensures.value in
    let cells = c.deref-3.ensures.value in
    let placed = c.in_ok-is_whole.ensures.placed (ap Ok c.if-not-is_whole.false) in
    record {
      apart = subst (λ (xs : List Counter). AreApart (gates_of xs)) counters (c.in_ok-is_whole.ensures.apart (ap Ok c.if-not-is_whole.false));
      counted = subst (λ (xs : List Counter). IsCounted (gates_of xs) c.args.formula.now.held held) counters (c.in_ok-is_whole.ensures.counted (ap Ok c.if-not-is_whole.false));
      written = subst (λ (xs : List Counter). AreWritten (gates_of xs) held) counters (c.in_ok-is_whole.ensures.written (ap Ok c.if-not-is_whole.false));
      placed = subst (λ (xs : List Cell). ArePlaced c.in_ok-counters.counters.items xs) cells (subst (λ (xs : List Counter). ArePlaced xs c.deref-3.result.now) counters placed);
      range = c.in_ok-is_whole.ensures.range (ap Ok c.if-not-is_whole.false);
    }
