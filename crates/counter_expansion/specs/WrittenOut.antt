-- A formula whose gates are written out.
use Rattle.std.specs.Prelude.{ℕ}
use Rattle.lrat_model.specs.Clauses.{Held}
use Rattle.lrat_model.specs.Ranges.{AreInRange}
use Rattle.counter_expansion.specs.Gates.{IsCounted, AreWritten, AreApart}
use Rattle.counter_expansion.specs.Counters.{gates_of, ArePlaced}
use Rattle.counter_expansion.specs.declared.writing.Written.{Written}

-- each clause of the formula is one of a counter, or held without it; the sets of the inputs of each gate are held; and the
-- cells tell the variables of places
pub record IsWrittenOut (vars : ℕ) (formula : Held) (w : Written) : Type 0 where
  pub apart : AreApart (gates_of w.counters.items)
  pub counted : IsCounted (gates_of w.counters.items) formula w.store.held
  pub written : AreWritten (gates_of w.counters.items) w.store.held
  pub placed : ArePlaced w.counters.items w.cells.items
  pub range : AreInRange vars w.store.held
