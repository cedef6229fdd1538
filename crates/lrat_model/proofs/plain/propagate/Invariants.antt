use Rattle.std.proofs.Common.{◌≡◌, ◌+◌, drop}
use Rattle.lrat_model.specs.Propagation.{propagate}
use Rattle.lrat_model.specs.Entries.{held_of}
use Rattle.lrat_model.proofs.plain.propagate.Given as goal

abbrev pub invariant-loop-i : goal.invariant-loop-i
invariant-loop-i l = propagate (held_of l.held) l.trues.items (l.i + 1) (drop l.i l.hints) ≡ propagate (held_of l.held) l.initial.trues.items 1 l.hints
