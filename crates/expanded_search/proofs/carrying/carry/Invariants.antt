use Rattle.std.proofs.Common.{take, drop}
use Rattle.counter_expansion.specs.Counters.{gates_of}
use Rattle.expanded_search.proofs.CarryLaws.{IsOn}
use Rattle.expanded_search.proofs.carrying.carry.Given as goal

abbrev pub invariant-loop-place : goal.invariant-loop-place
invariant-loop-place l =
    IsOn l.initial.carrier.vars l.initial.carrier.checker.database l.written.store (gates_of l.written.counters.items) l.budget (take l.place l.log) (drop l.place l.log) l.carrier l.left
