use Rattle.std.proofs.Common.{take}
use Rattle.rat_candidates.specs.Named.{AreNamed}
use Rattle.rat_candidates.specs.Groups.{ids_in}
use Rattle.rat_candidates.proofs.hints.named_times.Given as goal

abbrev pub invariant-loop-hint : goal.invariant-loop-hint
invariant-loop-hint l = AreNamed l.store.held l.l (ids_in (take l.hint-index l.hints)) l.named
