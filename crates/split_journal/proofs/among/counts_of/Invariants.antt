use Rattle.std.proofs.Common.{◌≡◌, ◌++◌, drop, map}
use Rattle.fbas_model.specs.Nodes.{size}
use Rattle.split_journal.proofs.among.counts_of.Given as goal

abbrev pub invariant-loop-set : goal.invariant-loop-set
invariant-loop-set w l = l.counts.items ++ map size (drop l.set-index l.sets) ≡ map size l.sets
