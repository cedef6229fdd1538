use Rattle.fbas_core.specs.Mentioning.{AreMentioning}
use Rattle.fbas_core.proofs.mentions.mentioning.Given as goal

abbrev pub invariant-loop-w : goal.invariant-loop-w
invariant-loop-w l = AreMentioning l.quorum_sets l.w l.lists
