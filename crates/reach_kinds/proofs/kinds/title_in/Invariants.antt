use Rattle.std.proofs.Common.{◌≡◌, drop}
use Rattle.reach_kinds.specs.Kinds.{titled_among}
use Rattle.reach_kinds.proofs.kinds.title_in.Given as goal

abbrev pub invariant-loop-title : goal.invariant-loop-title
invariant-loop-title l = titled_among (drop l.title-index l.titles) l.word ≡ titled_among l.titles l.word
