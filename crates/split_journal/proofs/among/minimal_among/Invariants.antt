use Rattle.std.proofs.Common.{◌≡◌, ◌++◌, not, drop, filter}
use Rattle.split_journal.specs.Minimal.{has_proper_part, minimal_among}
use Rattle.split_journal.proofs.among.minimal_among.Given as goal

abbrev pub invariant-loop-place : goal.invariant-loop-place
invariant-loop-place w l = l.minimal.items ++ filter (λ s. not (has_proper_part l.sets s)) (drop l.place l.sets) ≡ minimal_among l.sets
