use Rattle.std.proofs.Common.{◌-◌, length}
use Rattle.search_heuristics.proofs.queue.first_before.Given as goal

abbrev pub decreases-loop-place : goal.decreases-loop-place
decreases-loop-place l = length l.trail - l.place
