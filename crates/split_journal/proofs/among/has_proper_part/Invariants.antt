use Rattle.std.proofs.Common.{◌≡◌, drop, [], get_or}
use Rattle.std.specs.List.{list_any}
use Rattle.split_journal.specs.Minimal.{is_proper_part, has_proper_part}
use Rattle.split_journal.proofs.among.has_proper_part.Given as goal

abbrev pub invariant-loop-at : goal.invariant-loop-at
invariant-loop-at w l = list_any (is_proper_part (get_or l.sets l.place [])) (drop l.at l.sets) ≡ has_proper_part l.sets (get_or l.sets l.place [])
