use Rattle.std.proofs.Common.{◌≡◌, ◌<◌, ℕ, false, get_or}
use Rattle.std.specs.Str.{bytes_eq}
use Rattle.desk_io.specs.Entries.{Entry}
use Rattle.desk_io.proofs.memory.file.find.Given as goal

abbrev pub invariant-loop-i : goal.invariant-loop-i
invariant-loop-i l = (k : ℕ) (d : Entry) → k < l.i → bytes_eq l.name (get_or l.files k d).name ≡ false
