use Rattle.std.proofs.Common.{◌≡◌, ◌++◌, vec_len}
use Rattle.std.specs.Prelude.{map}
use Rattle.desk_io.specs.Entries.{missing_of}
use Rattle.desk_io.proofs.memory.file.all_files.Given as goal

abbrev pub invariant-names : goal.invariant-names
invariant-names l = l.made.items ++ map (missing_of l.size) l.may_create.items ≡ l.initial.made.items ++ map (missing_of l.size) l.initial.may_create.items

abbrev pub decreases-names : goal.decreases-names
decreases-names l = vec_len l.may_create
