use Rattle.std.proofs.Common.{◌≡◌, ◌≤◌, ◌++◌, length, vec_len}
use Rattle.std.specs.Prelude.{All, map}
use Rattle.desk_io.specs.Entries.{entry_of}
use Rattle.desk_io.proofs.memory.file.held_files.Given as goal

abbrev pub invariant-files : goal.invariant-files
invariant-files l = record {
  fits : All (λ file. length file.1.items ≤ l.size) l.files.items;
  made : l.made.items ++ map (entry_of l.size) l.files.items ≡ map (entry_of l.size) l.initial.files.items;
}

abbrev pub decreases-files : goal.decreases-files
decreases-files l = vec_len l.files
