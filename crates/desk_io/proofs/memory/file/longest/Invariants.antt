use Rattle.std.proofs.Common.{◌≤◌, ◌<◌, ℕ, length, get_or, String, Vec}
use Rattle.std.specs.declared.alloc.Global.{Global}
use Rattle.desk_io.proofs.memory.file.longest.Given as goal

abbrev pub invariant-loop-bytes : goal.invariant-loop-bytes
invariant-loop-bytes l = record {
  least : l.least ≤ l.longest;
  each : (k : ℕ) (d : String Global × Vec ℕ Global) → k < l.bytes-index → length (get_or l.files k d).1.items ≤ l.longest;
}
