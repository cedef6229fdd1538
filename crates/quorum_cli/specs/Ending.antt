-- What a run on the machine's desk may end with.
use Rattle.std.specs.Prelude.{ℕ, List}
use Rattle.desk_io.specs.Faults.{Faults}
use Rattle.request_reading.specs.declared.status.Status.{Status}
use Rattle.command_run.specs.Running.{RunsOnAny}

-- a run of the words ended so, on a desk that had not failed before and has failed so often now
abbrev pub RunsFresh : List (List ℕ) → Faults → Status → Type 0
RunsFresh words counted status = RunsOnAny words (record { reads = 0; writes = 0 }) counted status
