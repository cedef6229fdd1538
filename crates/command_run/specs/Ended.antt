-- How a run on a desk ended, and what a process ends with.
use Rattle.request_reading.specs.declared.status.Status.{Status}
use Rattle.command_run.specs.declared.ending.Ended.{Ended}
use Rattle.command_run.specs.declared.ending.Exit.{Exit}

-- the status of the run
abbrev pub status_of : {D : Type 0} → Ended D → Status
status_of e = e.status

-- the desk as the run left it
abbrev pub desk_of : {D : Type 0} → Ended D → D
desk_of e = e.desk

-- the status whose number the process ends with
abbrev pub status_in : Exit → Status
status_in e = e.status
