-- What a desk in memory holds, and what it is told to do.
use Rattle.std.specs.Prelude.{ℕ, List, map, length, ◌==◌}
use Rattle.desk_io.specs.declared.memory.failing.Call.{Call}
use Rattle.desk_io.specs.declared.memory.mem_desk.MemDesk.{MemDesk}
use Rattle.desk_io.specs.Entries.{files_of, name_at}
use Rattle.desk_io.specs.Failing.{counted}
use Rattle.desk_io.specs.Faults.{Faults}
use Rattle.desk_io.specs.State.{DeskState}

-- what the desk holds, as each desk tells it
abbrev pub state_of : MemDesk → DeskState
state_of d = record {
  files = files_of d.files.items;
  may_create = map (λ f. f.name) d.files.items;
  left = d.readers.left;
  out = d.out.bytes;
  created = name_at d.created d.files.items;
  room = d.room;
  plain = length d.failing == 0;
}

-- how often the desk has failed
abbrev pub faults_of : MemDesk → Faults
faults_of d = d.faults

-- how many bytes a call moves at most, and the calls that are to fail
pub record Plan : Type 0 where
  pub piece : ℕ
  pub failing : List (Call × ℕ)

-- what the desk is told to do
abbrev pub plan_of : MemDesk → Plan
plan_of d = record { piece = d.piece; failing = d.failing }

-- the plan after a call
abbrev pub plan_after : Call → Plan → Plan
plan_after call plan = record plan { failing = counted call plan.failing }
