-- How a search ends.
use Rattle.std.specs.Prelude.{◌≡◌, ◌⊎◌, Bool, IsTrue}
use Rattle.desk_io.specs.State.{DeskState}
use Rattle.desk_io.specs.Faults.{Faults, WriteFails}
use Rattle.request_reading.specs.declared.searches.Search.{Search}
use Rattle.request_reading.specs.declared.status.Status.{Status}
use Rattle.request_reading.specs.declared.status.Status.TheVariants.{WriteFault, Memory}
use Rattle.request_reading.specs.Status.{is_answer}
use Rattle.command_run.specs.Printing.{PrintsSearch, PrintsSearchPart}

-- on a desk that tells or not: its answer is out, or a part of it after a write fault, and nothing for want of memory. A write fault is
-- counted where one is answered, and nowhere else
pub record SearchEnds (tells : Bool) (s : Search) (old : DeskState) (before : Faults) (new : DeskState) (after : Faults) (status : Status) : Type 0 where
  pub answered : IsTrue tells → IsTrue (is_answer status) → PrintsSearch s old new status
  pub part : IsTrue tells → status ≡ WriteFault → PrintsSearchPart s old new
  pub silent : IsTrue tells → status ≡ Memory → new ≡ old
  pub ends : IsTrue (is_answer status) ⊎ (status ≡ WriteFault) ⊎ (status ≡ Memory)
  pub faults : WriteFails before after (status ≡ WriteFault)
