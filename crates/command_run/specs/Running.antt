-- What `run` promises, as records for those who call it and promise the same.
use Rattle.std.specs.Prelude.{◌≡◌, ◌⊎◌, ◌↔◌, ℕ, List, IsTrue, IsErr, IsOk, Err}
use Rattle.desk_io.specs.State.{DeskState}
use Rattle.desk_io.specs.Faults.{Faults, Rose, CountedWhere}
use Rattle.cli_words.specs.Words.{order_of}
use Rattle.request_reading.specs.declared.status.Status.{Status}
use Rattle.request_reading.specs.declared.status.Status.TheVariants.{Usage, ReadFault, WriteFault, Memory, TooLarge}
use Rattle.request_reading.specs.declared.early.Early.{Early}
use Rattle.request_reading.specs.Status.{is_answer}
use Rattle.request_reading.specs.Answers.{asked_of}
use Rattle.command_run.specs.Headline.{Headline, MayChange}
use Rattle.command_run.specs.Printing.{Prints, PrintsPart, IsTooLarge}

-- a run of the words, on a desk that tells what it holds, took it from old to new and ended so
pub record Runs (words : List (List ℕ)) (old new : DeskState) (status : Status) : Type 0 where
  pub answered : IsTrue (is_answer status) → Prints (asked_of words old.files) old new status
  pub headline : IsTrue (is_answer status) → Headline words old new status
  pub too_large : IsTrue (is_answer status) → (status ≡ TooLarge) ↔ IsTooLarge (asked_of words old.files)
  pub part : status ≡ WriteFault → PrintsPart (asked_of words old.files) old new
  pub silent : (status ≡ ReadFault) ⊎ (status ≡ Memory) → new.out ≡ old.out
  pub untouched : (status ≡ ReadFault) ⊎ (status ≡ Memory) → new.files ≡ old.files
  pub files : (path : List ℕ) → (MayChange path (asked_of words old.files) → ⊥) → new.files path ≡ old.files path
  pub unread : IsErr (order_of words) → new.left ≡ old.left
  pub plain_read : IsTrue old.plain → status ≡ ReadFault → asked_of words old.files ≡ Err Early.Read

-- a run of the words, on any desk, took the counts of its faults from old to new and ended so
pub record RunsOnAny (words : List (List ℕ)) (old new : Faults) (status : Status) : Type 0 where
  pub refused : IsErr (order_of words) → IsTrue (is_answer status) → status ≡ Usage
  pub taken : status ≡ ReadFault → IsOk (order_of words)
  pub read_faults : CountedWhere old.reads new.reads (status ≡ ReadFault)
  pub write_faults : CountedWhere old.writes new.writes (status ≡ WriteFault)
  pub complete : (Rose old.reads new.reads → ⊥) → (Rose old.writes new.writes → ⊥) → IsTrue (is_answer status) ⊎ (status ≡ Memory)
