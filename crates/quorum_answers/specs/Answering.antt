-- What a caller is answered, in the terms of a run over a desk.
use Rattle.std.specs.Prelude.{◌≡◌, ◌⊎◌, ◌==◌, ◌+◌, ◌-◌, ◌^◌, ◌<◌, ◌≤◌, ℕ, IsTrue, false, List, ◌++◌, length, take, drop, codes}
use Rattle.std.specs.List.{slice_split}
use Rattle.desk_io.specs.State.{DeskState, Files, certificate_of}
use Rattle.lent_desk.specs.LentDesk.{at_start, made_in}
use Rattle.lent_desk.specs.EndlessDesk.{endless}
use Rattle.lent_desk.specs.Room.{MOST_ROOM}
use Rattle.request_reading.specs.declared.status.Status.{Status}
use Rattle.request_reading.specs.declared.status.Status.TheVariants.{WriteFault}
use Rattle.request_reading.specs.Status.{is_answer, code_of}
use Rattle.command_run.specs.Running.{Runs}
use Rattle.quorum_answers.specs.declared.answer.QuorumEnd.{QuorumEnd}

-- the name of the program, which comes before its words
abbrev pub program : List ℕ
program = codes "quorum_cli"

-- the words between the zero bytes
abbrev pub words_in : List ℕ → List (List ℕ)
words_in text = slice_split (λ b. b == 0) text

-- the room begins with the certificate that was made, whole, and ends with the text that was put out after what stood there before
pub record Holds (room before : List ℕ) (end : QuorumEnd) (new : DeskState) : Type 0 where
  pub cert : take end.cert room ≡ made_in new
  pub text : new.out ≡ before ++ drop (length room - end.text) room

-- neither a certificate nor a text
abbrev pub IsNothing : QuorumEnd → Type 0
IsNothing end = (end.cert ≡ 0) × (end.text ≡ 0)

-- so much room is wanting: with more room than any caller has, a run of the words over the files comes to an answer whose certificate and
-- text have so many bytes, more than the room has; or to none, so that no room helps
pub record Wants (words : List (List ℕ)) (files : Files) (room wanting : ℕ) : Type 0 where
  pub status : Status
  pub new : DeskState
  pub ran : Runs words (endless files) new status
  -- exactly so many bytes
  pub answer : IsTrue (is_answer status) → wanting ≡ length (certificate_of new) + length new.out
  pub below : IsTrue (is_answer status) → wanting ≤ MOST_ROOM
  -- the greatest number only where no room helps
  pub fault : is_answer status ≡ false → status ≡ WriteFault
  pub never : is_answer status ≡ false → wanting ≡ 2 ^ 64 - 1
  pub more : room < wanting

-- a run of the words over the files, on a desk with this room, ended so, with this in the room; nothing is said of what is wanting
pub record Attempts (words : List (List ℕ)) (files : Files) (room : List ℕ) (end : QuorumEnd) : Type 0 where
  pub status : Status
  pub before : List ℕ
  pub new : DeskState
  pub status_is : end.status ≡ code_of status
  pub ran : Runs words (at_start files before (length room)) new status
  pub holds : IsTrue (is_answer status) → Holds room before end new
  pub within : end.cert + end.text ≤ length room
  pub nothing : is_answer status ≡ false → IsNothing end
  pub none : end.wanting ≡ 0

-- the end of a question for which there was too little room: so much is wanting, or memory is
pub record EndsShort (words : List (List ℕ)) (files : Files) (room : ℕ) (end : QuorumEnd) : Type 0 where
  pub nothing : IsNothing end
  pub status : (end.status ≡ 8) ⊎ (end.status ≡ 7)
  pub memory : end.status ≡ 8 → end.wanting ≡ 0
  pub wants : end.status ≡ 7 → Wants words files room end.wanting

-- a run of the words over the files ended so, with this in the room
pub record Answers (words : List (List ℕ)) (files : Files) (room : List ℕ) (end : QuorumEnd) : Type 0 where
  -- how the run ended, what stood on its output before, and what was on its desk at the end
  pub status : Status
  pub before : List ℕ
  pub new : DeskState
  pub status_is : end.status ≡ code_of status
  -- all that `run` promises: the text is the defined one, its headline is so, and without an answer why there is none
  pub ran : Runs words (at_start files before (length room)) new status
  -- the text and the certificate are in the room
  pub holds : IsTrue (is_answer status) → Holds room before end new
  pub within : end.cert + end.text ≤ length room
  -- without an answer there is neither
  pub nothing : is_answer status ≡ false → IsNothing end
  -- after a write fault so much is wanting, more than the room has, and else nothing
  pub wanting : status ≡ WriteFault → Wants words files (length room) end.wanting
  pub enough : (status ≡ WriteFault → ⊥) → end.wanting ≡ 0
