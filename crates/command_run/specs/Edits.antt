-- What is said of edits that are tried one after another.
use Rattle.std.specs.Prelude.{◌≡◌, ℕ, ◌+◌, List, [], ◌∷◌, ◌++◌, Bool, Option, Some, None, Result, Ok, Err, codes}
use Rattle.fbas_model.specs.Nodes.{Table, members, ∅}
use Rattle.fbas_model.specs.Fbas.{IsGreatestQuorum, all_nodes}
use Rattle.fbas_model.specs.Systems.{System}
use Rattle.greatest_quorum.specs.Unmet.{is_available}
use Rattle.whatif_session.specs.Scripts.{states_of}
use Rattle.whatif_session.specs.Sessions.{greatest_in, set_in, unmet_in}
use Rattle.whatif_session.specs.declared.faults.EditFault.{EditFault}
use Rattle.whatif_session.specs.declared.faults.EditFault.TheVariants.{BadLine, UnknownNode, NoSet, Already, NotThere, TooManyNodes, TooManyEntries, Memory}
use Rattle.whatif_session.specs.declared.faults.ScriptFault.{ScriptFault}
use Rattle.desk_io.specs.State.{DeskState}
use Rattle.printed_lines.specs.Lines.{Text, edit_lines, script_refused}
use Rattle.request_reading.specs.declared.edits.Edits.{Edits}
use Rattle.request_reading.specs.declared.reply.Reply.{Reply as Answer}
use Rattle.request_reading.specs.declared.status.Status.{Status}
use Rattle.request_reading.specs.declared.status.Status.TheVariants.{Yes, ScriptRefused}
use Rattle.command_run.specs.Replies.{IsAvailability}

-- ---- the answer

-- why an edit is refused; a want of memory is no refusal, and is not printed
abbrev pub fault_word : EditFault → Text
fault_word BadLine = codes "bad-line"
fault_word UnknownNode = codes "unknown-node"
fault_word NoSet = codes "no-set"
fault_word Already = codes "already"
fault_word NotThere = codes "not-there"
fault_word (TooManyNodes n) = codes "too-many-nodes"
fault_word (TooManyEntries n) = codes "too-many-entries"
fault_word Memory = []

-- how many there would be
abbrev pub fault_number : EditFault → Option ℕ
fault_number (TooManyNodes n) = Some n
fault_number (TooManyEntries n) = Some n
fault_number fault = None

-- the line of a script's first fault
abbrev pub fault_line : ScriptFault → Text
fault_line f = script_refused (fault_word f.fault) f.line (fault_number f.fault)

-- what is said of a system after this many edits: its greatest quorum, and whether the nodes without the set of these names are available
abbrev pub state_lines : Text → ℕ → System → Text
state_lines set i s = edit_lines s.names i (greatest_in s) (is_available s.sets (set_in set s)) (unmet_in set s)

-- the same of one system after another
abbrev pub all_lines : Text → ℕ → List System → Text
all_lines set i [] = []
all_lines set i (s ∷ states) = state_lines set i s ++ all_lines set (i + 1) states

-- a script is refused at its first faulty line, or what is said of the systems before its edits and after each
abbrev pub states_answer : Text → Result (List System) ScriptFault → Answer
states_answer set (Ok states) = record { status = Yes; text = all_lines set 0 states }
states_answer set (Err fault) = record { status = ScriptRefused; text = fault_line fault }

abbrev pub edits_answer : Edits → Answer
edits_answer e = states_answer e.set (states_of e.system e.script)

-- ---- what it means

-- the greatest quorum of a system is said, and whether its nodes without a set are available, or which of them are unmet
pub record SaysState (f : System) (set : Table) (i : ℕ) (text : Text) : Type 0 where
  pub quorum : Table
  pub is : IsGreatestQuorum f.sets ∅ (all_nodes f.sets) (members quorum)
  pub available : Bool
  pub unmet : Table
  pub availability : IsAvailability f set available unmet
  pub said : text ≡ edit_lines f.names i quorum available unmet

-- so it is said of one system after another
abbrev pub SaysStates : Text → ℕ → List System → Text → Type 0
SaysStates set i [] text = text ≡ []
SaysStates set i (f ∷ states) text = (first : Text) × (rest : Text) × SaysState f (set_in set f) i first × SaysStates set (i + 1) states rest × text ≡ first ++ rest

-- so it is said of the systems before the edits and after each, or the script's first fault is named
abbrev pub EditsShow : Text → Result (List System) ScriptFault → DeskState → DeskState → Status → Type 0
EditsShow set (Ok states) old new status = (status ≡ Yes) × (text : Text) × SaysStates set 0 states text × new.out ≡ old.out ++ text
EditsShow set (Err fault) old new status = (status ≡ ScriptRefused) × new.out ≡ old.out ++ fault_line fault
