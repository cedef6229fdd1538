-- Scripts: what their lines make of a system, one after another, or the first fault.
use Rattle.std.specs.Prelude.{ℕ, ◌+◌, List, [], ◌∷◌, ◌==◌, Option, Some, None, Result, Ok, Err, if◌then◌else◌}
use Rattle.fbas_model.specs.Systems.{System}
use Rattle.whatif_session.specs.Edits.{Edit}
use Rattle.whatif_session.specs.Edited.{edited}
use Rattle.whatif_session.specs.Lines.{edit_of}
use Rattle.whatif_session.specs.declared.faults.EditFault.{EditFault}
use Rattle.whatif_session.specs.declared.faults.EditFault.TheVariants.{BadLine}
use Rattle.whatif_session.specs.declared.faults.ScriptFault.{ScriptFault}

-- ---- lines

-- with this byte before the first line
abbrev pub with_byte : ℕ → List (List ℕ) → List (List ℕ)
with_byte b [] = (b ∷ []) ∷ []
with_byte b (line ∷ lines) = (b ∷ line) ∷ lines

-- the lines: each up to a line feed, and what follows the last one, if anything does
abbrev pub script_lines : List ℕ → List (List ℕ)
script_lines [] = []
script_lines (b ∷ bytes) = if b == 10 then [] ∷ script_lines bytes else with_byte b (script_lines bytes)

-- the parts between line feeds, but for an empty last one: the lines again
abbrev pub without_empty_last : List (List ℕ) → List (List ℕ)
without_empty_last [] = []
without_empty_last ([] ∷ []) = []
without_empty_last ((b ∷ bytes) ∷ []) = (b ∷ bytes) ∷ []
without_empty_last (x ∷ y ∷ more) = x ∷ without_empty_last (y ∷ more)

-- ---- what they do

abbrev pub edited_if_any : System → Option Edit → Result System EditFault
edited_if_any s None = Err BadLine
edited_if_any s (Some edit) = edited s edit

-- the system after a line, or the line's first fault
abbrev pub after_line : System → List ℕ → Result System EditFault
after_line s line = edited_if_any s (edit_of line)

-- a system before what follows it
abbrev pub with_state : System → Result (List System) ScriptFault → Result (List System) ScriptFault
with_state s (Ok states) = Ok (s ∷ states)
with_state s (Err fault) = Err fault

-- the system before line l, and what comes of the one after it, or the line's fault
abbrev pub states_after : ℕ → System → Result System EditFault → (System → Result (List System) ScriptFault) → Result (List System) ScriptFault
states_after l s (Err fault) next = Err (record { line = l; fault = fault })
states_after l s (Ok t) next = with_state s (next t)

-- the systems before the lines and after each, or the first fault; the first line has the number l
abbrev pub states_from : ℕ → System → List (List ℕ) → Result (List System) ScriptFault
states_from l s [] = Ok (s ∷ [])
states_from l s (line ∷ lines) = states_after l s (after_line s line) (λ t. states_from (l + 1) t lines)

-- the systems of a script: before any edit, and after each; or its first fault, whose line counts from 1
unfoldable pub states_of : System → List ℕ → Result (List System) ScriptFault
states_of s script = states_from 1 s (script_lines script)
