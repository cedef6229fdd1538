-- How the program ends.
use Rattle.std.specs.Prelude.{ℕ, Bool, true, false}
use Rattle.request_reading.specs.declared.status.Status.{Status}
use Rattle.request_reading.specs.declared.status.Status.TheVariants.{Yes, No, Unknown, Usage, ConfigRefused, CertRefused, ReadFault, WriteFault, Memory, TooLarge, ScriptRefused}

-- an answer to the words and the files, and not a failing of the outside or of the memory
abbrev pub is_answer : Status → Bool
is_answer ReadFault = false
is_answer WriteFault = false
is_answer Memory = false
is_answer status = true

-- the exit status of each way to end
abbrev pub code_of : Status → ℕ
code_of Yes = 0
code_of No = 1
code_of Unknown = 2
code_of Usage = 3
code_of ConfigRefused = 4
code_of CertRefused = 5
code_of ReadFault = 6
code_of WriteFault = 7
code_of Memory = 8
code_of TooLarge = 9
code_of ScriptRefused = 10
