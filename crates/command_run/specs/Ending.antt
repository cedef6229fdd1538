-- What the process ends with, by the words that it was given.
use Rattle.std.specs.Prelude.{ℕ, Bool, true, false, List, [], Option, Some, None, Result, Ok, Err, String, if◌then◌else◌}
use Rattle.std.specs.IoError.{error_kind}
use Rattle.std.specs.Vec.Iter.{into_iter_items}
use Rattle.std.specs.declared.alloc.Global.{Global}
use Rattle.std.specs.declared.io.Error.{Error}
use Rattle.std.specs.declared.io.ErrorKind.{ErrorKind}
use Rattle.std.specs.declared.io.ErrorKind.TheVariants.{OutOfMemory}
use Rattle.std.specs.declared.vec.IntoIter.{IntoIter}
use Rattle.request_reading.specs.Answers.{words_of}

-- there was no memory
abbrev pub is_memory : ErrorKind → Bool
is_memory OutOfMemory = true
is_memory kind = false

-- the words of a command line: none where one of them is not UTF-8; nothing is known of them where there was no memory for them
abbrev pub words_given : Result (IntoIter (String Global) Global) Error → Option (List (List ℕ))
words_given (Ok args) = Some (words_of (into_iter_items args))
words_given (Err error) = if is_memory (error_kind error) then None else Some []
