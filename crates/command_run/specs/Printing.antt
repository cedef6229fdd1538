-- What is out at the end.
use Rattle.std.specs.Prelude.{◌≡◌, ◌⊎◌, ℕ, ◌<◌, ◌++◌, IsTrue, length, take, Result, Ok, Err}
use Rattle.desk_io.specs.State.{DeskState}
use Rattle.fbas_model.specs.Systems.{System}
use Rattle.request_reading.specs.declared.searches.Search.{Search}
use Rattle.command_run.specs.Sought.{part, deleted, request}
use Rattle.command_run.specs.Meanings.{Meaning, cert_of, IsCertified, AreTooMany, meaning_of}
use Rattle.request_reading.specs.Formulas.{version_of}
use Rattle.command_run.specs.Replies.{IsLarge, too_large_answer}
use Rattle.command_run.specs.Putting.{PutsBoth, CameTo}
use Rattle.request_reading.specs.declared.status.Status.{Status}
use Rattle.request_reading.specs.declared.status.Status.TheVariants.{TooLarge}
use Rattle.request_reading.specs.declared.reply.Reply.{Reply as Answer}
use Rattle.request_reading.specs.declared.early.Early.{Early}
use Rattle.request_reading.specs.declared.early.Early.TheVariants.{Refused, Read, Memory}
use Rattle.request_reading.specs.declared.question.Question.{Question}
use Rattle.request_reading.specs.declared.question.Question.TheVariants.{Export}
use Rattle.request_reading.specs.declared.reading.Asked.{Asked}
use Rattle.request_reading.specs.declared.reading.Asked.TheVariants as asked
use Rattle.command_run.specs.QuestionAnswers.{Answers}
use Rattle.command_run.specs.Edits.{edits_answer}

-- ---- an answer is out, whole or in part

-- the status is that of the answer, its text is out, whole, and no file has changed
pub record PrintsAnswer (a : Answer) (old new : DeskState) (status : Status) : Type 0 where
  pub status_is : status ≡ a.status
  pub out : new.out ≡ old.out ++ a.text
  pub files : new.files ≡ old.files

-- a proper prefix of the text of the answer is out, and no file has changed; on a plain desk the text is longer than the room
pub record PrintsAnswerPart (a : Answer) (old new : DeskState) : Type 0 where
  pub count : ℕ
  pub short : count < length a.text
  pub out : new.out ≡ old.out ++ take count a.text
  pub files : new.files ≡ old.files
  pub room : IsTrue old.plain → old.room < length a.text

-- ---- what answers a question

pub record PrintsAnswerTo (f : System) (q : Question) (old new : DeskState) (status : Status) : Type 0 where
  pub answer : Answer
  pub is : Answers f q answer
  pub printed : PrintsAnswer answer old new status

pub record PrintsAnswerToPart (f : System) (q : Question) (old new : DeskState) : Type 0 where
  pub answer : Answer
  pub is : Answers f q answer
  pub printed : PrintsAnswerPart answer old new

-- ---- what a search prints and writes

-- what the search found, where its clauses are not too large: it shows the answer, its certificate is accepted, and this is the reply
pub record FindsReply (m : Meaning) (s : Search) : Type 0 where
  pub small : (n : ℕ) → AreTooMany m.vars (part s) (deleted s) n → ⊥
  pub found : m.Finding
  pub finds : IsCertified m (request s) found
  pub answer : Answer
  pub is : m.Replies (part s) (deleted s) s.budget found answer

-- what was found is told, and its certificate is in the file
pub record PrintsFound (m : Meaning) (s : Search) (old new : DeskState) (status : Status) : Type 0 where
  pub reply : FindsReply m s
  pub put : PutsBoth s.path (cert_of m (request s) reply.found) reply.answer old new status

-- the clauses are too large, which is told
pub record PrintsTooLarge (m : Meaning) (s : Search) (old new : DeskState) (status : Status) : Type 0 where
  pub vars : ℕ
  pub many : AreTooMany m.vars (part s) (deleted s) vars
  pub printed : PrintsAnswer (too_large_answer vars) old new status

pub record PrintsFoundPart (m : Meaning) (s : Search) (old new : DeskState) : Type 0 where
  pub reply : FindsReply m s
  pub came : CameTo s.path (cert_of m (request s) reply.found) reply.answer.text old new

pub record PrintsTooLargePart (m : Meaning) (s : Search) (old new : DeskState) : Type 0 where
  pub vars : ℕ
  pub many : AreTooMany m.vars (part s) (deleted s) vars
  pub printed : PrintsAnswerPart (too_large_answer vars) old new

abbrev pub PrintsBy : Meaning → Search → DeskState → DeskState → Status → Type 0
PrintsBy m s old new status = PrintsFound m s old new status ⊎ PrintsTooLarge m s old new status

abbrev pub PrintsPartBy : Meaning → Search → DeskState → DeskState → Type 0
PrintsPartBy m s old new = PrintsFoundPart m s old new ⊎ PrintsTooLargePart m s old new

abbrev pub PrintsSearch : Search → DeskState → DeskState → Status → Type 0
PrintsSearch s old new status = PrintsBy (meaning_of s.goal) s old new status

abbrev pub PrintsSearchPart : Search → DeskState → DeskState → Type 0
PrintsSearchPart s old new = PrintsPartBy (meaning_of s.goal) s old new

-- ---- what answers the words

abbrev pub PrintsAsked : Asked → DeskState → DeskState → Status → Type 0
PrintsAsked (asked.Question f question) old new status = PrintsAnswerTo f question old new status
PrintsAsked (asked.Search s) old new status = PrintsSearch s old new status
PrintsAsked (asked.Edits e) old new status = PrintsAnswer (edits_answer e) old new status
PrintsAsked (asked.Checked answer) old new status = PrintsAnswer answer old new status

abbrev pub PrintsEarly : Early → DeskState → DeskState → Status → Type 0
PrintsEarly (Refused answer) old new status = PrintsAnswer answer old new status
PrintsEarly Read old new status = ⊥
PrintsEarly Memory old new status = ⊥

-- an answer to what is asked is out, or a refusal
abbrev pub Prints : Result Asked Early → DeskState → DeskState → Status → Type 0
Prints (Ok a) old new status = PrintsAsked a old new status
Prints (Err early) old new status = PrintsEarly early old new status

abbrev pub PrintsAskedPart : Asked → DeskState → DeskState → Type 0
PrintsAskedPart (asked.Question f question) old new = PrintsAnswerToPart f question old new
PrintsAskedPart (asked.Search s) old new = PrintsSearchPart s old new
PrintsAskedPart (asked.Edits e) old new = PrintsAnswerPart (edits_answer e) old new
PrintsAskedPart (asked.Checked answer) old new = PrintsAnswerPart answer old new

abbrev pub PrintsEarlyPart : Early → DeskState → DeskState → Type 0
PrintsEarlyPart (Refused answer) old new = PrintsAnswerPart answer old new
PrintsEarlyPart Read old new = ⊥
PrintsEarlyPart Memory old new = ⊥

-- how far it came where a write failed
abbrev pub PrintsPart : Result Asked Early → DeskState → DeskState → Type 0
PrintsPart (Ok a) old new = PrintsAskedPart a old new
PrintsPart (Err early) old new = PrintsEarlyPart early old new

-- ---- a formula that is too large

abbrev pub IsLargeQuestion : System → Question → Type 0
IsLargeQuestion f (Export origin b) = IsLarge (version_of origin.formula) f b
IsLargeQuestion f question = ⊥

abbrev pub IsLargeAsked : Asked → Type 0
IsLargeAsked (asked.Question f question) = IsLargeQuestion f question
IsLargeAsked (asked.Search s) = (n : ℕ) × AreTooMany (meaning_of s.goal).vars (part s) (deleted s) n
IsLargeAsked (asked.Edits e) = ⊥
IsLargeAsked (asked.Checked answer) = answer.status ≡ TooLarge

-- what is asked encodes a formula, or a counter, that has too many variables, or such a one stands in the certificate that is checked
abbrev pub IsTooLarge : Result Asked Early → Type 0
IsTooLarge (Ok a) = IsLargeAsked a
IsTooLarge (Err early) = ⊥
