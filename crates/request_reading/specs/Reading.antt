-- Reading that may end early: with a refusal, by a file that is not there, or for want of memory.
use Rattle.std.specs.Prelude.{◌≡◌, Bool, true, false, IsTrue, Result, Ok, Err, IfOk, IfErr}
use Rattle.desk_io.specs.State.{DeskState, OnlyReads}
use Rattle.desk_io.specs.Faults.{Faults, ReadFails}
use Rattle.request_reading.specs.declared.early.Early.{Early}
use Rattle.request_reading.specs.declared.early.Early.TheVariants.{Refused, Read, Memory}
use Rattle.request_reading.specs.declared.status.Status.{Status}
use Rattle.request_reading.specs.declared.status.Status.TheVariants.{Usage, ConfigRefused, ScriptRefused}

infixl 10 ◌>>=◌
abbrev pub ◌>>=◌ : {A B : Type 0} → Result A Early → (A → Result B Early) → Result B Early
(Ok a) >>= f = f a
(Err e) >>= f = Err e

-- ---- what a function gave is what is defined, where memory was not wanting

-- it reads no file
abbrev pub Fails : {A : Type 0} → Early → Result A Early → Type 0
Fails (Refused a) defined = defined ≡ Err (Refused a)
Fails Read defined = ⊥
Fails Memory defined = Unit {0}

abbrev pub Gives : {A : Type 0} → Result A Early → Result A Early → Type 0
Gives (Ok a) defined = defined ≡ Ok a
Gives (Err e) defined = Fails e defined

-- it reads files: on a plain desk a read fault is that of a missing one
abbrev pub FailsReading : {A : Type 0} → Bool → Early → Result A Early → Type 0
FailsReading plain (Refused a) defined = defined ≡ Err (Refused a)
FailsReading plain Read defined = IsTrue plain → defined ≡ Err Read
FailsReading plain Memory defined = Unit {0}

abbrev pub GivesReading : {A : Type 0} → Bool → Result A Early → Result A Early → Type 0
GivesReading plain (Ok a) defined = defined ≡ Ok a
GivesReading plain (Err e) defined = FailsReading plain e defined

-- ---- the status of a refusal

abbrev pub RefusesBy : (Status → Type 0) → Early → Type 0
RefusesBy P (Refused a) = P a.status
RefusesBy P Read = Unit {0}
RefusesBy P Memory = Unit {0}

-- the words, the names or a file are refused
abbrev pub is_refusal : Status → Bool
is_refusal Usage = true
is_refusal ConfigRefused = true
is_refusal ScriptRefused = true
is_refusal status = false

-- the status is one of a refusal
abbrev pub IsRefusal : Early → Type 0
IsRefusal e = RefusesBy (λ status. IsTrue (is_refusal status)) e

-- ---- what calls that read promise

-- what is defined comes, or a refusal, and what comes fits
pub record ReadsTo {A : Type 0} (result defined : Result A Early) (Fits : A → Type 0) : Type 0 where
  pub gives : Gives result defined
  pub refused : IfErr result IsRefusal
  pub fits : IfOk result Fits

-- of a desk that tells, only what is left to read changes, and calls that read failed where this is so
pub record ReadsDesk {S : Type 0} (tells : Bool) (state : S → DeskState) (count : S → Faults) (old new : S) (failed : Type 0) : Type 0 where
  pub reads : IsTrue tells → OnlyReads (state old) (state new)
  pub faults : ReadFails (count old) (count new) failed
