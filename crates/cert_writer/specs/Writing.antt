-- What comes of writing through a buffer.
use Rattle.std.specs.Prelude.{◌≡◌, ℕ, ◌+◌, ◌<◌, ◌≤◌, Bool, true, false, List, [], ◌++◌, length, IsTrue, MatchBool}
use Rattle.desk_io.specs.State.{DeskState, written, CannotPut}
use Rattle.desk_io.specs.Faults.{Faults, Rose}
use Rattle.desk_io.specs.declared.desk.To.TheVariants.{Cert}
use Rattle.cert_writer.specs.declared.writer.TheConstants.{BUFFER}

-- what is not put yet, and whether a put failed
pub record Pending : Type 0 where
  pub held : List ℕ
  pub failed : Bool

-- nothing was written yet
abbrev pub IsFresh : Pending → Type 0
IsFresh w = w ≡ record { held = []; failed = false }

-- what was put and what is held now are what was held and the text
pub record WroteAll (text before : List ℕ) (old : DeskState) (now : List ℕ) (new : DeskState) : Type 0 where
  pub out : List ℕ
  pub put : new ≡ written Cert out old
  pub whole : out ++ now ≡ before ++ text

-- a proper prefix of what was held and the text was put; on a plain desk there was no room for another buffer
pub record WrotePart (text before : List ℕ) (old new : DeskState) : Type 0 where
  pub out : List ℕ
  pub rest : List ℕ
  pub put : new ≡ written Cert out old
  pub whole : out ++ rest ≡ before ++ text
  pub more : 0 < length rest
  pub lacks : IsTrue old.plain → CannotPut Cert (length out + BUFFER) old

-- after a put failed nothing more is written
abbrev pub Wrote : List ℕ → Pending → DeskState → Pending → DeskState → Type 0
Wrote text before old now new = MatchBool before.failed ((now ≡ before) × (new ≡ old)) (MatchBool now.failed (WrotePart text before.held old new) (WroteAll text before.held old now.held new))

-- a write fault is counted where a put failed, and nowhere else
pub record CountsFailing (before now : Bool) (old new : Faults) : Type 0 where
  pub later : old.writes ≤ new.writes
  pub reads : new.reads ≡ old.reads
  pub once : MatchBool before ((now ≡ true) × (new.writes ≡ old.writes)) (MatchBool now (Rose old.writes new.writes) (new.writes ≡ old.writes))

-- the text is written, on a desk that tells or not
pub record Writes (tells : Bool) (text : List ℕ) (before : Pending) (old : DeskState) (faults : Faults) (now : Pending) (new : DeskState) (counted : Faults) : Type 0 where
  pub wrote : IsTrue tells → Wrote text before old now new
  pub counts : CountsFailing before.failed now.failed faults counted
