-- What is on the desk where a certificate and a text were put, or a part of them.
use Rattle.std.specs.Prelude.{◌≡◌, ℕ, ◌+◌, ◌<◌, ◌++◌, IsTrue, List, length, take, Contains, None}
use Rattle.desk_io.specs.State.{DeskState, with_file, written, with_certificate}
use Rattle.desk_io.specs.declared.desk.To.TheVariants.{Out, Cert}
use Rattle.cert_writer.specs.declared.writer.TheConstants.{BUFFER}
use Rattle.printed_lines.specs.Lines.{Text}
use Rattle.request_reading.specs.declared.reply.Reply.{Reply as Answer}
use Rattle.request_reading.specs.declared.status.Status.{Status}

-- the certificate is in its file, and the text is out
abbrev pub put_whole : List ℕ → Text → Text → DeskState → DeskState
put_whole path cert text s = written Out text (written Cert cert (with_certificate path s))

-- ---- why a plain desk fails

-- the certificate's file is not there, and may not be created
pub record IsBarred (path : List ℕ) (old : DeskState) : Type 0 where
  pub missing : old.files path ≡ None
  pub never : Contains old.may_create path → ⊥

-- there is no room for this many bytes of the certificate, which are in its file at the end, and another buffer
abbrev pub LacksBuffer : ℕ → DeskState → Type 0
LacksBuffer count old = old.room < count + BUFFER

-- there is no room for the certificate and the text
abbrev pub LacksText : Text → Text → DeskState → Type 0
LacksText cert text old = old.room < length cert + length text

-- ---- what was put

-- after a write fault: nothing was done, or a proper prefix of the certificate is in its file and nothing is out, or the
-- certificate is whole and a proper prefix of the text is out; and why, where the desk is plain
pub data PutsSome (path : List ℕ) (cert text : Text) (old new : DeskState) : Type 0 where
  unmade : new ≡ old → (IsTrue old.plain → IsBarred path old) → PutsSome path cert text old new
  cert_part : (n : ℕ) → n < length cert → new ≡ written Cert (take n cert) (with_certificate path old) → (IsTrue old.plain → LacksBuffer n old) → PutsSome path cert text old new
  text_part : (n : ℕ) → n < length text → new ≡ written Out (take n text) (written Cert cert (with_certificate path old)) → (IsTrue old.plain → LacksText cert text old) → PutsSome path cert text old new

-- the certificate is in its file, whole, the text of the answer is out, whole, and no other file has changed
pub record PutsBoth (path : List ℕ) (cert : Text) (a : Answer) (old new : DeskState) (status : Status) : Type 0 where
  pub status_is : status ≡ a.status
  pub out : new.out ≡ old.out ++ a.text
  pub files : new.files ≡ with_file path cert old.files

-- how far it came where a write failed: the certificate's file was not made; or it holds a proper prefix of the certificate, and
-- nothing is out; or it holds the certificate, and a proper prefix of the text is out; and why, where the desk is plain
pub data CameTo (path : List ℕ) (cert text : Text) (old new : DeskState) : Type 0 where
  uncreated : new.files ≡ old.files → new.out ≡ old.out → (IsTrue old.plain → IsBarred path old) → CameTo path cert text old new
  in_cert : (n : ℕ) → n < length cert → new.files ≡ with_file path (take n cert) old.files → new.out ≡ old.out → (IsTrue old.plain → LacksBuffer n old) → CameTo path cert text old new
  in_text : (n : ℕ) → n < length text → new.files ≡ with_file path cert old.files → new.out ≡ old.out ++ take n text → (IsTrue old.plain → LacksText cert text old) → CameTo path cert text old new
