-- What the endless desk holds, and how it begins.
use Rattle.std.specs.Prelude.{ℕ, ◌+◌, ◌-◌, false, List, [], ◌∷◌, codes, Option, None, Some}
use Rattle.std.specs.Option.{option_map}
use Rattle.desk_io.specs.State.{DeskState, Files, with_file}
use Rattle.desk_io.specs.Faults.{Faults}
use Rattle.lent_desk.specs.declared.endless.EndlessDesk.{EndlessDesk}
use Rattle.lent_desk.specs.declared.files.File.{File}
use Rattle.lent_desk.specs.declared.files.LentFiles.{LentFiles}
use Rattle.lent_desk.specs.Files.{name_of, files_named}
use Rattle.lent_desk.specs.Left.{all_rest_in}
use Rattle.lent_desk.specs.Room.{MOST_ROOM}

-- the caller's files, and the created one in the place of that of its name
abbrev pub files_after : LentFiles → Option File → List ℕ → Files
files_after lent None cert = files_named lent.config.now lent.orgs.now lent.script.now lent.cert.now
files_after lent (Some file) cert = with_file (name_of file) cert (files_named lent.config.now lent.orgs.now lent.script.now lent.cert.now)

abbrev pub state_of : EndlessDesk → DeskState
state_of d = record {
  files = files_after d.lent d.created d.cert.bytes;
  may_create = codes "made" ∷ [];
  left = all_rest_in d.left [];
  out = d.out.bytes;
  created = option_map name_of d.created;
  room = MOST_ROOM - (d.kept + d.said);
  plain = false;
}

-- how often it has failed
abbrev pub faults_of : EndlessDesk → Faults
faults_of d = record { reads = d.reads; writes = d.writes }

-- a desk with these files, leave to make the certificate, nothing on its output and more room than any caller has; some of its calls fail
-- that need not
abbrev pub endless : Files → DeskState
endless files = record {
  files = files;
  may_create = codes "made" ∷ [];
  left = record { config = []; orgs = []; script = []; cert = [] };
  out = [];
  created = None;
  room = MOST_ROOM;
  plain = false;
}
