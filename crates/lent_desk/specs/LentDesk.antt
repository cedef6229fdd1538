-- What the desk holds, and how it begins.
use Rattle.std.specs.Prelude.{ℕ, ◌+◌, ◌-◌, true, List, [], ◌∷◌, ◌++◌, length, take, drop, codes, None, unwrap_or}
use Rattle.std.specs.Option.{option_map}
use Rattle.std.specs.Borrow.{MutBor}
use Rattle.desk_io.specs.State.{DeskState, Files}
use Rattle.desk_io.specs.Faults.{Faults}
use Rattle.lent_desk.specs.declared.desk.LentDesk.{LentDesk}
use Rattle.lent_desk.specs.Files.{name_of}
use Rattle.lent_desk.specs.Spans.{files_in}
use Rattle.lent_desk.specs.Left.{all_rest_in}

-- what stands on the output before the first text: the name that proofs have for the room, by which a caller knows after all calls that it is still the one that was given
abbrev pub mark_of : MutBor (List ℕ) → List ℕ
mark_of room = room.ghost_name ∷ []

-- the room, and the bytes in it
abbrev pub room_in : LentDesk → MutBor (List ℕ)
room_in d = d.room

-- the bytes that are kept at the room's front, and those of the text at its end
abbrev pub kept_in : LentDesk → List ℕ
kept_in d = take d.kept d.room.now

abbrev pub said_in : LentDesk → List ℕ
said_in d = drop (length d.room.now - d.said) d.room.now

-- how many more bytes may be put
abbrev pub space_in : LentDesk → ℕ
space_in d = length d.room.now - (d.kept + d.said)

abbrev pub state_of : LentDesk → DeskState
state_of d = record {
  files = files_in d.lent d.spans (kept_in d);
  may_create = codes "made" ∷ [];
  left = all_rest_in d.left (kept_in d);
  out = mark_of d.room ++ said_in d;
  created = option_map (λ opened. name_of opened.file) d.created;
  room = space_in d;
  plain = true;
}

-- how often it has failed
abbrev pub faults_of : LentDesk → Faults
faults_of d = record { reads = d.reads; writes = d.writes }

-- a desk with these files, leave to make the certificate, this on its output and so much room
abbrev pub at_start : Files → List ℕ → ℕ → DeskState
at_start files before room = record {
  files = files;
  may_create = codes "made" ∷ [];
  left = record { config = []; orgs = []; script = []; cert = [] };
  out = before;
  created = None;
  room = room;
  plain = true;
}

-- what the file of the certificate holds
abbrev pub made_in : DeskState → List ℕ
made_in s = unwrap_or (s.files (codes "made")) []
