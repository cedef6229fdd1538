-- What a desk holds, and what its calls do to it.
use Rattle.std.specs.Prelude.{◌≡◌, ◌⊎◌, ℕ, ◌-◌, ◌<◌, Bool, false, List, [], ◌++◌, length, Contains, Option, Some, None, IsSome, IsNone, unwrap_or, if◌then◌else◌}
use Rattle.std.specs.Str.{bytes_eq}
use Rattle.std.specs.Option.{option_map}
use Rattle.desk_io.specs.declared.desk.Which.{Which}
use Rattle.desk_io.specs.declared.desk.Which.TheVariants.{Config, Orgs, Script, Cert}
use Rattle.desk_io.specs.declared.desk.To.{To}
use Rattle.desk_io.specs.declared.desk.To.TheVariants.{Out, Cert as Certificate}

-- the files by name: what each holds, and nothing where there is no such file
abbrev pub Files : Type 0
Files = List ℕ → Option (List ℕ)

-- what is left to read of each begun file
pub record Left : Type 0 where
  pub config : List ℕ
  pub orgs : List ℕ
  pub script : List ℕ
  pub cert : List ℕ

-- all that a desk holds
pub record DeskState : Type 0 where
  pub files : Files
  -- names that may be created besides those of the files
  pub may_create : List (List ℕ)
  pub left : Left
  -- what is written to Out
  pub out : List ℕ
  -- the name of the certificate file, once one is created
  pub created : Option (List ℕ)
  -- how many more bytes may be put
  pub room : ℕ
  -- whether calls fail only where they must
  pub plain : Bool

-- what is left of one begun file
abbrev pub left_at : Which → Left → List ℕ
left_at Config left = left.config
left_at Orgs left = left.orgs
left_at Script left = left.script
left_at Cert left = left.cert

-- what is left there on the desk
abbrev pub left_of : Which → DeskState → List ℕ
left_of which s = left_at which s.left

-- with these bytes left of one begun file
abbrev pub set_left : Which → List ℕ → Left → Left
set_left Config bytes left = record left { config = bytes }
set_left Orgs bytes left = record left { orgs = bytes }
set_left Script bytes left = record left { script = bytes }
set_left Cert bytes left = record left { cert = bytes }

-- with these bytes left there, and all else as it was
abbrev pub with_left : Which → List ℕ → DeskState → DeskState
with_left which bytes s = record s { left = set_left which bytes s.left }

-- with this file in the place of the one of its name
abbrev pub with_file : List ℕ → List ℕ → Files → Files
with_file name bytes files = λ n. if bytes_eq n name then Some bytes else files n

-- the named file is begun: all of it is left, and nothing else changes
pub record Begins (which : Which) (name : List ℕ) (old new : DeskState) : Type 0 where
  pub file : old.files name ≡ Some (left_of which new)
  pub rest : new ≡ with_left which (left_of which new) old

-- these bytes are taken off the front of what is left, and nothing else changes
pub record Takes (which : Which) (bytes : List ℕ) (old new : DeskState) : Type 0 where
  pub front : left_of which old ≡ bytes ++ left_of which new
  pub rest : new ≡ with_left which (left_of which new) old

-- the named file is the certificate file, and is empty
abbrev pub with_certificate : List ℕ → DeskState → DeskState
with_certificate name s = record s { files = with_file name [] s.files; created = Some name }

-- what a certificate file of this name holds
abbrev pub certificate_in : Option (List ℕ) → Files → List ℕ
certificate_in None files = []
certificate_in (Some name) files = unwrap_or (files name) []

-- what is written to the certificate file of the desk
abbrev pub certificate_of : DeskState → List ℕ
certificate_of s = certificate_in s.created s.files

-- the files after these bytes are put at the end of the named one
abbrev pub appended : Option (List ℕ) → List ℕ → Files → Files
appended None bytes files = files
appended (Some name) bytes files = λ n. if bytes_eq n name then option_map (λ held. held ++ bytes) (files n) else files n

-- these bytes are put there, and nothing else changes
abbrev pub written : To → List ℕ → DeskState → DeskState
written Out bytes s = record s { out = s.out ++ bytes; room = s.room - length bytes }
written Certificate bytes s = record s { files = appended s.created bytes s.files; room = s.room - length bytes }

-- a desk that holds this has such a file, or may create one
abbrev pub CanCreate : List ℕ → DeskState → Type 0
CanCreate name s = IsSome (s.files name) ⊎ Contains s.may_create name

-- a desk that holds this can't take a piece of n bytes there
abbrev pub CannotPut : To → ℕ → DeskState → Type 0
CannotPut Out n s = s.room < n
CannotPut Certificate n s = IsNone s.created ⊎ (s.room < n)

-- only what is left to read changes
abbrev pub OnlyReads : DeskState → DeskState → Type 0
OnlyReads old new = new ≡ record old { left = new.left }

-- in the place of what a desk holds that tells nothing
abbrev pub nothing_told : DeskState
nothing_told = record {
  files = λ n. None;
  may_create = [];
  left = record { config = []; orgs = []; script = []; cert = [] };
  out = [];
  created = None;
  room = 0;
  plain = false;
}
