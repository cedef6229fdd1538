-- What the machine's desk has begun and created.
use Rattle.std.specs.Prelude.{◌≡◌, ℕ, List, [], ◌++◌, Option, Some, None, ⊤, codes}
use Rattle.std.specs.declared.fs.options.OpenOptions.{OpenOptions}
use Rattle.desk_io.specs.Spare.{reading, making}
use Rattle.desk_io.specs.declared.desk.Which.{Which}
use Rattle.desk_io.specs.declared.desk.Which.TheVariants.{Config, Orgs, Script, Cert}
use Rattle.desk_io.specs.declared.real.RealDesk.{RealDesk}
use Rattle.desk_io.specs.declared.beside.Beside.{Beside}
use Rattle.desk_io.specs.Faults.{Faults}

-- the open file that is read there, if one is begun
abbrev pub begun_of : {R File : Type 0} → Which → RealDesk R File → Option File
begun_of Config d = d.config
begun_of Orgs d = d.orgs
begun_of Script d = d.script
begun_of Cert d = d.cert

-- the certificate file, if one is created
abbrev pub created_of : {R File : Type 0} → RealDesk R File → Option File
created_of d = d.created

-- where it stands while it isn't in its place, if it stands beside its name
abbrev pub beside_of : {R File : Type 0} → RealDesk R File → Option (Beside R File)
beside_of d = d.beside

-- the certificate's name, and that of the new file beside it
abbrev pub name_of : {R File : Type 0} → Beside R File → List ℕ
name_of b = b.name.bytes

abbrev pub part_of : {R File : Type 0} → Beside R File → List ℕ
part_of b = b.part.bytes

-- a file for a certificate of this name: one of that name itself, or a new one beside it
abbrev pub IsMade : {R File : Type 0} → (OpenOptions → List ℕ → File → Type 0) → List ℕ → File → Option (Beside R File) → Type 0
IsMade opened name file None = (how : OpenOptions) × opened how name file
IsMade opened name file (Some b) = opened making (part_of b) file × (name_of b ≡ name) × (part_of b ≡ name ++ codes ".part")

-- the new file has the certificate's name, in the place of what may go
abbrev pub IsPlaced : {R File : Type 0} → (List ℕ → List ℕ → Type 0) → (List ℕ → Type 0) → Option (Beside R File) → Type 0
IsPlaced renamed may_go None = ⊤
IsPlaced renamed may_go (Some b) = renamed (part_of b) (name_of b) × may_go (name_of b)

-- the file that is read there was opened to be read, under this name
abbrev pub IsBegun : {File : Type 0} → (OpenOptions → List ℕ → File → Type 0) → List ℕ → Option File → Type 0
IsBegun opened name None = ⊥
IsBegun opened name (Some file) = opened reading name file

-- the bytes of an open file, where they are known; none where no file is open
abbrev pub bytes_in : {File : Type 0} → (File → Option (List ℕ)) → Option File → Option (List ℕ)
bytes_in known None = Some []
bytes_in known (Some file) = known file

-- how often the desk has failed
abbrev pub faults_of : {R File : Type 0} → RealDesk R File → Faults
faults_of d = d.faults
