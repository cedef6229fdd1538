-- The files of the desk by their names.
use Rattle.std.specs.Prelude.{ℕ, List, Option, Some, None, codes, if◌then◌else◌}
use Rattle.std.specs.Str.{bytes_eq}
use Rattle.desk_io.specs.State.{Files}
use Rattle.lent_desk.specs.declared.files.File.{File}
use Rattle.lent_desk.specs.declared.files.File.TheVariants.{Config, Orgs, Script, Cert, Made}
use Rattle.lent_desk.specs.declared.files.LentFiles.{LentFiles}

-- the name of each file
abbrev pub name_of : File → List ℕ
name_of Config = codes "config"
name_of Orgs = codes "orgs"
name_of Script = codes "script"
name_of Cert = codes "cert"
name_of Made = codes "made"

-- the file of a name
abbrev pub file_named : List ℕ → Option File
file_named n = if bytes_eq n (codes "config") then Some Config else if bytes_eq n (codes "orgs") then Some Orgs else if bytes_eq n (codes "script") then Some Script else if bytes_eq n (codes "cert") then Some Cert else if bytes_eq n (codes "made") then Some Made else None

-- the caller's bytes
abbrev pub lent_by : LentFiles → File → Option (List ℕ)
lent_by files Config = Some files.config.now
lent_by files Orgs = Some files.orgs.now
lent_by files Script = Some files.script.now
lent_by files Cert = Some files.cert.now
lent_by files Made = None

-- the files by name, where each file holds this
abbrev pub found : (File → Option (List ℕ)) → Option File → Option (List ℕ)
found held None = None
found held (Some file) = held file

-- the caller's files by their names
abbrev pub files_named : List ℕ → List ℕ → List ℕ → List ℕ → Files
files_named config orgs script cert = λ name. if bytes_eq name (codes "config") then Some config else if bytes_eq name (codes "orgs") then Some orgs else if bytes_eq name (codes "script") then Some script else if bytes_eq name (codes "cert") then Some cert else None
