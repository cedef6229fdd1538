-- What a certificate's file may be written over, and what may lose its name to one.
use Rattle.std.specs.Prelude.{◌≡◌, ◌⊎◌, ℕ, List, [], take, Option, Some, None, ⊤, codes, true}
use Rattle.std.specs.declared.fs.attrs.Metadata.{Metadata}
use Rattle.std.specs.declared.fs.options.OpenOptions.{OpenOptions}
use Rattle.std.specs.Fs.{IsFile, file_type, new_options}

-- known bytes that are nothing, or begin as a certificate
abbrev pub IsSpare : Option (List ℕ) → Type 0
IsSpare None = ⊤
IsSpare (Some bytes) = (bytes ≡ []) ⊎ (take 10 bytes ≡ codes "fbas-cert ")

-- the options of a file that is read
abbrev pub reading : OpenOptions
reading = record new_options { read = true }

-- the options of a file that must not be there, and is made and written
abbrev pub making : OpenOptions
making = record new_options { write = true; create_new = true }

-- a file that was opened under this name may be lost
abbrev pub IsSpareFile : {File : Type 0} → (OpenOptions → List ℕ → File → Type 0) → (File → Option (List ℕ)) → List ℕ → Type 0
IsSpareFile {File} opened remaining name = (file : File) × opened reading name file × IsSpare (remaining file)

-- what has this name was given another too
abbrev pub IsKept : (List ℕ → List ℕ → Type 0) → List ℕ → Type 0
IsKept linked name = (kept : List ℕ) × linked name kept

-- nothing is lost if another file is given this name: nothing has it, or no regular file, or one that may be lost or has a second name
abbrev pub MayGo : {File : Type 0} → (OpenOptions → List ℕ → File → Type 0) → (File → Option (List ℕ)) → (List ℕ → List ℕ → Type 0) → (List ℕ → Metadata → Type 0) → (List ℕ → Type 0) → List ℕ → Type 0
MayGo opened remaining linked seen missing name =
    missing name ⊎ ((there : Metadata) × seen name there × (IsFile (file_type there) → ⊥)) ⊎ IsSpareFile opened remaining name ⊎ IsKept linked name
