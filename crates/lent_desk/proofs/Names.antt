-- The files by their names: each has its own.
use Rattle.std.proofs.Common.{◌≡◌, ℕ, Bool, true, false, List, Option, Some, None, refl, sym, ap, subst, ◌∙◌}
use Rattle.std.proofs.lemmas.Slice.Eq.{bytes_eq-Decides}
use Rattle.std.specs.Prelude.{codes, if◌then◌else◌}
use Rattle.std.specs.Str.{bytes_eq}
use Rattle.lent_desk.specs.declared.files.File.{File}
use Rattle.lent_desk.specs.declared.files.File.TheVariants.{Config, Orgs, Script, Cert, Made}
use Rattle.lent_desk.specs.declared.files.LentFiles.{LentFiles}
use Rattle.lent_desk.specs.Files.{name_of, file_named, lent_by, found, files_named}

pub named_name : (f : File) → file_named (name_of f) ≡ Some f
named_name Config = refl
named_name Orgs = refl
named_name Script = refl
named_name Cert = refl
named_name Made = refl

some_file : (f g : File) → Some f ≡ Some g → f ≡ g
some_file f g is = cc

is_named : (n name : List ℕ) → true ≡ bytes_eq n name → n ≡ name
is_named n name is = (bytes_eq-Decides n name).0 (sym is)

picked : (n : List ℕ) (b1 b2 b3 b4 b5 : Bool) → b1 ≡ bytes_eq n (codes "config") → b2 ≡ bytes_eq n (codes "orgs") → b3 ≡ bytes_eq n (codes "script") → b4 ≡ bytes_eq n (codes "cert") → b5 ≡ bytes_eq n (codes "made")
    → (f : File) → (if b1 then Some Config else if b2 then Some Orgs else if b3 then Some Script else if b4 then Some Cert else if b5 then Some Made else None) ≡ Some f → n ≡ name_of f
picked n true b2 b3 b4 b5 e1 e2 e3 e4 e5 f is = subst (λ (g : File). n ≡ name_of g) (some_file Config f is) (is_named n (codes "config") e1)
picked n false true b3 b4 b5 e1 e2 e3 e4 e5 f is = subst (λ (g : File). n ≡ name_of g) (some_file Orgs f is) (is_named n (codes "orgs") e2)
picked n false false true b4 b5 e1 e2 e3 e4 e5 f is = subst (λ (g : File). n ≡ name_of g) (some_file Script f is) (is_named n (codes "script") e3)
picked n false false false true b5 e1 e2 e3 e4 e5 f is = subst (λ (g : File). n ≡ name_of g) (some_file Cert f is) (is_named n (codes "cert") e4)
picked n false false false false true e1 e2 e3 e4 e5 f is = subst (λ (g : File). n ≡ name_of g) (some_file Made f is) (is_named n (codes "made") e5)
picked n false false false false false e1 e2 e3 e4 e5 f is = absurd (cc is)

-- a file that is found by a name has that name
pub named_is : (n : List ℕ) (f : File) → file_named n ≡ Some f → n ≡ name_of f
named_is n f is = picked n (bytes_eq n (codes "config")) (bytes_eq n (codes "orgs")) (bytes_eq n (codes "script")) (bytes_eq n (codes "cert")) (bytes_eq n (codes "made")) refl refl refl refl refl f is

module _ (h h' : File → Option (List ℕ)) (f : File) (n : List ℕ) (v : Option (List ℕ)) where
  other_file : (o : Option File) → ((g : File) → o ≡ Some g → h' g ≡ h g) → found h' o ≡ found h o
  other_file None same = refl
  other_file (Some g) same = same g refl

  chosen : (b : Bool) → b ≡ bytes_eq n (name_of f) → (file_named n ≡ Some f → h' f ≡ v) → ((g : File) → (g ≡ f → ⊥) → h' g ≡ h g)
      → found h' (file_named n) ≡ (if b then v else found h (file_named n))
  chosen true e at others =
      let named : file_named n ≡ Some f = ap file_named (is_named n (name_of f) e) ∙ named_name f in
      ap (found h') named ∙ at named
  chosen false e at others = other_file (file_named n) (λ g is. others g (λ same.
      let name : n ≡ name_of f = named_is n g is ∙ ap name_of same in
      absurd (cc ((bytes_eq-Decides n (name_of f)).1 name, e))))

  -- where one file holds something else, so do the files by name
  pub files_update : (file_named n ≡ Some f → h' f ≡ v) → ((g : File) → (g ≡ f → ⊥) → h' g ≡ h g) → found h' (file_named n) ≡ (if bytes_eq n (name_of f) then v else found h (file_named n))
  files_update at others = chosen (bytes_eq n (name_of f)) refl at others

lent_choice : (files : LentFiles) (b1 b2 b3 b4 b5 : Bool)
    → found (lent_by files) (if b1 then Some Config else if b2 then Some Orgs else if b3 then Some Script else if b4 then Some Cert else if b5 then Some Made else None)
    ≡ (if b1 then Some files.config.now else if b2 then Some files.orgs.now else if b3 then Some files.script.now else if b4 then Some files.cert.now else None)
lent_choice files true b2 b3 b4 b5 = refl
lent_choice files false true b3 b4 b5 = refl
lent_choice files false false true b4 b5 = refl
lent_choice files false false false true b5 = refl
lent_choice files false false false false true = refl
lent_choice files false false false false false = refl

-- the caller's files by name
pub lent_files : (files : LentFiles) (n : List ℕ) → found (lent_by files) (file_named n) ≡ files_named files.config.now files.orgs.now files.script.now files.cert.now n
lent_files files n = lent_choice files (bytes_eq n (codes "config")) (bytes_eq n (codes "orgs")) (bytes_eq n (codes "script")) (bytes_eq n (codes "cert")) (bytes_eq n (codes "made"))
