-- What the calls of the desk do to the files by name, to what is left, and to the two ends of the room.
use Rattle.std.proofs.Common.{◌≡◌, ℕ, ◌+◌, ◌-◌, ◌≤◌, List, [], ◌++◌, Option, Some, None, length, take, drop, refl, sym, ap, ◌∙◌, arith}
use Rattle.std.proofs.lemmas.List.{drop-drop}
use Rattle.std.proofs.Math.Seq.{take-take}
use Rattle.std.specs.Option.{option_map}
use Rattle.desk_io.specs.State.{with_file, appended}
use Rattle.lent_desk.specs.declared.files.File.{File}
use Rattle.lent_desk.specs.declared.files.File.TheVariants as file
use Rattle.lent_desk.specs.declared.files.LentFiles.{LentFiles}
use Rattle.lent_desk.specs.declared.spans.Span.{Span}
use Rattle.lent_desk.specs.declared.spans.Spans.{Spans}
use Rattle.lent_desk.specs.declared.spans.Open.{Open}
use Rattle.lent_desk.specs.declared.left.AllLeft.{AllLeft}
use Rattle.desk_io.specs.declared.desk.Which.TheVariants as which
use Rattle.lent_desk.specs.Files.{name_of, file_named, lent_by, found, files_named}
use Rattle.lent_desk.specs.Spans.{slice_in, span_at, with_span, FitAll, IsOpen, held_by, held_in, files_in}
use Rattle.lent_desk.specs.Left.{all_rest_in, FitsLeft}
use Rattle.lent_desk.proofs.Names.{files_update, lent_files}
use Rattle.lent_desk.proofs.Parts.{span_same, span_other, slice_more, slice_last, slice_none, held_more}

-- a file is made, empty
pub files_made : (lent : LentFiles) (spans : Spans) (kept : List ℕ) (f : File) (at : ℕ)
    → files_in lent (with_span f (record { from = at; to = at }) spans) kept ≡ with_file (name_of f) [] (files_in lent spans kept)
files_made lent spans kept f at =
    let span : Span = record { from = at; to = at } in
    λ i name. files_update (held_in lent spans kept) (held_in lent (with_span f span spans) kept) f name (Some [])
    (λ named. ap (λ (o : Option Span). held_by o (lent_by lent f) kept) (span_same f span spans) ∙ ap Some (slice_none at kept))
    (λ g apart. ap (λ (o : Option Span). held_by o (lent_by lent g) kept) (span_other f g span spans apart)) i

-- bytes are put to the open file
pub files_kept : (lent : LentFiles) (spans : Spans) (kept bytes : List ℕ) (o : Open) (n : ℕ) → FitAll (length kept) spans → IsOpen (length kept) spans o → o.from ≤ length kept → n ≡ length kept + length bytes
    → files_in lent (with_span o.file (record { from = o.from; to = n }) spans) (kept ++ bytes) ≡ appended (Some (name_of o.file)) bytes (files_in lent spans kept)
files_kept lent spans kept bytes o n fits opened below size =
    let f = o.file in
    let span : Span = record { from = o.from; to = n } in
    let old : held_in lent spans kept f ≡ Some (slice_in (record { from = o.from; to = length kept }) kept) = ap (λ (s : Option Span). held_by s (lent_by lent f) kept) opened in
    let new : held_in lent (with_span f span spans) (kept ++ bytes) f ≡ Some (slice_in (record { from = o.from; to = length kept }) kept ++ bytes) =
    ap (λ (s : Option Span). held_by s (lent_by lent f) (kept ++ bytes)) (span_same f span spans) ∙ ap Some (slice_last o.from kept bytes n below size) in
    λ i name. files_update (held_in lent spans kept) (held_in lent (with_span f span spans) (kept ++ bytes)) f name (option_map (λ held. held ++ bytes) (files_in lent spans kept name))
    (λ named. new ∙ ap (option_map (λ (held : List ℕ). held ++ bytes)) (sym (ap (found (held_in lent spans kept)) named ∙ old)))
    (λ g apart. ap (λ (s : Option Span). held_by s (lent_by lent g) (kept ++ bytes)) (span_other f g span spans apart) ∙ held_more (span_at g spans) (lent_by lent g) kept bytes (fits g)) i

-- what is left stays
pub left_kept : (left : AllLeft) (kept bytes : List ℕ) → FitsLeft (length kept) left → all_rest_in left (kept ++ bytes) ≡ all_rest_in left kept
left_kept left kept bytes fits =
    let config = slice_more left.config.span kept bytes (fits which.Config) in
    let orgs = slice_more left.orgs.span kept bytes (fits which.Orgs) in
    let script = slice_more left.script.span kept bytes (fits which.Script) in
    let cert = slice_more left.cert.span kept bytes (fits which.Cert) in
    λ i. record { config = left.config.lent.now ++ config i; orgs = left.orgs.lent.now ++ orgs i; script = left.script.lent.now ++ script i; cert = left.cert.lent.now ++ cert i }

-- a later end stays if an earlier one does
pub end_stays : (n m : ℕ) (old new : List ℕ) → n ≤ m → drop n new ≡ drop n old → drop m new ≡ drop m old
end_stays n m old new less same =
    let sum : m ≡ n + (m - n) = omega arith in
    ap (λ k. drop k new) sum ∙ sym (drop-drop (m - n) n new) ∙ ap (drop (m - n)) same ∙ drop-drop (m - n) n old ∙ ap (λ k. drop k old) (sym sum)

-- a shorter front stays if a longer one does
pub front_stays : (n m : ℕ) (old new : List ℕ) → n ≤ m → take m new ≡ take m old → take n new ≡ take n old
front_stays n m old new less same = sym (take-take n m new less) ∙ ap (take n) same ∙ take-take n m old less

abbrev pub none_made : Spans
none_made = record { config = None; orgs = None; script = None; cert = None; made = None }

module _ (lent : LentFiles) (kept : List ℕ) where
  held_lent : (f : File) → held_in lent none_made kept f ≡ lent_by lent f
  held_lent file.Config = refl
  held_lent file.Orgs = refl
  held_lent file.Script = refl
  held_lent file.Cert = refl
  held_lent file.Made = refl

  found_lent : (o : Option File) → found (held_in lent none_made kept) o ≡ found (lent_by lent) o
  found_lent None = refl
  found_lent (Some f) = held_lent f

  -- at the start
  pub files_lent : files_in lent none_made kept ≡ files_named lent.config.now lent.orgs.now lent.script.now lent.cert.now
  files_lent = λ i name. (found_lent (file_named name) ∙ lent_files lent name) i

pub none_fit : (kept : ℕ) → FitAll kept none_made
none_fit kept file.Config = λ x is. absurd (cc is)
none_fit kept file.Orgs = λ x is. absurd (cc is)
none_fit kept file.Script = λ x is. absurd (cc is)
none_fit kept file.Cert = λ x is. absurd (cc is)
none_fit kept file.Made = λ x is. absurd (cc is)
