-- How the texts grow.
use Rattle.std.proofs.Common.{◌≡◌, ℕ, ◌+◌, ◌*◌, ◌<◌, List, [], ◌∷◌, ◌++◌, length, map, take, drop, take-append-drop, Option, Some, refl, sym, ◌∙◌, ap, codes, append_assoc, slice_get, slice_index_or}
use Rattle.std.proofs.lemmas.List.{append-nil, take_more, map-append}
use Rattle.std.proofs.lemmas.Option.{get_or_from_slice_get}
use Rattle.fbas_model.specs.Nodes.{Table, listed_from}
use Rattle.fbas_model.specs.Names.{Name}
use Rattle.fbas_model.specs.Restriction.{kept}
use Rattle.fbas_model.proofs.Listed.{kept_listed}
use Rattle.lrat_text.specs.Left.{spaced}
use Rattle.hex.specs.Hex.{encode_lower}
use Rattle.witness_pair.specs.declared.Pair.{Pair}
use Rattle.certificate_file.specs.declared.places.Header.{Header}
use Rattle.std.specs.Fmt.{decimal}
use Rattle.lrat_model.specs.Steps.{ProofStep}
use Rattle.lrat_text.specs.Texts.{line_of}
use Rattle.certificate_file.specs.Acceptance.{aim_word}
use Rattle.certificate_file.specs.declared.places.Aim.{Aim}
use Rattle.reach_kinds.specs.Kinds.{kind_word}
use Rattle.reach_kinds.specs.declared.kinds.ReachKind.TheVariants.{Nodes, Groups}
use Rattle.enumeration_journal.specs.Journals.{JournalLine}
use Rattle.enumeration_journal.specs.declared.kinds.ListKind.{ListKind}
use Rattle.enumeration_journal.specs.declared.kinds.Listed.{Listed}
use Rattle.enumeration_journal.specs.declared.kinds.Listed.TheVariants.{Smaller}
use Rattle.clause_encoder.specs.NameCounter.{counter_vars}
use Rattle.cert_writer.specs.Texts.{Text, joined, worded, name_if_any, header_lines, pair_front, kind_line, log_front, set_line, journal_line, group_journal_line, list_front, least_front, group_front}

pub spaced-append : (xs ys : List Text) → spaced (xs ++ ys) ≡ spaced xs ++ spaced ys
spaced-append [] ys = refl
spaced-append (x ∷ xs) ys = ap (λ (z : Text). 32 ∷ (x ++ z)) (spaced-append xs ys) ∙ ap (λ (z : Text). 32 ∷ z) (sym (append_assoc x (spaced xs) (spaced ys)))

pub joined-append : (xs ys : List Text) → joined (xs ++ ys) ≡ joined xs ++ joined ys
joined-append [] ys = refl
joined-append (x ∷ xs) ys = ap (λ (z : Text). x ++ 10 ∷ z) (joined-append xs ys) ∙ sym (append_assoc x (10 ∷ joined xs) (joined ys))

-- the names of some nodes
abbrev pub names_at : List Name → List ℕ → List Name
names_at names vs = map (λ v. slice_index_or names v []) vs

-- of one node more
pub names_push : (names : List Name) (vs : List ℕ) (v : ℕ) (name : Name) → slice_get names v ≡ Some name → spaced (names_at names vs) ++ 32 ∷ name ≡ spaced (names_at names (vs ++ v ∷ []))
names_push names vs v name at =
    let named = λ (v : ℕ). slice_index_or names v [] in
    sym (
    ap spaced (map-append named vs (v ∷ []))
    ∙ (spaced-append (names_at names vs) (named v ∷ [])
    ∙ ap (λ (z : Text). spaced (names_at names vs) ++ 32 ∷ z) (append-nil (named v) ∙ get_or_from_slice_get names v name [] at)))

-- of all nodes of a set
pub names_all : (names : List Name) (set : Table) (vs : List ℕ) → vs ≡ listed_from 0 set → length set ≡ length names → spaced (names_at names vs) ≡ spaced (kept set names)
names_all names set vs all e = ap (λ (vs : List ℕ). spaced (names_at names vs)) all ∙ ap spaced (sym (kept_listed set names [] e))

pub header_text : (names : List Name) (digest : List ℕ) (h : Header) → (((((codes "fbas-cert 3\nconfig" ++ 32 ∷ encode_lower digest) ++ codes "\nfrom") ++ spaced (name_if_any names h.from)) ++ codes "\nfaulty") ++ spaced (kept h.faulty names)) ++ codes "\n" ≡ joined (header_lines names digest h)
header_text names digest h = simp (append_assoc, append-nil)

pub pair_text : (names : List Name) (p : Pair) → (((codes "kind pair\nfirst" ++ spaced (kept p.first names)) ++ codes "\nsecond") ++ spaced (kept p.second names)) ++ codes "\n" ≡ joined (pair_front names p)
pair_text names p = simp (append_assoc, append-nil)

-- the name of a node that is there
pub from_text : (names : List Name) (v : ℕ) (name : Name) (from : Option ℕ) → from ≡ Some v → slice_get names v ≡ Some name → 32 ∷ name ≡ spaced (name_if_any names from)
from_text names v name from is at = rw (is, get_or_from_slice_get names v name [] at) (ap (λ (z : Text). 32 ∷ z) (sym (append-nil name)))

-- the lines up to the next step
pub lines_more : {A : Type 0} (line : A → Text) (xs : List A) (i : ℕ) (d : A) → i < length xs → joined (map line (take i xs)) ++ (line (slice_index_or xs i d) ++ 10 ∷ []) ≡ joined (map line (take (i + 1) xs))
lines_more {A = A} line xs i d low = sym (
    ap (λ (ys : List A). joined (map line ys)) (take_more xs i d low)
    ∙ ap joined (map-append line (take i xs) (slice_index_or xs i d ∷ []))
    ∙ joined-append (map line (take i xs)) (line (slice_index_or xs i d) ∷ []))

pub kind_text : (word : Text) → ((codes "kind" ++ 32 ∷ word) ++ codes "\n") ≡ kind_line word ++ 10 ∷ []
kind_text word = simp (append_assoc, append-nil)

-- a line, one of a word and a text, and those after it
digits_text : (kind word digits rest : Text) → ((((kind ++ 10 ∷ []) ++ word) ++ 32 ∷ digits) ++ codes "\n") ++ rest ≡ kind ++ 10 ∷ (worded word (digits ∷ []) ++ 10 ∷ rest)
digits_text kind word digits rest = simp (append_assoc, append-nil)

-- the same with two texts
numbers_text : (kind word first second rest : Text) → (((((kind ++ 10 ∷ []) ++ word) ++ 32 ∷ first) ++ 32 ∷ second) ++ codes "\n") ++ rest ≡ kind ++ 10 ∷ (worded word (first ∷ second ∷ []) ++ 10 ∷ rest)
numbers_text kind word first second rest = simp (append_assoc, append-nil)

pub log_text : (to : Aim) (vars clauses : ℕ) (log : List ProofStep) → (((((kind_line (aim_word to) ++ 10 ∷ []) ++ codes "formula") ++ 32 ∷ decimal vars) ++ 32 ∷ decimal clauses) ++ codes "\n") ++ joined (map line_of log) ≡ joined (log_front to vars clauses log)
log_text to vars clauses log = numbers_text (kind_line (aim_word to)) (codes "formula") (decimal vars) (decimal clauses) (joined (map line_of log))

pub both_texts : (xs ys : List Text) → joined xs ++ joined ys ≡ joined (xs ++ ys)
both_texts xs ys = sym (joined-append xs ys)

-- the lines that are left
pub lines_rest : {A : Type 0} (line : A → Text) (xs : List A) (i : ℕ) → joined (map line (take i xs)) ++ joined (map line (drop i xs)) ≡ joined (map line xs)
lines_rest {A = A} line xs i =
    sym (joined-append (map line (take i xs)) (map line (drop i xs)))
    ∙ ap joined (sym (map-append line (take i xs) (drop i xs)))
    ∙ ap (λ (ys : List A). joined (map line ys)) (take-append-drop i xs)

pub set_text : (letter id : ℕ) (names : List Name) (set : Table) → (((letter ∷ []) ++ 32 ∷ decimal id) ++ spaced (kept set names)) ++ 10 ∷ [] ≡ set_line (letter ∷ []) id names set ++ 10 ∷ []
set_text letter id names set = simp (append_assoc, append-nil)

-- one line more
pub lines_push : {A : Type 0} (line : A → Text) (xs : List A) (x : A) → joined (map line xs) ++ (line x ++ 10 ∷ []) ≡ joined (map line (xs ++ x ∷ []))
lines_push line xs x = sym (ap joined (map-append line xs (x ∷ [])) ∙ joined-append (map line xs) (line x ∷ []))

-- lines that are left
pub lines_left : {A : Type 0} (line : A → Text) (xs ys zs : List A) → xs ++ ys ≡ zs → joined (map line xs) ++ joined (map line ys) ≡ joined (map line zs)
lines_left {A = A} line xs ys zs is = sym (joined-append (map line xs) (map line ys)) ∙ ap joined (sym (map-append line xs ys)) ∙ ap (λ (all : List A). joined (map line all)) is

pub list_text : (sought : Listed) (kind : ListKind) (names : List Name) (journal : List JournalLine) → (kind_line (kind_word (Nodes sought) kind) ++ 10 ∷ []) ++ joined (map (journal_line names) journal) ≡ joined (list_front names sought kind journal)
list_text sought kind names journal = append_assoc (kind_line (kind_word (Nodes sought) kind)) (10 ∷ []) (joined (map (journal_line names) journal))

pub least_text : (g : ℕ) (kind : ListKind) (names : List Name) (journal : List JournalLine) → (((((kind_line (kind_word (Nodes Smaller) kind) ++ 10 ∷ []) ++ codes "counter") ++ 32 ∷ decimal (counter_vars g)) ++ 32 ∷ decimal (g * g)) ++ codes "\n") ++ joined (map (journal_line names) journal) ≡ joined (least_front names g kind journal)
least_text g kind names journal = numbers_text (kind_line (kind_word (Nodes Smaller) kind)) (codes "counter") (decimal (counter_vars g)) (decimal (g * g)) (joined (map (journal_line names) journal))

pub group_text : (names texts : List Name) (orgs : List ℕ) (kind : ListKind) (journal : List JournalLine) → ((((kind_line (kind_word Groups kind) ++ 10 ∷ []) ++ codes "orgs") ++ 32 ∷ encode_lower orgs) ++ codes "\n") ++ joined (map (group_journal_line names texts) journal) ≡ joined (group_front names texts orgs kind journal)
group_text names texts orgs kind journal = digits_text (kind_line (kind_word Groups kind)) (codes "orgs") (encode_lower orgs) (joined (map (group_journal_line names texts) journal))
