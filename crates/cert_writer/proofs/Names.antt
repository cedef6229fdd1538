-- The names of a set, read back as the set.
use Rattle.std.proofs.Common.{◌≡◌, ℕ, ◌+◌, ◌≤◌, IsTrue, List, [], ◌∷◌, length, true, false, not, ◌&&◌, ◌==◌, nat_le, nat_lt, Some, Ok, Less, inl, inr, refl, sym, subst, arith}
use Rattle.std.specs.List.{All, AllByRecursion, list_all}
use Rattle.std.specs.List.Sorted.{IsStrictlySortedBy}
use Rattle.std.specs.Str.{bytes_eq}
use Rattle.std.proofs.lemmas.Bool.{cases_Bool, and_parts, and_from, or_left, or_right}
use Rattle.std.proofs.lemmas.Bool.Decides.{nat_tests}
use Rattle.std.proofs.lemmas.List.Elements.{recursion_from_All}
use Rattle.std.proofs.lemmas.Slice.Eq.{bytes_eq-Decides}
use Rattle.std.proofs.lemmas.Cmp.{tied_itself, nat_list_cmp_total}
use Rattle.fbas_model.specs.Nodes.{Table}
use Rattle.fbas_model.proofs.SortedNames.{kept_sorted}
use Rattle.fbas_model.specs.Names.{Name, name_cmp, is_key, is_key_byte, is_among, marks}
use Rattle.fbas_model.specs.Restriction.{kept}
use Rattle.fbas_model.specs.declared.TheConstants.{MOST_KEY_BYTES}
use Rattle.cert_lines.specs.Words.{Word, is_name, is_name_byte, is_rising, names_in, names_after}
use Rattle.certificate_file.specs.Acceptance.{named}
use Rattle.reach_kinds.specs.Bodies.{all_among, nodes_of}
use Rattle.cert_writer.specs.Texts.{listed}
use Rattle.cert_writer.proofs.Words.{IsWordByte, IsWord, AreWords, same_text, names_after-worded}

-- ---- keys are words

key_byte : (b : ℕ) → is_key_byte b ≡ true → IsWordByte b × (is_name_byte b ≡ true)
key_byte b h =
    let p = and_parts (nat_le 0x21 b && nat_le b 0x7E) (not (b == 44)) h in
    let q = and_parts (nat_le 0x21 b) (nat_le b 0x7E) p.0 in
    (record { no_feed = grind (arith, nat_tests); no_space = grind (arith, nat_tests) }, p.0)

key_bytes : (bytes : Name) → list_all is_key_byte bytes ≡ true → IsWord bytes × (list_all is_name_byte bytes ≡ true)
key_bytes [] h = (tt, refl)
key_bytes (b ∷ bytes) h =
    let p = and_parts (is_key_byte b) (list_all is_key_byte bytes) h in
    let first = key_byte b p.0 in
    let rest = key_bytes bytes p.1 in
    ((first.0, rest.0), and_from (is_name_byte b) (list_all is_name_byte bytes) first.1 rest.1)

pub key : (name : Name) → is_key name ≡ true → IsWord name × (is_name name ≡ true)
key name h =
    let p = and_parts (nat_le 1 (length name) && nat_le (length name) MOST_KEY_BYTES) (list_all is_key_byte name) h in
    let q = and_parts (nat_le 1 (length name)) (nat_le (length name) MOST_KEY_BYTES) p.0 in
    let bytes = key_bytes name p.1 in
    let long : nat_lt 0 (length name) ≡ true = q.0 in
    (bytes.0, and_from (nat_lt 0 (length name)) (list_all is_name_byte name) long bytes.1)

abbrev pub AreKeys : List Name → Type 0
AreKeys names = AllByRecursion (λ (n : Name). is_key n ≡ true) names

pub are_keys : (names : List Name) → All (λ name. IsTrue (is_key name)) names → AreKeys names
are_keys names all = recursion_from_All (λ (name : Name). is_key name ≡ true) names all

-- what is so of each name
each : (P Q : Name → Type 0) → ((n : Name) → P n → Q n) → (names : List Name) → AllByRecursion P names → AllByRecursion Q names
each P Q so [] all = tt
each P Q so (n ∷ names) all = (so n all.0, each P Q so names all.1)

-- and of each that is kept
each-kept : (P : Name → Type 0) (set : Table) (names : List Name) → AllByRecursion P names → AllByRecursion P (kept set names)
each-kept P [] names all = tt
each-kept P (m ∷ set) [] all = tt
each-kept P (true ∷ set) (n ∷ names) all = (all.0, each-kept P set names all.1)
each-kept P (false ∷ set) (n ∷ names) all = each-kept P set names all.1

pub keys-kept : (set : Table) (names : List Name) → AreKeys names → AreKeys (kept set names)
keys-kept set names all = each-kept (λ (n : Name). is_key n ≡ true) set names all

pub key_short : (name : Name) → is_key name ≡ true → length name ≤ MOST_KEY_BYTES
key_short name h =
    let p = and_parts (nat_le 1 (length name) && nat_le (length name) MOST_KEY_BYTES) (list_all is_key_byte name) h in
    let q = and_parts (nat_le 1 (length name)) (nat_le (length name) MOST_KEY_BYTES) p.0 in
    grind (arith, nat_tests)

-- ---- texts that a line may list: those of groups are longer than keys

-- a key with `node:` before it is as long as a text can be
abbrev pub most_text_bytes : ℕ
most_text_bytes = MOST_KEY_BYTES + 5

pub record IsText (text : Name) : Type 0 where
  pub word : IsWord text
  pub named : is_name text ≡ true
  pub short : length text ≤ most_text_bytes

abbrev pub AreTexts : List Name → Type 0
AreTexts names = AllByRecursion IsText names

key_text : (name : Name) → is_key name ≡ true → IsText name
key_text name h = record { word = (key name h).0; named = (key name h).1; short = omega (arith, key_short name h) }

texts-keys : (names : List Name) → AreKeys names → AreTexts names
texts-keys names all = each (λ (n : Name). is_key n ≡ true) IsText key_text names all

pub texts-kept : (set : Table) (names : List Name) → AreTexts names → AreTexts (kept set names)
texts-kept set names all = each-kept IsText set names all

pub words-texts : (names : List Name) → AreTexts names → AreWords names
words-texts names all = each IsText IsWord (λ n is. is.word) names all

named-texts : (names : List Name) → AreTexts names → list_all is_name names ≡ true
named-texts [] all = refl
named-texts (n ∷ names) all = and_from (is_name n) (list_all is_name names) all.0.named (named-texts names all.1)

pub short-texts : (names : List Name) → AreTexts names → AllByRecursion (λ (n : Name). length n ≤ most_text_bytes) names
short-texts names all = each IsText (λ (n : Name). length n ≤ most_text_bytes) (λ n is. is.short) names all

-- ---- sorted names

abbrev Above : Name → List Name → Type 0
Above n names = AllByRecursion (λ (m : Name). name_cmp n m ≡ Less) names

pub rising-sorted : (names : List Name) → IsStrictlySortedBy name_cmp names → is_rising names ≡ true
unfolding IsStrictlySortedBy
rising-sorted [] h = refl
rising-sorted (n ∷ []) h = refl
rising-sorted (n ∷ m ∷ names) h = let less = h.0.0 in rw less (rising-sorted (m ∷ names) h.1)

not_less : (name : Name) → name_cmp name name ≡ Less → ⊥
not_less name less = let tie = tied_itself nat_list_cmp_total name in cc

other_name : (n m : Name) → name_cmp n m ≡ Less → (bytes_eq n m ≡ false) × (bytes_eq m n ≡ false)
other_name n m less = (
  elim (cases_Bool (bytes_eq n m)) [
    | inl e ↦ absurd (not_less n (subst (λ (x : Name). name_cmp n x ≡ Less) (sym ((bytes_eq-Decides n m).0 e)) less))
    | inr e ↦ e
  ],
  elim (cases_Bool (bytes_eq m n)) [
    | inl e ↦ absurd (not_less n (subst (λ (x : Name). name_cmp n x ≡ Less) ((bytes_eq-Decides m n).0 e) less))
    | inr e ↦ e
  ],
)

none_among : (n : Name) (names : List Name) → Above n names → is_among n names ≡ false
none_among n [] all = refl
none_among n (m ∷ names) all = rw ((other_name n m all.0).0, none_among n names all.1) refl

-- a name below all others marks none of them
marks-below : (n : Name) (chosen names : List Name) → Above n names → marks names (n ∷ chosen) ≡ marks names chosen
marks-below n chosen [] all = refl
marks-below n chosen (m ∷ names) all = rw ((other_name n m all.0).1, marks-below n chosen names all.1) refl

pub marks-kept : (set : Table) (names : List Name) → length set ≡ length names → IsStrictlySortedBy name_cmp names → marks names (kept set names) ≡ set
unfolding IsStrictlySortedBy
marks-kept [] [] e h = refl
marks-kept [] (n ∷ names) e h = absurd cc
marks-kept (m ∷ set) [] e h = absurd cc
marks-kept (true ∷ set) (n ∷ names) e h = rw (same_text n, marks-below n (kept set names) names h.0, marks-kept set names (omega (arith, e)) h.1) refl
marks-kept (false ∷ set) (n ∷ names) e h = rw (none_among n (kept set names) (kept_sorted (true ∷ set) (n ∷ names) h).0, marks-kept set names (omega (arith, e)) h.1) refl

-- ---- all names are among themselves

abbrev AreAmong : List Name → List Name → Type 0
AreAmong all names = AllByRecursion (λ (n : Name). is_among n all ≡ true) names

more_among : (x : Name) (all names : List Name) → AreAmong all names → AreAmong (x ∷ all) names
more_among x all [] are = tt
more_among x all (n ∷ names) are = (or_right (bytes_eq n x) (is_among n all) are.0, more_among x all names are.1)

among_themselves : (names : List Name) → AreAmong names names
among_themselves [] = tt
among_themselves (n ∷ names) = (or_left (bytes_eq n n) (is_among n names) (same_text n), more_among n names names (among_themselves names))

among-kept : (all : List Name) (set : Table) (names : List Name) → AreAmong all names → all_among (kept set names) all ≡ true
among-kept all [] names are = refl
among-kept all (m ∷ set) [] are = refl
among-kept all (true ∷ set) (n ∷ names) are = and_from (is_among n all) (all_among (kept set names) all) are.0 (among-kept all set names are.1)
among-kept all (false ∷ set) (n ∷ names) are = among-kept all set names are.1

-- ---- a list of a set's names, read as a line

pub record AreNames (names : List Name) : Type 0 where
  pub keys : AreKeys names
  pub sorted : IsStrictlySortedBy name_cmp names

-- texts in order
pub record AreListable (names : List Name) : Type 0 where
  pub texts : AreTexts names
  pub sorted : IsStrictlySortedBy name_cmp names

pub listable : (names : List Name) → AreNames names → AreListable names
listable names are = record { texts = texts-keys names are.keys; sorted = are.sorted }

pub names_in-kept : (names : List Name) (set : Table) → AreListable names → names_in (kept set names) ≡ Some (kept set names)
names_in-kept names set are =
    rw (named-texts (kept set names) (texts-kept set names are.texts), rising-sorted (kept set names) (kept_sorted set names are.sorted)) refl

pub nodes_of-kept : (names : List Name) (l : ℕ) (set : Table) → IsStrictlySortedBy name_cmp names → length set ≡ length names → nodes_of names l (kept set names) ≡ Ok set
nodes_of-kept names l set sorted size = rw (among-kept names set names (among_themselves names), marks-kept set names size sorted) refl

pub names-kept : (set : Table) (names : List Name) → AreNames names → AreNames (kept set names)
names-kept set names are = record { keys = keys-kept set names are.keys; sorted = kept_sorted set names are.sorted }

pub names_after-listed : (word : Word) (names : List Name) (set : Table) → IsWord word → AreNames names → names_after word (listed word names set) ≡ Some (kept set names)
names_after-listed word names set is are =
    let texts = texts-kept set names (listable names are).texts in
    names_after-worded word (kept set names) is (words-texts (kept set names) texts) (named-texts (kept set names) texts) (rising-sorted (kept set names) (kept_sorted set names are.sorted))

pub named-listed : (names : List Name) (l : ℕ) (word : Word) (set : Table) → IsWord word → AreNames names → length set ≡ length names → named names l word (listed word names set) ≡ Ok set
named-listed names l word set is are size =
    rw (names_after-listed word names set is are, among-kept names set names (among_themselves names), marks-kept set names size are.sorted) refl
