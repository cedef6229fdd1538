-- The first four lines of a certificate, taken.
use Rattle.std.proofs.Common.{◌≡◌, ℕ, zero, suc, ◌*◌, ◌/◌, ◌%◌, ◌≤◌, ◌<◌, List, [], ◌∷◌, length, true, Option, Some, None, IfSome, Ok, slice_index, slice_index_or, codes, refl, arith, length-append}
use Rattle.std.specs.List.{AllByRecursion}
use Rattle.std.proofs.lemmas.Bool.{and_from}
use Rattle.std.proofs.lemmas.List.Elements.{All-from_recursion}
use Rattle.hex.specs.Hex.{IsBytes, encode_with, encode_lower, lower_digits}
use Rattle.hex.proofs.HexLemmas.{decode_sized-encode_lower, length-encode_with}
use Rattle.lrat_text.specs.Left.{spaced}
use Rattle.fbas_model.proofs.Kept.{kept_le}
use Rattle.fbas_model.specs.Nodes.{Table}
use Rattle.fbas_model.specs.Names.{Name, is_key, place_of}
use Rattle.fbas_model.specs.Systems.{System}
use Rattle.fbas_model.specs.Restriction.{kept}
use Rattle.cert_lines.specs.Words.{is_name, digest_in}
use Rattle.clause_encoder.specs.declared.version.Version.TheVariants.{Three}
use Rattle.certificate_file.specs.Acceptance.{take_line}
use Rattle.certificate_file.specs.Meaning.{part_from}
use Rattle.certificate_file.specs.declared.given.Given.{Given}
use Rattle.certificate_file.specs.declared.places.Header.{Header}
use Rattle.certificate_file.specs.declared.places.Place.TheVariants.{AtTitle, AtDigest, AtFrom, AtFaulty, AtKind}
use Rattle.certificate_file.specs.declared.places.State.{State}
use Rattle.certificate_file.specs.declared.places.State.TheVariants.{Going}
use Rattle.cert_writer.specs.Texts.{Text, worded, listed, name_if_any, header_lines}
use Rattle.cert_writer.specs.Promises.{IsHeader, subject}
use Rattle.cert_writer.proofs.Joined.{Takes, IsLine, AreLines}
use Rattle.cert_writer.proofs.Words.{IsWordByte, IsWord, is_word, is_plain, same_text, words_of-worded, names_after-worded, plain-worded, length-spaced}
use Rattle.fbas_model.proofs.SortedNames.{place-found}
use Rattle.fbas_model.specs.declared.TheConstants.{MOST_NODES, MOST_KEY_BYTES}
use Rattle.cert_writer.proofs.Names.{AreNames, most_text_bytes, key, key_short, listable, texts-kept, words-texts, short-texts, named-listed}

-- ---- the digest

abbrev IsDigit : ℕ → Type 0
IsDigit b = IsWordByte b

at_table : (t : List ℕ) → AllByRecursion IsDigit t → IsDigit 0 → (k : ℕ) → IsDigit (slice_index t k)
at_table [] all none k = none
at_table (b ∷ t) all none zero = all.0
at_table (b ∷ t) all none (suc k) = at_table t all.1 none k

digits_table : AllByRecursion IsDigit lower_digits
digits_table = is_word lower_digits refl

encoded : (t xs : List ℕ) → AllByRecursion IsDigit t → IsDigit 0 → IsWord (encode_with t xs)
unfolding encode_with
encoded t [] all none = tt
encoded t (b ∷ xs) all none = (at_table t all none (b / 16), (at_table t all none (b % 16), encoded t xs all none))

pub digits_word : (digest : List ℕ) → IsWord (encode_lower digest)
digits_word digest = encoded lower_digits digest digits_table (record { no_feed = refl; no_space = refl })

pub is_config : IsWord (codes "config")
is_config = is_word (codes "config") refl

pub digest_read : (digest : List ℕ) → length digest ≡ 32 → IsBytes digest → digest_in (worded (codes "config") (encode_lower digest ∷ [])) ≡ Some digest
digest_read digest size bytes =
    rw (words_of-worded (codes "config") (encode_lower digest ∷ []) is_config (digits_word digest, tt), decode_sized-encode_lower digest 32 size bytes, same_text (encode_lower digest)) refl

-- ---- the first four lines

-- the place after the line `from`
abbrev at_part : System → Option ℕ → State
at_part f from = Going (AtFaulty Three from (part_from f from))

from_taken : (f : System) (given : Given) (from : Option ℕ) → AreNames f.names → IfSome from (λ v. v < length f.names) → take_line f given (AtFrom Three) 3 (worded (codes "from") (name_if_any f.names from)) ≡ Ok (at_part f from)
unfolding take_line
from_taken f given None are low = refl
from_taken f given (Some v) are low =
    let name = slice_index_or f.names v [] in
    let k : is_key name ≡ true = All-from_recursion (λ (n : Name). is_key n ≡ true) f.names are.keys v [] low in
    let word : IsWord name = (key name k).0 in
    let place : place_of f.names name ≡ Some v = place-found f.names name v are.sorted low refl in
    rw (names_after-worded (codes "from") (name ∷ []) (is_word (codes "from") refl) (word, tt) (and_from (is_name name) true (key name k).1 refl) refl, place) refl

pub takes_header : (f : System) (given : Given) (h : Header) → AreNames f.names → length given.digest ≡ 32 → IsBytes given.digest → IsHeader f h → Takes f given 1 (Going AtTitle) (header_lines f.names given.digest h) (Going (AtKind (subject f h)))
unfolding take_line
takes_header f given h are size bytes is =
    let digest : take_line f given (AtDigest Three) 2 (worded (codes "config") (encode_lower given.digest ∷ [])) ≡ Ok (Going (AtFrom Three)) = rw (digest_read given.digest size bytes, same_text given.digest) refl in
    let faulty : take_line f given (AtFaulty Three h.from (part_from f h.from)) 4 (listed (codes "faulty") f.names h.faulty) ≡ Ok (Going (AtKind (subject f h))) =
    rw (named-listed f.names 4 (codes "faulty") h.faulty (is_word (codes "faulty") refl) are is.faulty, is.cut) refl in
    (Going (AtDigest Three), refl, (Going (AtFrom Three), digest, (at_part f h.from, from_taken f given h.from are is.node, (Going (AtKind (subject f h)), faulty, refl))))

-- ---- each is a line

pub line_listed : (word : Text) (names : List Name) (set : Table) → IsWord word → length word ≤ 100 → AreNames names → length names ≤ MOST_NODES → IsLine (listed word names set)
line_listed word names set is short are few =
    let texts = texts-kept set names (listable names are).texts in record {
      plain = plain-worded word (kept set names) is (words-texts (kept set names) texts);
      short =
          let rest = length-spaced most_text_bytes (kept set names) (short-texts (kept set names) texts) in
          omega (arith, length-append word (spaced (kept set names)), kept_le set names);
    }

line_digest : (d : List ℕ) → length d ≡ 32 → IsLine (worded (codes "config") (encode_lower d ∷ []))
line_digest d size = record {
  plain = plain-worded (codes "config") (encode_lower d ∷ []) is_config (digits_word d, tt);
  short =
      let long : length (encode_lower d) ≡ 2 * length d = length-encode_with lower_digits d in
      omega (arith, length-append (codes "config") (spaced (encode_lower d ∷ [])), length-append (encode_lower d) [], long, size);
}

line_from : (names : List Name) (from : Option ℕ) → AreNames names → IfSome from (λ v. v < length names) → IsLine (worded (codes "from") (name_if_any names from))
line_from names None are low = record { plain = is_plain (codes "from") refl; short = omega arith }
line_from names (Some v) are low =
    let name = slice_index_or names v [] in
    let k : is_key name ≡ true = All-from_recursion (λ (n : Name). is_key n ≡ true) names are.keys v [] low in
    let short : length name ≤ MOST_KEY_BYTES = key_short name k in
    record {
      plain = plain-worded (codes "from") (name ∷ []) (is_word (codes "from") refl) ((key name k).0, tt);
      short = omega (arith, length-append (codes "from") (spaced (name ∷ [])), length-append name []);
    }

pub lines_header : (f : System) (d : List ℕ) (h : Header) → AreNames f.names → length f.names ≤ MOST_NODES → length d ≡ 32 → IsHeader f h → AreLines (header_lines f.names d h)
lines_header f d h are few size is = (
  record { plain = is_plain (codes "fbas-cert 3") refl; short = omega arith },
  (
    line_digest d size,
    (
      line_from f.names h.from are is.node,
      (line_listed (codes "faulty") f.names h.faulty (is_word (codes "faulty") refl) (omega arith) are few, tt),
    ),
  ),
)
