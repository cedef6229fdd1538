-- A word and others after it, read back.
use Rattle.std.proofs.Common.{◌≡◌, ℕ, suc, ◌*◌, ◌≤◌, List, [], ◌∷◌, ◌++◌, length, Bool, true, false, not, ◌&&◌, ◌==◌, Some, refl, ap, arith, length-append}
use Rattle.std.specs.List.{AllByRecursion, list_all}
use Rattle.std.specs.Str.{bytes_eq}
use Rattle.std.proofs.lemmas.Bool.{and_parts}
use Rattle.std.proofs.lemmas.Bool.Decides.{nat_tests}
use Rattle.std.proofs.lemmas.Slice.Eq.{bytes_eq-Decides}
use Rattle.lrat_text.specs.Left.{spaced}
use Rattle.cert_lines.specs.Words.{Word, words_of, names_after, is_name, is_rising}
use Rattle.cert_writer.specs.Texts.{Text, worded}
use Rattle.cert_writer.proofs.Joined.{IsPlain}

-- neither a line feed nor a space
pub record IsWordByte (b : ℕ) : Type 0 where
  pub no_feed : (b == 10) ≡ false
  pub no_space : (b == 32) ≡ false

abbrev pub IsWord : Word → Type 0
IsWord word = AllByRecursion IsWordByte word

abbrev pub AreWords : List Word → Type 0
AreWords words = AllByRecursion IsWord words

-- the same, computed
abbrev pub is_word_byte : ℕ → Bool
is_word_byte b = not (b == 10) && not (b == 32)

pub is_word : (word : Word) → list_all is_word_byte word ≡ true → IsWord word
is_word [] h = tt
is_word (b ∷ word) h =
    let p = and_parts (is_word_byte b) (list_all is_word_byte word) h in
    let q = and_parts (not (b == 10)) (not (b == 32)) p.0 in
    (record { no_feed = grind (arith, nat_tests); no_space = grind (arith, nat_tests) }, is_word word p.1)

pub is_plain : (text : Text) → list_all (λ b. not (b == 10)) text ≡ true → IsPlain text
is_plain [] h = tt
is_plain (b ∷ text) h =
    let p = and_parts (not (b == 10)) (list_all (λ x. not (x == 10)) text) h in
    (grind (arith, nat_tests), is_plain text p.1)

pub same_text : (text : Text) → bytes_eq text text ≡ true
same_text text = (bytes_eq-Decides text text).1 refl

pub plain-append : (xs ys : Text) → IsPlain xs → IsPlain ys → IsPlain (xs ++ ys)
plain-append [] ys a b = b
plain-append (x ∷ xs) ys a b = (a.0, plain-append xs ys a.1 b)

pub plain-word : (word : Word) → IsWord word → IsPlain word
plain-word [] is = tt
plain-word (b ∷ word) is = (is.0.no_feed, plain-word word is.1)

pub plain-spaced : (words : List Word) → AreWords words → IsPlain (spaced words)
plain-spaced [] are = tt
plain-spaced (w ∷ words) are = (refl, plain-append w (spaced words) (plain-word w are.0) (plain-spaced words are.1))

pub plain-worded : (word : Word) (words : List Word) → IsWord word → AreWords words → IsPlain (worded word words)
plain-worded word words is are = plain-append word (spaced words) (plain-word word is) (plain-spaced words are)

-- how long words of at most this many bytes are, with a space before each
pub length-spaced : (most : ℕ) (words : List Word) → AllByRecursion (λ (w : Word). length w ≤ most) words → length (spaced words) ≤ length words * suc most
length-spaced most [] all = omega arith
length-spaced most (w ∷ words) all = let rest = length-spaced most words all.1 in let first : length w ≤ most = all.0 in omega (arith, length-append w (spaced words))

behind_word : (word : Word) (rest : Text) (words : List Word) → IsWord word → words_of rest ≡ [] ∷ words → words_of (word ++ rest) ≡ word ∷ words
behind_word [] rest words is e = e
behind_word (b ∷ word) rest words is e = rw (is.0.no_space, behind_word word rest words is.1 e) refl

words_of-spaced : (words : List Word) → AreWords words → words_of (spaced words) ≡ [] ∷ words
words_of-spaced [] are = refl
words_of-spaced (w ∷ words) are = ap (λ (ws : List Word). [] ∷ ws) (behind_word w (spaced words) words are.0 (words_of-spaced words are.1))

pub words_of-worded : (word : Word) (words : List Word) → IsWord word → AreWords words → words_of (worded word words) ≡ word ∷ words
words_of-worded word words is are = behind_word word (spaced words) words is (words_of-spaced words are)

-- names after a word
pub names_after-worded : (word : Word) (names : List Word) → IsWord word → AreWords names → list_all is_name names ≡ true → is_rising names ≡ true → names_after word (worded word names) ≡ Some names
names_after-worded word names is are named rising = rw (words_of-worded word names is are, same_text word, named, rising) refl
