-- The line of a step is one that a certificate may have.
use Rattle.std.proofs.Common.{◌≡◌, ℕ, zero, suc, ◌+◌, ◌≤◌, ◌<◌, ◌^◌, List, [], ◌∷◌, ◌++◌, length, map, eqb, true, false, ◌==◌, nat_lt, None, inl, inr, refl, sym, ◌∙◌, ap, subst, arith, codes, ℤ, pos, negsuc, length-append}
use Rattle.std.specs.List.{AllByRecursion, list_any, IsDistinct as AreDistinct}
use Rattle.std.specs.Fmt.{decimal, signed_decimal}
use Rattle.std.specs.Str.Parse.{AllDigits}
use Rattle.std.proofs.lemmas.Bool.{cases_Bool, false≢true, or_cases, eqb-true}
use Rattle.std.proofs.lemmas.Bool.Decides.{nat_tests}
use Rattle.std.proofs.lemmas.List.{length-map}
use Rattle.std.proofs.lemmas.List.Elements.{recursion_from_All}
use Rattle.std.proofs.lemmas.Str.Parse.{digit_from_value}
use Rattle.std.proofs.lemmas.Fmt.{decimal_is_IsNumeral, length-decimal-le}
use Rattle.std.proofs.lemmas.Map.Steps.{length-le_from_distinct_below}
use Rattle.lrat_model.specs.Literal.{Literal, Plus, Minus, variable_of, negated, same, has}
use Rattle.lrat_model.specs.Steps.{Addition, Deletion, literal_fault}
use Rattle.lrat_model.proofs.Literals.{same-true, has-first, has-rest, has-push}
use Rattle.lrat_text.specs.Words.{Word}
use Rattle.lrat_text.specs.Left.{spaced}
use Rattle.lrat_text.specs.Texts.{literal_text, line_of, IsId, IsHint, IsLiteral}
use Rattle.lrat_text.proofs.BackLaws.{joined as joined_words}
use Rattle.cdcl_core.specs.Log.{IsDistinct}
use Rattle.clause_encoder.specs.declared.limits.TheConstants.{MOST_VARS}
use Rattle.cert_writer.proofs.Joined.{IsLine}
use Rattle.cert_writer.proofs.Words.{IsWordByte, IsWord, AreWords, is_word, plain-worded, length-spaced}
use Rattle.cert_lines.specs.declared.lines.TheConstants.{MAX_LINE_BYTES}

-- ---- the words of a step

digit_byte : (c : ℕ) → 48 ≤ c → IsWordByte c
digit_byte c h = record { no_feed = grind (arith, nat_tests); no_space = grind (arith, nat_tests) }

digits_word : (word : Word) → AllDigits 10 word → IsWord word
digits_word [] all = tt
digits_word (c ∷ word) all = (digit_byte c (digit_from_value c all.0).0, digits_word word all.1)

pub decimal_word : (n : ℕ) → n < 2 ^ 64 → IsWord (decimal n)
decimal_word n s = let all : _ = decimal_is_IsNumeral n s in digits_word (decimal n) all.0.1

minus_word : (word : Word) → IsWord word → IsWord (45 ∷ word)
minus_word word is = (record { no_feed = refl; no_space = refl }, is)

literal_word : (l : Literal) → IsLiteral l → IsWord (literal_text l) × (length (literal_text l) ≤ 11)
literal_word (Plus n) is = (decimal_word n (omega (arith, is.1)), let h : length (decimal n) ≤ 10 = length-decimal-le 10 n (omega arith) (omega (arith, is.1)) (omega (arith, is.1)) in omega arith)
literal_word (Minus zero) is = absurd (omega (arith, is.0))
literal_word (Minus (suc n)) is = (minus_word (decimal (suc n)) (decimal_word (suc n) (omega (arith, is.1))), let h : length (decimal (suc n)) ≤ 10 = length-decimal-le 10 (suc n) (omega arith) (omega (arith, is.1)) (omega (arith, is.1)) in omega arith)

hint_word : (hint : ℤ) → IsHint hint → IsWord (signed_decimal hint) × (length (signed_decimal hint) ≤ 20)
hint_word (pos n) is = (decimal_word n (omega (arith, is.1)), let h : length (decimal n) ≤ 19 = length-decimal-le 19 n (omega arith) (omega (arith, is.1)) (omega (arith, is.1)) in omega arith)
hint_word (negsuc n) is = (minus_word (decimal (suc n)) (decimal_word (suc n) (omega (arith, is))), let h : length (decimal (suc n)) ≤ 19 = length-decimal-le 19 (suc n) (omega arith) (omega (arith, is)) (omega (arith, is)) in omega arith)

id_word : (id : ℕ) → IsId id → IsWord (decimal id) × (length (decimal id) ≤ 20)
id_word id is = (decimal_word id (omega (arith, is.1)), let h : length (decimal id) ≤ 19 = length-decimal-le 19 id (omega arith) (omega (arith, is.1)) (omega (arith, is.1)) in omega arith)

-- where each of a list has a word of at most this many bytes
words_of_each : {A : Type 0} (word : A → Word) (Is : A → Type 0) (most : ℕ) → ((x : A) → Is x → IsWord (word x) × (length (word x) ≤ most)) → (xs : List A) → AllByRecursion Is xs → AreWords (map word xs) × AllByRecursion (λ (w : Word). length w ≤ most) (map word xs)
words_of_each word Is most one [] all = (tt, tt)
words_of_each word Is most one (x ∷ xs) all =
    let first = one x all.0 in
    let rest = words_of_each word Is most one xs all.1 in
    ((first.0, rest.0), (first.1, rest.1))

literal_words : (lits : List Literal) → AllByRecursion IsLiteral lits → AreWords (map literal_text lits) × AllByRecursion (λ (w : Word). length w ≤ 11) (map literal_text lits)
literal_words lits all = words_of_each literal_text IsLiteral 11 literal_word lits all

hint_words : (hints : List ℤ) → AllByRecursion IsHint hints → AreWords (map signed_decimal hints) × AllByRecursion (λ (w : Word). length w ≤ 20) (map signed_decimal hints)
hint_words hints all = words_of_each signed_decimal IsHint 20 hint_word hints all

id_words : (ids : List ℕ) → AllByRecursion IsId ids → AreWords (map decimal ids) × AllByRecursion (λ (w : Word). length w ≤ 20) (map decimal ids)
id_words ids all = words_of_each decimal IsId 20 id_word ids all

words-append : (xs ys : List Word) → AreWords xs → AreWords ys → AreWords (xs ++ ys)
words-append [] ys a b = b
words-append (x ∷ xs) ys a b = (a.0, words-append xs ys a.1 b)

length-spaced-append : (xs ys : List Word) → length (spaced (xs ++ ys)) ≡ length (spaced xs) + length (spaced ys)
length-spaced-append [] ys = omega arith
length-spaced-append (x ∷ xs) ys = let e = length-spaced-append xs ys in omega (arith, e, length-append x (spaced (xs ++ ys)), length-append x (spaced xs))

zero_word : IsWord (codes "0")
zero_word = is_word (codes "0") refl

-- the words after the id of a lemma
abbrev pub lemma_words : List Literal → List ℤ → List Word
lemma_words lits hints = map literal_text lits ++ codes "0" ∷ (map signed_decimal hints ++ codes "0" ∷ [])

pub words_lemma : (lits : List Literal) (hints : List ℤ) → AllByRecursion IsHint hints → AllByRecursion IsLiteral lits → AreWords (lemma_words lits hints)
words_lemma lits hints hs ls =
    words-append (map literal_text lits) (codes "0" ∷ (map signed_decimal hints ++ codes "0" ∷ [])) (literal_words lits ls).0 (zero_word, words-append (map signed_decimal hints) (codes "0" ∷ []) (hint_words hints hs).0 (zero_word, tt))

pub line_words : (id : ℕ) (lits : List Literal) (hints : List ℤ) → line_of (Addition id lits hints) ≡ decimal id ++ spaced (lemma_words lits hints)
line_words id lits hints = joined_words (decimal id) (lemma_words lits hints)

-- the line of a lemma with so few literals and hints
pub line_addition : (id : ℕ) (lits : List Literal) (hints : List ℤ) → IsId id → AllByRecursion IsHint hints → AllByRecursion IsLiteral lits → length lits ≤ 1 + MOST_VARS → length hints ≤ 1 + MOST_VARS → IsLine (line_of (Addition id lits hints))
line_addition id lits hints is hs ls few_lits few_hints =
    let ends : List Word = codes "0" ∷ [] in
    let tail : List Word = map signed_decimal hints ++ ends in
    let rest : List Word = lemma_words lits hints in
    let first : IsWord (decimal id) = decimal_word id (omega (arith, is.1)) in
    let head : length (decimal id) ≤ 19 = length-decimal-le 19 id (omega arith) (omega (arith, is.1)) (omega (arith, is.1)) in
    let a = length-spaced 11 (map literal_text lits) (literal_words lits ls).1 in
    let b = length-spaced 20 (map signed_decimal hints) (hint_words hints hs).1 in
    let c = length-spaced-append (map literal_text lits) (codes "0" ∷ tail) in
    let e = length-spaced-append (map signed_decimal hints) ends in
    let total : length (decimal id ++ spaced rest) ≤ MAX_LINE_BYTES = omega (arith, a, b, c, e, length-append (decimal id) (spaced rest), length-map lits literal_text, length-map hints signed_decimal) in
    subst IsLine (sym (line_words id lits hints)) (record { plain = plain-worded (decimal id) rest first (words_lemma lits hints hs ls); short = total })

delete_word : IsWord (codes "d")
delete_word = is_word (codes "d") refl

-- the words after the id of a deletion
abbrev pub deletion_words : List ℕ → List Word
deletion_words ids = codes "d" ∷ (map decimal ids ++ codes "0" ∷ [])

pub words_deletion : (ids : List ℕ) → AllByRecursion IsId ids → AreWords (deletion_words ids)
words_deletion ids all = (delete_word, words-append (map decimal ids) (codes "0" ∷ []) (id_words ids all).0 (zero_word, tt))

pub deletion_line_words : (id : ℕ) (ids : List ℕ) → line_of (Deletion id ids) ≡ decimal id ++ spaced (deletion_words ids)
deletion_line_words id ids = joined_words (decimal id) (deletion_words ids)

-- the line of a deletion of so few ids
pub line_deletion : (id : ℕ) (ids : List ℕ) → IsId id → AllByRecursion IsId ids → length ids ≤ 1000 → IsLine (line_of (Deletion id ids))
line_deletion id ids is all few =
    let ends : List Word = codes "0" ∷ [] in
    let rest : List Word = deletion_words ids in
    let first : IsWord (decimal id) = decimal_word id (omega (arith, is.1)) in
    let head : length (decimal id) ≤ 19 = length-decimal-le 19 id (omega arith) (omega (arith, is.1)) (omega (arith, is.1)) in
    let a = length-spaced 20 (map decimal ids) (id_words ids all).1 in
    let e = length-spaced-append (map decimal ids) ends in
    let total : length (decimal id ++ spaced rest) ≤ MAX_LINE_BYTES = omega (arith, a, e, length-append (decimal id) (spaced rest), length-map ids decimal) in
    subst IsLine (sym (deletion_line_words id ids)) (record { plain = plain-worded (decimal id) rest first (words_deletion ids all); short = total })

-- ---- few literals: a lemma that is taken has each variable once

other_variable : (l m : Literal) → same l m ≡ false → same (negated m) l ≡ false → (variable_of l == variable_of m) ≡ false
other_variable (Plus x) (Plus y) a b = a
other_variable (Minus x) (Minus y) a b = a
other_variable (Plus x) (Minus y) a b = grind (arith, nat_tests)
other_variable (Minus x) (Plus y) a b = grind (arith, nat_tests)

-- what is known of a literal that has no fault
no_fault : (vars : ℕ) (before : List Literal) (m : Literal) (ms : List Literal) → literal_fault vars before (m ∷ ms) ≡ None → (variable_of m ≤ vars) × (has before (negated m) ≡ false) × (literal_fault vars (before ++ m ∷ []) ms ≡ None)
no_fault vars before m ms e = elim (cases_Bool (nat_lt vars (variable_of m))) [
  | inl out ↦ let k = rw out at e in absurd cc
  | inr within ↦ elim (cases_Bool (has before (negated m))) [
    | inl twice ↦ let k = rw (within, twice) at e in absurd cc
    | inr once ↦ (grind (arith, nat_tests), once, rw (within, once) at e)
  ]
]

-- no later literal is the negation of one before
not_negated : (vars : ℕ) (before : List Literal) (ms : List Literal) (l : Literal) → literal_fault vars before ms ≡ None → has before l ≡ true → AllByRecursion (λ (m : Literal). same (negated m) l ≡ false) ms
not_negated vars before [] l e at = tt
not_negated vars before (m ∷ ms) l e at =
    let k = no_fault vars before m ms e in (
      elim (cases_Bool (same (negated m) l)) [
        | inl is ↦ absurd (false≢true (sym k.1 ∙ ap (has before) (same-true (negated m) l is) ∙ at))
        | inr not_it ↦ not_it
      ],
      not_negated vars (before ++ m ∷ []) ms l k.2 (has-push before m l ∙ has-rest m l before at),
    )

abbrev Apart : Literal → List Literal → Type 0
Apart l ms = AllByRecursion (λ (m : Literal). same l m ≡ false) ms

variables_apart : (l : Literal) (ms : List Literal) → Apart l ms → AllByRecursion (λ (m : Literal). same (negated m) l ≡ false) ms → AllByRecursion (λ y. (variable_of l == y) ≡ false) (map variable_of ms)
variables_apart l [] a b = tt
variables_apart l (m ∷ ms) a b = (other_variable l m a.0 b.0, variables_apart l ms a.1 b.1)

-- a list of pairs, at its front
pairs_first : (l : Literal) (ms : List Literal) → IsDistinct (l ∷ ms) → Apart l ms
pairs_first l ms all = recursion_from_All (λ (m : Literal). same l m ≡ false) ms (λ k d less. all 0 (suc k) d (omega arith) (omega (arith, less)))

pairs_rest : (l : Literal) (ms : List Literal) → IsDistinct (l ∷ ms) → IsDistinct ms
pairs_rest l ms all = λ i j d less within. all (suc i) (suc j) d (omega (arith, less)) (omega (arith, within))

variables_distinct : (vars : ℕ) (before lits : List Literal) → literal_fault vars before lits ≡ None → IsDistinct lits → AreDistinct eqb (map variable_of lits)
unfolding AreDistinct
variables_distinct vars before [] e all = tt
variables_distinct vars before (l ∷ ms) e all =
    let k = no_fault vars before l ms e in
    let here : has (before ++ l ∷ []) l ≡ true = has-push before l l ∙ has-first l before in (
      variables_apart l ms (pairs_first l ms all) (not_negated vars (before ++ l ∷ []) ms l k.2 here),
      variables_distinct vars (before ++ l ∷ []) ms k.2 (pairs_rest l ms all),
    )

variables_below : (vars : ℕ) (before lits : List Literal) → literal_fault vars before lits ≡ None → (q : ℕ) → list_any (eqb q) (map variable_of lits) ≡ true → q < vars + 1
variables_below vars before [] e q h = absurd cc
variables_below vars before (l ∷ ms) e q h =
    let k = no_fault vars before l ms e in
    elim (or_cases (eqb q (variable_of l)) (list_any (eqb q) (map variable_of ms)) h) [
      | inl first ↦ let is : q ≡ variable_of l = eqb-true q (variable_of l) first in omega (arith, is, k.0)
      | inr later ↦ variables_below vars (before ++ l ∷ []) ms k.2 q later
    ]

-- at most one more than there are variables, counting 0
pub few_literals : (vars : ℕ) (lits : List Literal) → literal_fault vars [] lits ≡ None → IsDistinct lits → length lits ≤ vars + 1
few_literals vars lits e all =
    let few = length-le_from_distinct_below (map variable_of lits) (vars + 1) (variables_distinct vars [] lits e all) (variables_below vars [] lits e) in
    omega (arith, few, length-map lits variable_of)
