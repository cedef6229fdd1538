-- The number of a word, digit by digit.
use Rattle.std.proofs.Common.{◌≡◌, ℕ, suc, ◌+◌, ◌*◌, ◌-◌, ◌<◌, ◌≤◌, Bool, List, [], ◌∷◌, length, get_or, drop, true, false, ◌&&◌, cond, Option, Some, None, refl, sym, ap, ◌∙◌, arith}
use Rattle.std.specs.Prelude.{nat_le, IfSome}
use Rattle.std.specs.List.{list_all}
use Rattle.std.specs.Char.{is_ascii_digit, digit_value}
use Rattle.std.specs.Str.Parse.{digits_value, digits_value_after}
use Rattle.std.proofs.Math.Seq.{drop-cons}
use Rattle.std.proofs.lemmas.Bool.{and_parts, leb-true, le-ltb, lt-ltb}
use Rattle.std.proofs.lemmas.Bool.Decides.{nat_tests}
use Rattle.lrat_text.specs.declared.numbers.TheConstants.{MOST_ID, MOST_TENTH}
use Rattle.lrat_text.specs.Words.{Word}
use Rattle.lrat_text.specs.Numbers.{digits_in, positive_in}

pub digit_is : (b : ℕ) → is_ascii_digit b ≡ true → (48 ≤ b) × (b ≤ 57) × (digit_value b ≡ b - 48)
digit_is b is =
    let both = and_parts _ _ is in
    let low : 48 ≤ b = leb-true 48 b both.0 in
    let high : b ≤ 57 = leb-true b 57 both.1 in (low, high, rw (le-ltb b 48 low, lt-ltb b 58 (omega (arith, high))) refl)

-- more digits make no number less
pub grows : (n : ℕ) (ds : List ℕ) → n ≤ digits_value_after 10 n ds
grows n [] = omega arith
grows n (d ∷ ds) = let more : n * 10 + digit_value d ≤ digits_value_after 10 (n * 10 + digit_value d) ds = grows (n * 10 + digit_value d) ds in omega arith

above : (b : Bool) (v most : ℕ) → most < v → None ≡ cond (b && nat_le v most) (Some v) None
above b v most h = grind (arith, nat_tests)

module _ (word : Word) (i b : ℕ) (within : i < length word) (here : b ≡ get_or word i 0) where
  split : drop i word ≡ b ∷ drop (i + 1) word
  split =
      let one : suc i ≡ i + 1 = omega arith in
      drop-cons word i 0 within ∙ ap (λ (n : ℕ). get_or word i 0 ∷ drop n word) one ∙ ap (λ (k : ℕ). k ∷ drop (i + 1) word) (sym here)

  -- the value after one digit more
  pub value_more : (n : ℕ) → is_ascii_digit b ≡ true → digits_value_after 10 n (drop i word) ≡ digits_value 10 word → digits_value_after 10 (n * 10 + (b - 48)) (drop (i + 1) word) ≡ digits_value 10 word
  value_more n is so_far = ap (λ v. digits_value_after 10 (n * 10 + v) (drop (i + 1) word)) (sym (digit_is b is).2) ∙ sym (ap (digits_value_after 10 n) split) ∙ so_far

  pub digits_more : is_ascii_digit b ≡ true → list_all is_ascii_digit (drop i word) ≡ list_all is_ascii_digit word → list_all is_ascii_digit (drop (i + 1) word) ≡ list_all is_ascii_digit word
  digits_more is so_far = ap (λ t. t && list_all is_ascii_digit (drop (i + 1) word)) (sym is) ∙ sym (ap (list_all is_ascii_digit) split) ∙ so_far

  -- a byte that is no digit
  pub no_digit : (most : ℕ) → is_ascii_digit b ≡ false → list_all is_ascii_digit (drop i word) ≡ list_all is_ascii_digit word → None ≡ digits_in most word
  no_digit most is so_far =
      let none : list_all is_ascii_digit word ≡ false = sym so_far ∙ ap (list_all is_ascii_digit) split ∙ ap (λ t. t && list_all is_ascii_digit (drop (i + 1) word)) is in
      ap (λ t. cond (t && nat_le (digits_value 10 word) most) (Some (digits_value 10 word)) None) (sym none)

  -- a number to which no digit may be put
  pub too_great : (most n : ℕ) → most ≤ MOST_ID → MOST_TENTH < n → digits_value_after 10 n (drop i word) ≡ digits_value 10 word → None ≡ digits_in most word
  too_great most n small great so_far =
      let more : n * 10 + digit_value b ≤ digits_value_after 10 (n * 10 + digit_value b) (drop (i + 1) word) = grows (n * 10 + digit_value b) (drop (i + 1) word) in
      let same : digits_value_after 10 (n * 10 + digit_value b) (drop (i + 1) word) ≡ digits_value 10 word = sym (ap (digits_value_after 10 n) split) ∙ so_far in
      above (list_all is_ascii_digit word) (digits_value 10 word) most (omega arith)

-- what is no word of a number by its first byte
pub not_first : (most : ℕ) (word : Word) → get_or word 0 0 ≤ 48 → None ≡ positive_in most word
not_first most [] h = refl
not_first most (d ∷ ds) h = rw (le-ltb 48 d h) refl

-- what is one if its digits are
pub by_digits : (most : ℕ) (word : Word) → 48 < get_or word 0 0 → positive_in most word ≡ digits_in most word
by_digits most [] h = absurd (omega (arith, h))
by_digits most (d ∷ ds) h = rw (lt-ltb 48 d h) refl

some_value : (b : Bool) (v most n : ℕ) → Some n ≡ cond (b && nat_le v most) (Some v) None → (b ≡ true) × (n ≡ v)
some_value true v most n is = elim (nat_le v most) as (λ t. Some n ≡ cond t (Some v) None → (true ≡ true) × (n ≡ v)) [ true ↦ λ e. (refl, cc) | false ↦ λ e. cc ] is
some_value false v most n is = cc

-- digits of which the first is not 0 say no 0
pub above_zero : (most : ℕ) (word : Word) (n : ℕ) → 48 < get_or word 0 0 → Some n ≡ digits_in most word → 0 < n
above_zero most [] n h is = absurd (omega (arith, h))
above_zero most (d ∷ ds) n h is =
    let both = some_value (list_all is_ascii_digit (d ∷ ds)) (digits_value 10 (d ∷ ds)) most n is in
    let first = digit_is d (and_parts _ _ both.0).0 in
    let more : 0 * 10 + digit_value d ≤ digits_value_after 10 (0 * 10 + digit_value d) ds = grows (0 * 10 + digit_value d) ds in
    let value : n ≡ digits_value_after 10 (0 * 10 + digit_value d) ds = both.1 in
    omega (arith, h, first.2)

pub some_positive : (most : ℕ) (word : Word) (o : Option ℕ) → 48 < get_or word 0 0 → o ≡ digits_in most word → IfSome o (λ n. n ≤ most) → IfSome o (λ n. (0 < n) × (n ≤ most))
some_positive most word None h is small = tt
some_positive most word (Some n) h is small = (above_zero most word n h is, small)
