-- The words of a line, from its front on.
use Rattle.std.proofs.Common.{◌≡◌, ℕ, suc, ◌+◌, ◌≤◌, List, [], ◌∷◌, length, Bool, true, false, not, cond, Option, Some, None, ◌==◌, refl, sym, ◌∙◌, ap, arith, take, drop}
use Rattle.std.specs.List.{position_or_len}
use Rattle.cert_lines.specs.Words.{Word, words_of, words_left, onto_first}

abbrev pub is_space : ℕ → Bool
is_space b = b == 32

pub position-le : (text : List ℕ) → position_or_len is_space text ≤ length text
position-le [] = omega arith
position-le (b ∷ text) = elim (is_space b) as (λ t. cond (not t) (1 + position_or_len is_space text) 0 ≤ length (b ∷ text)) [
  | true ↦ omega arith
  | false ↦ let rest : position_or_len is_space text ≤ length text = position-le text in omega arith
]

-- what is after a first byte, where there is one
abbrev pub behind : List ℕ → Option (List ℕ)
behind [] = None
behind (b ∷ text) = Some text

-- the first word ends before the first space, and the others are after that
pub first_word : (text : List ℕ) → words_of text ≡ take (position_or_len is_space text) text ∷ words_left (behind (drop (position_or_len is_space text) text))
first_word [] = refl
first_word (b ∷ text) =
    let n = position_or_len is_space text in
    elim (is_space b) as (λ t. (cond t ([] ∷ words_of text) (onto_first b (words_of text))) ≡ take (cond (not t) (1 + n) 0) (b ∷ text) ∷ words_left (behind (drop (cond (not t) (1 + n) 0) (b ∷ text)))) [
      | true ↦ refl
      | false ↦
          let one : 1 + n ≡ suc n = omega arith in rw one (ap (onto_first b) (first_word text))
    ]

-- a text that is cut where its first word ends
module _ (text word rest : List ℕ) (n : ℕ) (at : n ≡ position_or_len is_space text) (front : word ≡ take n text) (back : rest ≡ drop n text) where
  cut : words_of text ≡ word ∷ words_left (behind rest)
  cut =
      first_word text
      ∙ ap (λ (k : ℕ). take k text ∷ words_left (behind (drop k text))) (sym at)
      ∙ ap (λ (w : Word). w ∷ words_left (behind (drop n text))) (sym front)
      ∙ ap (λ (r : List ℕ). word ∷ words_left (behind r)) (sym back)

  pub more_words : (b : ℕ) (more : List ℕ) → rest ≡ b ∷ more → words_of text ≡ word ∷ words_of more
  more_words b more is = cut ∙ ap (λ (r : List ℕ). word ∷ words_left (behind r)) is

  pub one_word : rest ≡ [] → words_of text ≡ word ∷ []
  one_word is = cut ∙ ap (λ (r : List ℕ). word ∷ words_left (behind r)) is
