-- The line of a step, number by number.
use Rattle.std.proofs.Common.{◌≡◌, ℕ, ◌+◌, ◌<◌, List, [], ◌∷◌, ◌++◌, length, map, take, refl, sym, ◌∙◌, ap, codes, append_assoc, slice_index_or, ℤ, pos}
use Rattle.std.specs.Fmt.{decimal, signed_decimal}
use Rattle.std.proofs.lemmas.List.{append-nil, take_more, map-append}
use Rattle.lrat_model.specs.Literal.{Literal}
use Rattle.lrat_model.specs.Steps.{Addition, Deletion}
use Rattle.lrat_text.specs.Left.{spaced, hints_left, ids_left}
use Rattle.lrat_text.specs.Texts.{literal_text, line_of}
use Rattle.lrat_text.specs.Words.{Word}
use Rattle.lrat_text.proofs.BackLaws.{joined as joined_words}
use Rattle.cert_writer.proofs.TextSteps.{spaced-append}

-- one number more
pub numbers_more : {A : Type 0} (said : A → Word) (xs : List A) (i : ℕ) (x : A) → x ≡ slice_index_or xs i x → i < length xs → spaced (map said (take i xs)) ++ 32 ∷ said x ≡ spaced (map said (take (i + 1) xs))
numbers_more {A = A} said xs i x is low = sym (
    ap (λ (ys : List A). spaced (map said ys)) (take_more xs i x low)
    ∙ ap spaced (map-append said (take i xs) (slice_index_or xs i x ∷ []))
    ∙ spaced-append (map said (take i xs)) (said (slice_index_or xs i x) ∷ [])
    ∙ ap (λ (z : Word). spaced (map said (take i xs)) ++ 32 ∷ z) (append-nil (said (slice_index_or xs i x)) ∙ ap said (sym is)))

lemma_line : (id : ℕ) (lits : List Literal) (hints : List ℤ) → line_of (Addition id lits hints) ≡ decimal id ++ (spaced (map literal_text lits) ++ 32 ∷ 48 ∷ (spaced (map signed_decimal hints) ++ 32 ∷ 48 ∷ []))
lemma_line id lits hints =
    joined_words (decimal id) (map literal_text lits ++ codes "0" ∷ hints_left hints)
    ∙ ap (λ (z : Word). decimal id ++ z) (
    spaced-append (map literal_text lits) (codes "0" ∷ hints_left hints)
    ∙ ap (λ (z : Word). spaced (map literal_text lits) ++ 32 ∷ 48 ∷ z) (spaced-append (map signed_decimal hints) (codes "0" ∷ [])))

pub lemma_text : (id : ℕ) (lits : List Literal) (hints : List ℤ) → (((decimal id ++ spaced (map literal_text lits)) ++ codes " 0") ++ spaced (map signed_decimal hints)) ++ codes " 0\n" ≡ line_of (Addition id lits hints) ++ 10 ∷ []
lemma_text id lits hints = rw (lemma_line id lits hints) (simp append_assoc)

deletion_line : (id : ℕ) (ids : List ℕ) → line_of (Deletion id ids) ≡ decimal id ++ 32 ∷ 100 ∷ (spaced (map decimal ids) ++ 32 ∷ 48 ∷ [])
deletion_line id ids =
    joined_words (decimal id) (codes "d" ∷ ids_left ids)
    ∙ ap (λ (z : Word). decimal id ++ 32 ∷ 100 ∷ z) (spaced-append (map decimal ids) (codes "0" ∷ []))

pub deletion_text : (id : ℕ) (ids : List ℕ) → ((decimal id ++ codes " d") ++ spaced (map decimal ids)) ++ codes " 0\n" ≡ line_of (Deletion id ids) ++ 10 ∷ []
deletion_text id ids = rw (deletion_line id ids) (simp append_assoc)

-- hints that are kept as ids
pub short_hints : (ids : List ℕ) → map decimal ids ≡ map signed_decimal (map pos ids)
short_hints [] = refl
short_hints (id ∷ ids) = ap (λ (ws : List Word). decimal id ∷ ws) (short_hints ids)
