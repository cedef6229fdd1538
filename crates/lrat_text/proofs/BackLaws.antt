-- Lines of steps, read back.
use Rattle.std.proofs.Common.{◌≡◌, ℕ, ◌<◌, List, [], ◌∷◌, ◌++◌, length, map, filter, false, Option, Ok, refl, sym, ◌∙◌, ap, arith, codes, ℤ}
use Rattle.std.specs.List.{AllByRecursion, join_with_byte, slice_split}
use Rattle.std.specs.Fmt.{decimal, signed_decimal}
use Rattle.std.proofs.lemmas.List.{append-nil}
use Rattle.std.proofs.lemmas.List.Elements.{All-from_recursion}
use Rattle.std.proofs.lemmas.List.Splits.{slice_split_none, slice_split_at}
use Rattle.lrat_model.specs.Literal.{Literal}
use Rattle.lrat_model.specs.Steps.{ProofStep, Addition, Deletion}
use Rattle.lrat_text.specs.Words.{Word, has_byte, is_blank, words_of}
use Rattle.lrat_text.specs.Numbers.{id_in, hint_in, literal_in}
use Rattle.lrat_text.specs.Lines.{closed_list, addition, deletion, after_id, with_id, step_of_words, step_in}
use Rattle.lrat_text.specs.Texts.{literal_text, line_of, IsId, IsHint, IsLiteral, HasNumbers, HasLiterals, words_for}
use Rattle.lrat_text.specs.Left.{spaced}
use Rattle.lrat_text.proofs.TextLaws.{IsText, IsReadBack, id_back, hint_back, literal_back}

-- words joined by spaces: the first, and each other with a space before it
pub joined : (word : Word) (words : List Word) → join_with_byte 32 (word ∷ words) ≡ word ++ spaced words
joined word [] = sym (append-nil word)
joined word (v ∷ words) = ap (λ (line : List ℕ). word ++ 32 ∷ line) (joined v words)

-- bytes of a word that is not empty and has no blank
pub record IsSolid (word : Word) : Type 0 where
  pub plain : AllByRecursion (λ b. is_blank b ≡ false) word
  pub long : 0 < length word

split_spaced : (word : Word) (words : List Word) → IsSolid word → AllByRecursion IsSolid words → slice_split is_blank (word ++ spaced words) ≡ word ∷ words
split_spaced word [] is all = ap (slice_split is_blank) (append-nil word) ∙ slice_split_none is_blank word (All-from_recursion (λ b. is_blank b ≡ false) word is.plain)
split_spaced word (v ∷ words) is all =
    slice_split_at is_blank word 32 (v ++ spaced words) (All-from_recursion (λ b. is_blank b ≡ false) word is.plain) refl
    ∙ ap (λ (ws : List Word). word ∷ ws) (split_spaced v words all.0 all.1)

all_kept : (words : List Word) → AllByRecursion IsSolid words → filter has_byte words ≡ words
all_kept [] all = refl
all_kept ([] ∷ words) all = absurd (let l : 0 < 0 = all.0.long in omega arith)
all_kept ((b ∷ word) ∷ words) all = ap (λ (ws : List Word). (b ∷ word) ∷ ws) (all_kept words all.1)

-- words joined by spaces are the words of the line
words_of-joined : (word : Word) (words : List Word) → IsSolid word → AllByRecursion IsSolid words → words_of (join_with_byte 32 (word ∷ words)) ≡ word ∷ words
words_of-joined word words is all =
    ap words_of (joined word words) ∙ ap (filter has_byte) (split_spaced word words is all) ∙ all_kept (word ∷ words) (is, all)

solid : (word : Word) → IsText word → IsSolid word
solid word is = record { plain = is.plain; long = is.long }

solid_zero : IsSolid (codes "0")
solid_zero = record { plain = (refl, tt); long = omega arith }

solid_mark : IsSolid (codes "d")
solid_mark = record { plain = (refl, tt); long = omega arith }

solid_texts : {A : Type 0} (number_in : Word → Option A) (text : A → Word) (numbers : List A) (words : List Word) → AllByRecursion (IsReadBack number_in text) numbers → AllByRecursion IsSolid words → AllByRecursion IsSolid (map text numbers ++ words)
solid_texts number_in text [] words all rest = rest
solid_texts number_in text (n ∷ numbers) words all rest = (solid (text n) all.0.1, solid_texts number_in text numbers words all.1 rest)

-- a list of numbers and the 0 after it are read back
list_back : {A : Type 0} (number_in : Word → Option A) (text : A → Word) (numbers : List A) (words : List Word) → AllByRecursion (IsReadBack number_in text) numbers → closed_list number_in (map text numbers ++ codes "0" ∷ words) ≡ Ok (numbers, words)
list_back number_in text [] words all = refl
list_back number_in text (n ∷ numbers) words all =
    rw (all.0.1.not_zero, all.0.0, list_back number_in text numbers words all.1) refl

each : {A : Type 0} (P Q : A → Type 0) → ((a : A) → P a → Q a) → (xs : List A) → AllByRecursion P xs → AllByRecursion Q xs
each P Q f [] all = tt
each P Q f (a ∷ xs) all = (f a all.0, each P Q f xs all.1)

addition_back : (id : ℕ) (lits : List Literal) (hints : List ℤ) → AllByRecursion (IsReadBack literal_in literal_text) lits → AllByRecursion (IsReadBack hint_in signed_decimal) hints → addition id (map literal_text lits ++ codes "0" ∷ (map signed_decimal hints ++ codes "0" ∷ [])) ≡ Ok (Addition id lits hints)
addition_back id lits hints ls hs =
    rw (list_back literal_in literal_text lits (map signed_decimal hints ++ codes "0" ∷ []) ls, list_back hint_in signed_decimal hints [] hs) refl

deletion_back : (id : ℕ) (ids : List ℕ) → AllByRecursion (IsReadBack id_in decimal) ids → deletion id (map decimal ids ++ codes "0" ∷ []) ≡ Ok (Deletion id ids)
deletion_back id ids is = rw (list_back id_in decimal ids [] is) refl

-- an addition's words after its id do not begin with `d`
after_back : (id : ℕ) (lits : List Literal) (words : List Word) → AllByRecursion (IsReadBack literal_in literal_text) lits → after_id id (map literal_text lits ++ codes "0" ∷ words) ≡ addition id (map literal_text lits ++ codes "0" ∷ words)
after_back id [] words all = refl
after_back id (l ∷ lits) words all = rw all.0.1.not_mark refl

pub words_back : (step : ProofStep) → HasNumbers step → HasLiterals step → step_of_words (words_for step) ≡ Ok step
words_back (Addition id lits hints) has ls =
    let lits_back : AllByRecursion (IsReadBack literal_in literal_text) lits = each IsLiteral (IsReadBack literal_in literal_text) literal_back lits ls in
    let hints_back : AllByRecursion (IsReadBack hint_in signed_decimal) hints = each IsHint (IsReadBack hint_in signed_decimal) hint_back hints has.1 in
    let tail : List Word = map signed_decimal hints ++ codes "0" ∷ [] in
    ap (λ (i : Option ℕ). with_id i (map literal_text lits ++ codes "0" ∷ tail)) (id_back id has.0).0 ∙ after_back id lits tail lits_back ∙ addition_back id lits hints lits_back hints_back
words_back (Deletion id ids) has ls =
    ap (λ (i : Option ℕ). with_id i (codes "d" ∷ (map decimal ids ++ codes "0" ∷ []))) (id_back id has.0).0
    ∙ deletion_back id ids (each IsId (IsReadBack id_in decimal) id_back ids has.1)

-- the words of a step's line
words_of-line : (step : ProofStep) → HasNumbers step → HasLiterals step → words_of (line_of step) ≡ words_for step
words_of-line (Addition id lits hints) has ls =
    let tail : List Word = map signed_decimal hints ++ codes "0" ∷ [] in
    words_of-joined (decimal id) (map literal_text lits ++ codes "0" ∷ tail) (solid (decimal id) (id_back id has.0).1)
    (solid_texts literal_in literal_text lits (codes "0" ∷ tail) (each IsLiteral (IsReadBack literal_in literal_text) literal_back lits ls)
    (solid_zero, solid_texts hint_in signed_decimal hints (codes "0" ∷ []) (each IsHint (IsReadBack hint_in signed_decimal) hint_back hints has.1) (solid_zero, tt)))
words_of-line (Deletion id ids) has ls =
    words_of-joined (decimal id) (codes "d" ∷ (map decimal ids ++ codes "0" ∷ [])) (solid (decimal id) (id_back id has.0).1)
    (solid_mark, solid_texts id_in decimal ids (codes "0" ∷ []) (each IsId (IsReadBack id_in decimal) id_back ids has.1) (solid_zero, tt))

pub step_back : (step : ProofStep) → HasNumbers step → HasLiterals step → step_in (line_of step) ≡ Ok step
step_back step has ls = ap step_of_words (words_of-line step has ls) ∙ words_back step has ls

pub line_back : (line : List ℕ) (step : ProofStep) → words_of line ≡ words_for step → HasNumbers step → HasLiterals step → step_in line ≡ Ok step
line_back line step says has ls = ap step_of_words says ∙ words_back step has ls
