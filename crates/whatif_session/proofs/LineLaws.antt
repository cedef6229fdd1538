-- Lines and the words in them: numbers, paths, and the lines of a script.
use Rattle.std.proofs.Common.{◌≡◌, ℕ, zero, suc, ◌+◌, ◌*◌, ◌-◌, ◌≤◌, ◌<◌, ◌==◌, min, Bool, true, false, cond, List, [], ◌∷◌, ◌++◌, take, length, Option, Some, None, option_map, refl, sym, ap, ◌∙◌, subst, arith, inl, inr, ◌⊎◌, slice_index_or}
use Rattle.std.specs.Prelude.{if◌then◌else◌, option_and_then, nat_le, ok_or, codes, IfOk, IfErr}
use Rattle.std.specs.List.{list_all, slice_split, onto_first}
use Rattle.std.specs.Char.{is_ascii_digit, digit_value}
use Rattle.std.specs.Str.Parse.{digits_value}
use Rattle.std.proofs.Math.Nat.{min-eq_left, min-eq_right}
use Rattle.std.proofs.lemmas.Bool.{cases_Bool, cases_lt, eqb-true, and_parts, leb-true}
use Rattle.std.proofs.lemmas.Int.Digits.{digits_value_more}
use Rattle.std.proofs.lemmas.List.{map-append}
use Rattle.std.proofs.lemmas.List.Folds.{list_all_at}
use Rattle.std.proofs.lemmas.Str.{digit_value_digit}
use Rattle.fbas_model.specs.Names.{Name, is_key}
use denote.Ref.{Bor}
use Rattle.std.specs.Str.{bytes_eq}
use Rattle.whatif_session.specs.Edits.{Edit, Threshold, Add, Drop, Declare, Retire}
use Rattle.whatif_session.specs.EditView.{edit_view, HasKeys, texts}
use Rattle.whatif_session.specs.Lines.{is_number, threshold_in, places_after, key_in, target_in, threshold_edit, add_edit, drop_edit, declare_edit, retire_edit, edit_in, edit_of}
use Rattle.whatif_session.specs.declared.lines.Edit as line_read
use Rattle.whatif_session.specs.declared.faults.EditFault.TheVariants.{BadLine, Memory}
use Rattle.whatif_session.specs.Scripts.{script_lines, with_byte, without_empty_last}

-- ---- lines of a script

one_before : (b : ℕ) (parts : List (List ℕ)) → (parts ≡ [] → ⊥) → without_empty_last (onto_first b parts) ≡ with_byte b (without_empty_last parts)
one_before b [] some = absurd (some refl)
one_before b ([] ∷ []) some = refl
one_before b ((c ∷ cs) ∷ []) some = refl
one_before b (x ∷ y ∷ more) some = refl

empty_before : (parts : List (List ℕ)) → (parts ≡ [] → ⊥) → without_empty_last ([] ∷ parts) ≡ [] ∷ without_empty_last parts
empty_before [] some = absurd (some refl)
empty_before (x ∷ more) some = refl

parts_some : (script : List ℕ) → slice_split (λ b. b == 10) script ≡ [] → ⊥
parts_some [] h = cc
parts_some (b ∷ bytes) h = elim (cases_Bool (b == 10)) [
  | inl e ↦ let now : ([] ∷ slice_split (λ c. c == 10) bytes) ≡ [] = sym (ap (λ (x : Bool). cond x ([] ∷ slice_split (λ c. c == 10) bytes) (onto_first b (slice_split (λ c. c == 10) bytes))) e) ∙ h in cc
  | inr e ↦ onto_some b (slice_split (λ c. c == 10) bytes) (sym (ap (λ (x : Bool). cond x ([] ∷ slice_split (λ c. c == 10) bytes) (onto_first b (slice_split (λ c. c == 10) bytes))) e) ∙ h)
]
  where
    onto_some : (b : ℕ) (parts : List (List ℕ)) → onto_first b parts ≡ [] → ⊥
    onto_some b [] h = cc
    onto_some b (x ∷ xs) h = cc

pub lines_by_parts : (script : List ℕ) → without_empty_last (slice_split (λ b. b == 10) script) ≡ script_lines script
lines_by_parts [] = refl
lines_by_parts (b ∷ bytes) = elim (cases_Bool (b == 10)) [
  | inl e ↦ rw e (empty_before (slice_split (λ c. c == 10) bytes) (parts_some bytes) ∙ ap (λ (ls : List (List ℕ)). [] ∷ ls) (lines_by_parts bytes))
  | inr e ↦ rw e (one_before b (slice_split (λ c. c == 10) bytes) (parts_some bytes) ∙ ap (with_byte b) (lines_by_parts bytes))
]

pub empty_last : (xs : List (List ℕ)) (last : List ℕ) → (length last == 0) ≡ true → without_empty_last (xs ++ last ∷ []) ≡ xs
empty_last [] [] h = refl
empty_last [] (b ∷ bytes) h = absurd (let e = eqb-true (length (b ∷ bytes)) 0 h in omega arith)
empty_last (x ∷ []) last h = ap (λ (ys : List (List ℕ)). x ∷ ys) (empty_last [] last h)
empty_last (x ∷ y ∷ more) last h = ap (λ (ys : List (List ℕ)). x ∷ ys) (empty_last (y ∷ more) last h)

pub full_last : (xs : List (List ℕ)) (last : List ℕ) → (length last == 0) ≡ false → without_empty_last (xs ++ last ∷ []) ≡ xs ++ last ∷ []
full_last [] [] h = absurd cc
full_last [] (b ∷ bytes) h = refl
full_last (x ∷ []) last h = ap (λ (ys : List (List ℕ)). x ∷ ys) (full_last [] last h)
full_last (x ∷ y ∷ more) last h = ap (λ (ys : List (List ℕ)). x ∷ ys) (full_last (y ∷ more) last h)

pub last_none : (lines : List (Bor (List ℕ))) → length lines ≡ 0 → texts lines ≡ without_empty_last (texts lines)
last_none [] h = refl
last_none (x ∷ lines) h = absurd (omega (arith, h))

module _ (lines rest : List (Bor (List ℕ))) (last : Bor (List ℕ)) (whole : lines ≡ rest ++ last ∷ []) where
  apart : texts lines ≡ texts rest ++ last.now ∷ []
  apart = ap texts whole ∙ map-append (λ (line : Bor (List ℕ)). line.now) rest (last ∷ [])

  pub last_empty : (length last.now == 0) ≡ true → texts rest ≡ without_empty_last (texts lines)
  last_empty h = sym (ap without_empty_last apart ∙ empty_last (texts rest) last.now h)

  pub last_full : (length last.now == 0) ≡ false → texts lines ≡ without_empty_last (texts lines)
  last_full h = apart ∙ sym (ap without_empty_last apart ∙ full_last (texts rest) last.now h)

-- ---- numbers

-- the value of a digit
digit_of : (c : ℕ) → is_ascii_digit c ≡ true → digit_value c ≡ c - 48
digit_of c h =
    let parts = and_parts (nat_le 48 c) (nat_le c 57) h in
    let low = leb-true 48 c parts.0 in
    let high = leb-true c 57 parts.1 in
    let value = digit_value_digit c (low, high) in
    omega (arith, value)

smaller : (a d m : ℕ) → min (min a m * 10 + d) m ≡ min (a * 10 + d) m
smaller a d m = elim (cases_lt a m) [
  | inl h ↦ ap (λ (x : ℕ). min (x * 10 + d) m) (min-eq_left (let less : a ≤ m = omega (arith, h) in less))
  | inr h ↦
      let one : m ≤ m * 10 + d = omega arith in
      let other : m ≤ a * 10 + d = omega (arith, h) in
      ap (λ (x : ℕ). min (x * 10 + d) m) (min-eq_right h) ∙ min-eq_right one ∙ sym (min-eq_right other)
]

digit_at : (word : List ℕ) (i : ℕ) → i < length word → list_all is_ascii_digit word ≡ true → is_ascii_digit (slice_index_or word i 0) ≡ true
digit_at [] i low h = absurd (omega (arith, low))
digit_at (c ∷ cs) zero low h = (and_parts (is_ascii_digit c) (list_all is_ascii_digit cs) h).0
digit_at (c ∷ cs) (suc i) low h = digit_at cs i (omega (arith, low)) (and_parts (is_ascii_digit c) (list_all is_ascii_digit cs) h).1

pub capped_more : (word : List ℕ) (i number most : ℕ) → i < length word → list_all is_ascii_digit word ≡ true → number ≡ min (digits_value 10 (take i word)) most
    → min (number * 10 + (slice_index_or word i 0 - 48)) most ≡ min (digits_value 10 (take (i + 1) word)) most
capped_more word i number most low all was =
    let digit = digit_of (slice_index_or word i 0) (digit_at word i low all) in
    ap (λ (n : ℕ). min (n * 10 + (slice_index_or word i 0 - 48)) most) was
    ∙ smaller (digits_value 10 (take i word)) (slice_index_or word i 0 - 48) most
    ∙ ap (λ (d : ℕ). min (digits_value 10 (take i word) * 10 + d) most) (sym digit)
    ∙ ap (λ (n : ℕ). min n most) (sym (digits_value_more 10 word i low))

-- ---- words of a line

pub places_none : (words : List Name) (i : ℕ) → i < length words → is_number (slice_index_or words i []) ≡ false → places_after words ≡ None
places_none words i low h = rw (list_all_at is_number words i [] low h) refl

pub threshold_few : (words : List (Bor (List ℕ))) → length words < 3 → ◌≡◌ {A = Option Edit} None (threshold_edit (texts words))
threshold_few [] h = refl
threshold_few (a ∷ []) h = refl
threshold_few (a ∷ b ∷ []) h = refl
threshold_few (a ∷ b ∷ c ∷ more) h = absurd (omega (arith, h))

pub threshold_many : (words : List (Bor (List ℕ))) → 4 ≤ length words → ◌≡◌ {A = Option Edit} None (threshold_edit (texts words))
threshold_many [] h = refl
threshold_many (a ∷ []) h = refl
threshold_many (a ∷ b ∷ []) h = refl
threshold_many (a ∷ b ∷ c ∷ []) h = absurd (omega (arith, h))
threshold_many (a ∷ b ∷ c ∷ d ∷ more) h = refl

-- ---- the edit of a line

mapped : {A B : Type 0} → (f : A → B) (o : Option A) (b : B) → option_map f o ≡ Some b → (a : A) × (o ≡ Some a) × (f a ≡ b)
mapped f None b h = absurd cc
mapped f (Some a) b h = let same : f a ≡ b = cc in (a, refl, same)

chained : {A B : Type 0} → (f : A → Option B) (o : Option A) (b : B) → option_and_then f o ≡ Some b → (a : A) × (o ≡ Some a) × (f a ≡ Some b)
chained f None b h = absurd cc
chained f (Some a) b h = (a, refl, h)

key_some : (word name : Name) → key_in word ≡ Some name → is_key name ≡ true
key_some word name h = by_test (is_key word) refl h
  where
    by_test : (b : Bool) → is_key word ≡ b → (if b then Some word else None) ≡ Some name → is_key name ≡ true
    by_test true e h = let same : word ≡ name = cc in subst (λ (n : Name). is_key n ≡ true) same e
    by_test false e h = absurd cc

none_read : {e : Edit} → ◌≡◌ {A = Option Edit} None (Some e) → HasKeys e
none_read h = absurd cc

-- only lists of three words have such edits, and each of those names keys alone
three_words : (read : List Name → Option Edit) → read [] ≡ None → ((a : Name) → read (a ∷ []) ≡ None) → ((a b : Name) → read (a ∷ b ∷ []) ≡ None) → ((a b c d : Name) (more : List Name) → read (a ∷ b ∷ c ∷ d ∷ more) ≡ None)
    → ((a b c : Name) (e : Edit) → read (a ∷ b ∷ c ∷ []) ≡ Some e → HasKeys e) → (words : List Name) (e : Edit) → read words ≡ Some e → HasKeys e
three_words read empty one two four three [] e h = none_read (sym empty ∙ h)
three_words read empty one two four three (a ∷ []) e h = none_read (sym (one a) ∙ h)
three_words read empty one two four three (a ∷ b ∷ []) e h = none_read (sym (two a b) ∙ h)
three_words read empty one two four three (a ∷ b ∷ c ∷ []) e h = three a b c e h
three_words read empty one two four three (a ∷ b ∷ c ∷ d ∷ more) e h = none_read (sym (four a b c d more) ∙ h)

threshold_keys : (words : List Name) (e : Edit) → threshold_edit words ≡ Some e → HasKeys e
threshold_keys = three_words threshold_edit refl (λ a. refl) (λ a b. refl) (λ a b c d more. refl) (λ node path number e h.
    let target = chained _ (target_in node path) e h in
    let made = mapped (Threshold target.0.0 target.0.1) (threshold_in number) e target.2 in
    subst HasKeys made.2 tt)

add_keys : (words : List Name) (e : Edit) → add_edit words ≡ Some e → HasKeys e
add_keys = three_words add_edit refl (λ a. refl) (λ a b. refl) (λ a b c d more. refl) (λ node path name e h.
    let target = chained _ (target_in node path) e h in
    let made = mapped (Add target.0.0 target.0.1) (key_in name) e target.2 in
    subst HasKeys made.2 (key_some name made.0 made.1))

drop_keys : (words : List Name) (e : Edit) → drop_edit words ≡ Some e → HasKeys e
drop_keys = three_words drop_edit refl (λ a. refl) (λ a b. refl) (λ a b c d more. refl) (λ node path name e h.
    let target = chained _ (target_in node path) e h in
    subst HasKeys (mapped (Drop target.0.0 target.0.1) (key_in name) e target.2).2 tt)

declare_keys : (words : List Name) (e : Edit) → declare_edit words ≡ Some e → HasKeys e
declare_keys [] e h = absurd cc
declare_keys (node ∷ []) e h = let made = mapped Declare (key_in node) e h in subst HasKeys made.2 (key_some node made.0 made.1)
declare_keys (a ∷ b ∷ more) e h = absurd cc

retire_keys : (words : List Name) (e : Edit) → retire_edit words ≡ Some e → HasKeys e
retire_keys [] e h = absurd cc
retire_keys (node ∷ []) e h = let made = mapped Retire (key_in node) e h in subst HasKeys made.2 tt
retire_keys (a ∷ b ∷ more) e h = absurd cc

either : (b : Bool) (x y : Option Edit) (e : Edit) → (x ≡ Some e → HasKeys e) → (y ≡ Some e → HasKeys e) → (if b then x else y) ≡ Some e → HasKeys e
either true x y e f g h = f h
either false x y e f g h = g h

edit_keys : (words : List Name) (e : Edit) → edit_in words ≡ Some e → HasKeys e
edit_keys [] e h = absurd cc
edit_keys (word ∷ words) e h =
    either (bytes_eq word (codes "threshold")) (threshold_edit words) _ e (threshold_keys words e)
    (either (bytes_eq word (codes "add")) (add_edit words) _ e (add_keys words e)
    (either (bytes_eq word (codes "drop")) (drop_edit words) _ e (drop_keys words e)
    (either (bytes_eq word (codes "declare")) (declare_edit words) _ e (declare_keys words e)
    (either (bytes_eq word (codes "retire")) (retire_edit words) None e (retire_keys words e) (λ no_edit. absurd cc))))) h

-- what is read of a line
pub edit_read : (line : List ℕ) (words : List Name) (edit : Option line_read.Edit) → words ≡ slice_split (λ b. b == 32) line → option_map edit_view edit ≡ edit_in words → option_map edit_view edit ≡ edit_of line
unfolding edit_of
edit_read line words edit split is = is ∙ ap edit_in split

pub edit_ok : (line : List ℕ) (edit : Option line_read.Edit) → option_map edit_view edit ≡ edit_of line → IfOk (ok_or edit BadLine) (λ e. edit_of line ≡ Some (edit_view e))
edit_ok line None h = tt
edit_ok line (Some e) h = sym h

pub edit_err : (line : List ℕ) (edit : Option line_read.Edit) → option_map edit_view edit ≡ edit_of line → IfErr (ok_or edit BadLine) (λ e. (e ≡ Memory) ⊎ ((e ≡ BadLine) × (edit_of line ≡ None)))
edit_err line None h = inr (refl, sym h)
edit_err line (Some e) h = tt

pub edit_has_keys : (line : List ℕ) (edit : Option line_read.Edit) → option_map edit_view edit ≡ edit_of line → IfOk (ok_or edit BadLine) (λ e. HasKeys (edit_view e))
unfolding edit_of
edit_has_keys line None h = tt
edit_has_keys line (Some e) h = edit_keys (slice_split (λ b. b == 32) line) (edit_view e) (sym h)
