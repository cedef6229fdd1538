-- A line that is read as a step has the words of that step.
use Rattle.std.proofs.Common.{◌≡◌, ℕ, zero, suc, ◌≤◌, ◌<◌, ◌^◌, List, [], ◌∷◌, ◌++◌, get_or, map, Bool, true, false, ◌&&◌, ◌==◌, nat_le, Option, Some, None, Result, Ok, Err, cond, refl, sym, ◌∙◌, ap, subst, arith, option_map, codes, ℤ, pos, neg_ℤ, lit<}
use Rattle.std.specs.List.{AllByRecursion}
use Rattle.std.specs.Str.Parse.{digits_value}
use Rattle.std.specs.Fmt.{decimal, signed_decimal}
use Rattle.std.proofs.lemmas.Bool.{eqb-true}
use borrow.Author.Tests.{leb-true}
use Rattle.std.proofs.lemmas.Fmt.{decimal-digits_value}
use Rattle.lrat_model.specs.Literal.{Literal, Plus, Minus}
use Rattle.lrat_model.specs.Steps.{ProofStep, Addition, Deletion}
use Rattle.lrat_text.specs.declared.numbers.TheConstants.{MOST_ID, MOST_VARIABLE}
use Rattle.lrat_text.specs.Words.{Word, words_of}
use Rattle.lrat_text.specs.Numbers.{is_numeral, positive_in, signed_in, id_in, hint_in, literal_in}
use Rattle.lrat_text.specs.Lines.{and_then, is_zero, is_mark, onto_list, closed_list, ended, addition, deletion, after_id, with_id, step_of_words, step_in}
use Rattle.lrat_text.specs.Texts.{literal_text, words_for, IsId, IsHint, IsLiteral, HasNumbers, HasLiterals}
use Rattle.lrat_text.specs.declared.faults.LineFault.{LineFault}
use Rattle.std.proofs.lemmas.Slice.Eq.{bytes_eq-Decides}
use Rattle.lrat_text.proofs.NumberLaws.{own, IsNumber, from_numeral, no_zero}

-- a number that a word says: its digits are the word
pub record Says (most n : ℕ) (word : Word) : Type 0 where
  pub text : word ≡ decimal n
  pub positive : 0 < n
  pub fits : n ≤ most

kept : (b : Bool) (v most n : ℕ) → cond (b && nat_le v most) (Some v) None ≡ Some n → (b ≡ true) × (v ≡ n) × (v ≤ most)
kept false v most n e = cc
kept true v most n e = elim (nat_le v most) as (λ t. nat_le v most ≡ t → cond t (Some v) None ≡ Some n → (true ≡ true) × (v ≡ n) × (v ≤ most)) [
  | true ↦ λ h k. (refl, cc, leb-true v most h)
  | false ↦ λ h k. cc
] refl e

not_zero : (n : ℕ) (word : Word) → IsNumber word → digits_value 10 word ≡ n → 0 < n
not_zero zero word is e = absurd (no_zero word is e)
not_zero (suc n) word is e = omega arith

positive_says : (most n : ℕ) (word : Word) → most < 2 ^ 64 → positive_in most word ≡ Some n → Says most n word
positive_says most n word small e =
    let parts : (is_numeral word ≡ true) × (digits_value 10 word ≡ n) × (digits_value 10 word ≤ most) = kept (is_numeral word) (digits_value 10 word) most n e in
    let is : IsNumber word = from_numeral word parts.0 in
    let text : decimal (digits_value 10 word) ≡ word = decimal-digits_value own word is.digits is.long (λ h. absurd (let f : 48 < get_or word 0 0 = is.first in omega arith)) (let m : digits_value 10 word ≤ most = parts.2 in omega arith) in
    record { text = sym text ∙ ap decimal parts.1; positive = not_zero n word is parts.1; fits = subst (λ k. k ≤ most) parts.1 parts.2 }

-- a number and its sign
pub data Signed {A : Type 0} (plus minus : ℕ → A) (most : ℕ) (word : Word) (a : A) : Type 0 where
  without : (n : ℕ) → a ≡ plus n → Says most n word → Signed plus minus most word a
  behind : (n : ℕ) (digits : Word) → a ≡ minus n → word ≡ 45 ∷ digits → Says most n digits → Signed plus minus most word a

mapped : {A : Type 0} (f : ℕ → A) (o : Option ℕ) (a : A) → option_map f o ≡ Some a → (n : ℕ) × (o ≡ Some n) × (a ≡ f n)
mapped f None a e = cc
mapped f (Some n) a e = (n, refl, cc)

signed_says : {A : Type 0} (plus minus : ℕ → A) (most : ℕ) (word : Word) (a : A) → most < 2 ^ 64 → signed_in plus minus most word ≡ Some a → Signed plus minus most word a
signed_says plus minus most [] a small e = cc
signed_says {A} plus minus most (c ∷ word) a small e =
    elim (c == 45) as (λ t. (c == 45) ≡ t → cond t (option_map minus (positive_in most word)) (option_map plus (positive_in most (c ∷ word))) ≡ Some a → Signed plus minus most (c ∷ word) a) [
      | true ↦ λ is k. let m : (n : ℕ) × (positive_in most word ≡ Some n) × (a ≡ minus n) = mapped minus (positive_in most word) a k in
          behind m.0 word m.2 (ap (λ b. b ∷ word) (eqb-true c 45 is)) (positive_says most m.0 word small m.1)
      | false ↦ λ is k. let m : (n : ℕ) × (positive_in most (c ∷ word) ≡ Some n) × (a ≡ plus n) = mapped plus (positive_in most (c ∷ word)) a k in
          without m.0 m.2 (positive_says most m.0 (c ∷ word) small m.1)
    ] refl e

-- what a number is read from is its text
abbrev IsSaid : {A : Type 0} → (Word → Option A) → (A → Word) → (A → Type 0) → Type 0
IsSaid {A} number_in text P = (word : Word) (a : A) → number_in word ≡ Some a → (word ≡ text a) × P a

id_said : IsSaid id_in decimal IsId
id_said word id e = let s : Says MOST_ID id word = positive_says MOST_ID id word (lit< tt) e in (s.text, (s.positive, let f : id ≤ MOST_ID = s.fits in omega arith))

hint_from : (word : Word) (z : ℤ) → Signed pos (λ n. neg_ℤ (pos n)) MOST_ID word z → (word ≡ signed_decimal z) × IsHint z
hint_from word z (without n e s) = rw e (s.text, (s.positive, let f : n ≤ MOST_ID = s.fits in omega arith))
hint_from word z (behind zero digits e w s) = absurd (let p : 0 < 0 = s.positive in omega arith)
hint_from word z (behind (suc n) digits e w s) = rw e (w ∙ ap (λ (ds : Word). 45 ∷ ds) s.text, let f : suc n ≤ MOST_ID = s.fits in omega arith)

hint_said : IsSaid hint_in signed_decimal IsHint
hint_said word z e = hint_from word z (signed_says pos (λ n. neg_ℤ (pos n)) MOST_ID word z (lit< tt) e)

literal_from : (word : Word) (l : Literal) → Signed Plus Minus MOST_VARIABLE word l → (word ≡ literal_text l) × IsLiteral l
literal_from word l (without n e s) = rw e (s.text, (s.positive, let f : n ≤ MOST_VARIABLE = s.fits in omega arith))
literal_from word l (behind zero digits e w s) = absurd (let p : 0 < 0 = s.positive in omega arith)
literal_from word l (behind (suc n) digits e w s) = rw e (w ∙ ap (λ (ds : Word). 45 ∷ ds) s.text, (omega arith, let f : suc n ≤ MOST_VARIABLE = s.fits in omega arith))

literal_said : IsSaid literal_in literal_text IsLiteral
literal_said word l e = literal_from word l (signed_says Plus Minus MOST_VARIABLE word l (lit< tt) e)

ok_of : {B : Type 0} (r : Result B LineFault) (a b : B) → r ≡ Ok a → r ≡ Ok b → a ≡ b
ok_of r a b e f = cc

-- a list that is read is its numbers' texts, with a 0 after them
list_says : {A : Type 0} (number_in : Word → Option A) (text : A → Word) (P : A → Type 0) → IsSaid number_in text P → (words : List Word) (l : List A × List Word) → closed_list number_in words ≡ Ok l → (words ≡ map text l.0 ++ codes "0" ∷ l.1) × AllByRecursion P l.0
list_says number_in text P said [] l e = cc
list_says {A} number_in text P said (word ∷ words) l e =
    elim (is_zero word) as (λ t. is_zero word ≡ t → cond t (Ok ([], words)) (onto_list (number_in word) (closed_list number_in words)) ≡ Ok l → (word ∷ words ≡ map text l.0 ++ codes "0" ∷ l.1) × AllByRecursion P l.0) [
      | true ↦ λ is k. subst (λ (m : List A × List Word). (word ∷ words ≡ map text m.0 ++ codes "0" ∷ m.1) × AllByRecursion P m.0) (ok_of (Ok ([], words)) ([], words) l refl k) (ap (λ (w : Word). w ∷ words) ((bytes_eq-Decides word (codes "0")).0 is), tt)
      | false ↦ λ _. elim (number_in word) as (λ o. number_in word ≡ o → onto_list o (closed_list number_in words) ≡ Ok l → (word ∷ words ≡ map text l.0 ++ codes "0" ∷ l.1) × AllByRecursion P l.0) [
        | None ↦ λ _ k. cc
        | Some a ↦ λ is. elim (closed_list number_in words) as (λ r. closed_list number_in words ≡ r → onto_list (Some a) r ≡ Ok l → (word ∷ words ≡ map text l.0 ++ codes "0" ∷ l.1) × AllByRecursion P l.0) [
          | Err fault ↦ λ _ k. cc
          | Ok m ↦ λ here k.
              let rest : (words ≡ map text m.0 ++ codes "0" ∷ m.1) × AllByRecursion P m.0 = list_says number_in text P said words m here in
              let one : (word ≡ text a) × P a = said word a is in
              subst (λ (n : List A × List Word). (word ∷ words ≡ map text n.0 ++ codes "0" ∷ n.1) × AllByRecursion P n.0) (ok_of (Ok (a ∷ m.0, m.1)) (a ∷ m.0, m.1) l refl k)
              (ap (λ (w : Word). w ∷ words) one.0 ∙ ap (λ (ws : List Word). text a ∷ ws) rest.0, (one.1, rest.1))
        ] refl
      ] refl
    ] refl e

then_ok : {A B : Type 0} (r : Result A LineFault) (f : A → Result B LineFault) (b : B) → and_then r f ≡ Ok b → (a : A) × (r ≡ Ok a) × (f a ≡ Ok b)
then_ok (Ok a) f b e = (a, refl, e)
then_ok (Err fault) f b e = cc

ended_ok : (step s : ProofStep) (words : List Word) → ended step words ≡ Ok s → (words ≡ []) × (step ≡ s)
ended_ok step s [] e = (refl, cc)
ended_ok step s (w ∷ words) e = cc

-- a step whose words after its id are these
abbrev IsAfter : ℕ → List Word → ProofStep → Type 0
IsAfter id words step = (words_for step ≡ decimal id ∷ words) × (IsId id → HasNumbers step) × HasLiterals step

addition_says : (id : ℕ) (words : List Word) (step : ProofStep) → addition id words ≡ Ok step → IsAfter id words step
addition_says id words step e =
    let first : (l : List Literal × List Word) × (closed_list literal_in words ≡ Ok l) × (and_then (closed_list hint_in l.1) (λ hints. ended (Addition id l.0 hints.0) hints.1) ≡ Ok step) =
    then_ok (closed_list literal_in words) (λ l. and_then (closed_list hint_in l.1) (λ hints. ended (Addition id l.0 hints.0) hints.1)) step e in
    let second : (h : List ℤ × List Word) × (closed_list hint_in first.0.1 ≡ Ok h) × (ended (Addition id first.0.0 h.0) h.1 ≡ Ok step) =
    then_ok (closed_list hint_in first.0.1) (λ hints. ended (Addition id first.0.0 hints.0) hints.1) step first.2 in
    let over : (second.0.1 ≡ []) × (Addition id first.0.0 second.0.0 ≡ step) = ended_ok (Addition id first.0.0 second.0.0) step second.0.1 second.2 in
    let lits : (words ≡ map literal_text first.0.0 ++ codes "0" ∷ first.0.1) × AllByRecursion IsLiteral first.0.0 = list_says literal_in literal_text IsLiteral literal_said words first.0 first.1 in
    let hints : (first.0.1 ≡ map signed_decimal second.0.0 ++ codes "0" ∷ second.0.1) × AllByRecursion IsHint second.0.0 = list_says hint_in signed_decimal IsHint hint_said first.0.1 second.0 second.1 in
    subst (IsAfter id words) over.1
    (ap (λ (ws : List Word). decimal id ∷ ws) (sym (lits.0 ∙ ap (λ (ws : List Word). map literal_text first.0.0 ++ codes "0" ∷ ws) (hints.0 ∙ ap (λ (ws : List Word). map signed_decimal second.0.0 ++ codes "0" ∷ ws) over.0))), λ is. (is, hints.1), lits.1)

deletion_says : (id : ℕ) (words : List Word) (step : ProofStep) → deletion id words ≡ Ok step → IsAfter id (codes "d" ∷ words) step
deletion_says id words step e =
    let first : (l : List ℕ × List Word) × (closed_list id_in words ≡ Ok l) × (ended (Deletion id l.0) l.1 ≡ Ok step) =
    then_ok (closed_list id_in words) (λ l. ended (Deletion id l.0) l.1) step e in
    let over : (first.0.1 ≡ []) × (Deletion id first.0.0 ≡ step) = ended_ok (Deletion id first.0.0) step first.0.1 first.2 in
    let ids : (words ≡ map decimal first.0.0 ++ codes "0" ∷ first.0.1) × AllByRecursion IsId first.0.0 = list_says id_in decimal IsId id_said words first.0 first.1 in
    subst (IsAfter id (codes "d" ∷ words)) over.1
    (ap (λ (ws : List Word). decimal id ∷ codes "d" ∷ ws) (sym (ids.0 ∙ ap (λ (ws : List Word). map decimal first.0.0 ++ codes "0" ∷ ws) over.0)), λ is. (is, ids.1), tt)

after_says : (id : ℕ) (words : List Word) (step : ProofStep) → after_id id words ≡ Ok step → IsAfter id words step
after_says id [] step e = addition_says id [] step e
after_says id (word ∷ words) step e =
    elim (is_mark word) as (λ t. is_mark word ≡ t → cond t (deletion id words) (addition id (word ∷ words)) ≡ Ok step → IsAfter id (word ∷ words) step) [
      | true ↦ λ is k. subst (λ (w : Word). IsAfter id (w ∷ words) step) (sym ((bytes_eq-Decides word (codes "d")).0 is)) (deletion_says id words step k)
      | false ↦ λ is k. addition_says id (word ∷ words) step k
    ] refl e

words_say : (words : List Word) (step : ProofStep) → step_of_words words ≡ Ok step → (words ≡ words_for step) × HasNumbers step × HasLiterals step
words_say [] step e = cc
words_say (word ∷ words) step e =
    elim (id_in word) as (λ o. id_in word ≡ o → with_id o words ≡ Ok step → (word ∷ words ≡ words_for step) × HasNumbers step × HasLiterals step) [
      | None ↦ λ _ k. cc
      | Some id ↦ λ is k.
          let one : (word ≡ decimal id) × IsId id = id_said word id is in
          let rest : IsAfter id words step = after_says id words step k in
          (ap (λ (w : Word). w ∷ words) one.0 ∙ sym rest.0, rest.1 one.1, rest.2)
    ] refl e

pub line_says : (line : List ℕ) (step : ProofStep) → step_in line ≡ Ok step → (words_of line ≡ words_for step) × HasNumbers step × HasLiterals step
line_says line step e = words_say (words_of line) step e

-- numbers that are read are in range
pub after_numbers : (first : Word) (words : List Word) (id : ℕ) (step : ProofStep) → id_in first ≡ Some id → after_id id words ≡ Ok step → HasNumbers step
after_numbers first words id step e k = (after_says id words step k).1 (id_said first id e).1
