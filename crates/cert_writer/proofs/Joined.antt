-- A text of lines, and the machine over them.
use Rattle.std.proofs.Common.{◌≡◌, ℕ, ◌+◌, ◌≤◌, List, [], ◌∷◌, ◌++◌, length, false, ◌==◌, Ok, refl, sym, ◌∙◌, subst, arith}
use Rattle.std.specs.List.{AllByRecursion}
use Rattle.std.proofs.lemmas.Bool.{le-leb}
use Rattle.fbas_model.specs.Systems.{System}
use Rattle.cert_lines.specs.Lines.{line, lines_of}
use Rattle.certificate_file.specs.Acceptance.{take_line, check_lines, checked}
use Rattle.certificate_file.specs.declared.given.Given.{Given}
use Rattle.certificate_file.specs.declared.places.Accepted.{Accepted}
use Rattle.certificate_file.specs.declared.places.Place.TheVariants.{AtTitle}
use Rattle.certificate_file.specs.declared.places.State.{State}
use Rattle.certificate_file.specs.declared.places.State.TheVariants.{Going, Done}
use Rattle.cert_writer.specs.Texts.{Text, joined}
use Rattle.cert_lines.specs.declared.lines.TheConstants.{MAX_LINES, MAX_LINE_BYTES}

-- no line feed
abbrev pub IsPlain : Text → Type 0
IsPlain text = AllByRecursion (λ b. (b == 10) ≡ false) text

-- a line that a certificate may have
pub record IsLine (text : Text) : Type 0 where
  pub plain : IsPlain text
  pub short : length text ≤ MAX_LINE_BYTES

abbrev pub AreLines : List Text → Type 0
AreLines lines = AllByRecursion IsLine lines

pub are_lines-append : (xs ys : List Text) → AreLines xs → AreLines ys → AreLines (xs ++ ys)
are_lines-append [] ys a b = b
are_lines-append (x ∷ xs) ys a b = (a.0, are_lines-append xs ys a.1 b)

first_line : (text more : Text) → IsPlain text → lines_of (text ++ 10 ∷ more) ≡ line text (lines_of more)
first_line [] more plain = refl
first_line (b ∷ text) more plain = rw (plain.0, first_line text more plain.1) refl

-- the lines, each taken at its place from line l on, lead from one state to another
abbrev pub Takes : System → Given → ℕ → State → List Text → State → Type 0
Takes f given l s [] t = s ≡ t
Takes f given l (Done a) (text ∷ lines) t = ⊥
Takes f given l (Going place) (text ∷ lines) t = (next : State) × (take_line f given place l text ≡ Ok next) × Takes f given (l + 1) next lines t

pub takes-append : (f : System) (given : Given) (l m : ℕ) (s t u : State) (xs ys : List Text) → m ≡ l + length xs → Takes f given l s xs t → Takes f given m t ys u → Takes f given l s (xs ++ ys) u
takes-append f given l m s t u [] ys at first second =
    let e : m ≡ l = at ∙ (omega arith) in
    subst (λ (k : ℕ). Takes f given k s ys u) e (subst (λ (x : State). Takes f given m x ys u) (sym first) second)
takes-append f given l m (Done a) t u (x ∷ xs) ys at first second = absurd first
takes-append f given l m (Going place) t u (x ∷ xs) ys at first second =
    let e : m ≡ l + 1 + length xs = omega (arith, at) in
    (first.0, first.1, takes-append f given (l + 1) m first.0 t u xs ys e first.2 second)

-- what the lines lead to is what the machine answers for their text
pub accepted_lines : (f : System) (given : Given) (l : ℕ) (s : State) (lines : List Text) (a : Accepted) → AreLines lines → l + length lines ≤ 17179869185 → Takes f given l s lines (Done a) → check_lines f given l s (lines_of (joined lines)) ≡ Ok a
accepted_lines f given l s [] a are few taken = rw taken refl
accepted_lines f given l (Done b) (text ∷ lines) a are few taken = absurd taken
accepted_lines f given l (Going place) (text ∷ lines) a are few taken =
    let rest = accepted_lines f given (l + 1) taken.0 lines a are.1 (omega arith) taken.2 in
    let low : l ≤ MAX_LINES = omega arith in
    rw (first_line text (joined lines) are.0.plain, le-leb l MAX_LINES low, le-leb (length text) MAX_LINE_BYTES are.0.short, taken.1) rest

pub accepted_text : (f : System) (given : Given) (lines : List Text) (a : Accepted) → AreLines lines → length lines ≤ MAX_LINES → Takes f given 1 (Going AtTitle) lines (Done a) → checked f given (joined lines) ≡ Ok a
unfolding checked
accepted_text f given lines a are few taken = accepted_lines f given 1 (Going AtTitle) lines a are (omega arith) taken
