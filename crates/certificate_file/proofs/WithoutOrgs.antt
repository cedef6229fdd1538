-- What a certificate is answered without organisations is its answer with any, unless it is refused for want of them.
use Rattle.std.proofs.Common.{◌≡◌, ◌⊎◌, ℕ, ◌+◌, List, [], ◌∷◌, length, leb, Option, Some, None, ok_or, Result, Ok, Err, inl, inr, refl, ap, ◌∙◌}
use Rattle.std.proofs.lemmas.Bool.{cases_Bool}
use Rattle.fbas_model.specs.Systems.{System}
use Rattle.cert_lines.specs.Lines.{Lines, tail, line, lines_of}
use Rattle.cert_lines.specs.Limits.{within_limits}
use Rattle.cert_lines.specs.Words.{orgs_digest_in}
use Rattle.cert_lines.specs.declared.lines.TheConstants.{MAX_LINES, MAX_LINE_BYTES}
use Rattle.cert_lines.specs.declared.faults.CertError.{CertError}
use Rattle.cert_lines.specs.declared.faults.CertError.TheVariants.{BadLine, NoOrgs}
use Rattle.reach_kinds.specs.Bodies.{and_then}
use Rattle.certificate_file.specs.Organisations.{without_orgs}
use Rattle.certificate_file.specs.Acceptance.{orgs_found, take_line, check_lines, checked}
use Rattle.certificate_file.specs.declared.given.Given.{Given}
use Rattle.certificate_file.specs.declared.places.Accepted.{Accepted}
use Rattle.certificate_file.specs.declared.places.Place.{Place}
use Rattle.certificate_file.specs.declared.places.Place.TheVariants.{AtTitle, AtDigest, AtFrom, AtFaulty, AtKind, AtOrgs, AtFirst, AtSecond, AtFormula, AtSteps, AtReach, AtEnd}
use Rattle.certificate_file.specs.declared.places.State.{State}
use Rattle.certificate_file.specs.declared.places.State.TheVariants.{Going, Done}

-- the second is refused for want of organisations, or the first is the same
abbrev AreAlike : {A : Type 0} → Result A CertError → Result A CertError → Type 0
AreAlike a b = (b ≡ Err NoOrgs) ⊎ (a ≡ b)

line_alike : (f : System) (given : Given) (p : Place) (l : ℕ) (text : List ℕ) → AreAlike (take_line f given p l text) (take_line f (without_orgs given) p l text)
unfolding take_line
line_alike f given AtTitle l text = inr refl
line_alike f given (AtDigest version) l text = inr refl
line_alike f given (AtFrom version) l text = inr refl
line_alike f given (AtFaulty version from nodes) l text = inr refl
line_alike f given (AtKind subject) l text = inr refl
line_alike f given (AtOrgs kind subject) l text = elim (orgs_digest_in text) as (λ (o : Option (List ℕ)). AreAlike (and_then (orgs_found f kind subject given.orgs) (ok_or o (BadLine l))) (and_then (orgs_found f kind subject None) (ok_or o (BadLine l)))) [
  | Some found ↦ inl refl
  | None ↦ inr refl
]
line_alike f given (AtFirst subject) l text = inr refl
line_alike f given (AtSecond subject u) l text = inr refl
line_alike f given (AtFormula to subject) l text = inr refl
line_alike f given (AtSteps to h c n) l text = inr refl
line_alike f given (AtReach subject p) l text = inr refl
line_alike f given (AtEnd a) l text = inr refl

-- two results in a row
joined : (a b : Result State CertError) (next other : State → Result Accepted CertError) → AreAlike a b → ((s : State) → AreAlike (next s) (other s)) → AreAlike (and_then next a) (and_then other b)
joined a b next other (inl none) then = inl (ap (λ (r : Result State CertError). and_then other r) none)
joined a b next other (inr same) then = elim (behind b) [
  | inl none ↦ inl none
  | inr e ↦ inr (ap (λ (r : Result State CertError). and_then next r) same ∙ e)
]
  where
    behind : (r : Result State CertError) → AreAlike (and_then next r) (and_then other r)
    behind (Ok s) = then s
    behind (Err e) = inr refl

within : (l : ℕ) (text : List ℕ) (a b : Result Accepted CertError) → AreAlike a b → AreAlike (within_limits l text a) (within_limits l text b)
within l text a b alike = elim (cases_Bool (leb l MAX_LINES)) [
  | inr e ↦ inr (rw e refl)
  | inl e ↦ elim (cases_Bool (leb (length text) MAX_LINE_BYTES)) [ inl k ↦ rw (e, k) alike | inr k ↦ inr (rw (e, k) refl) ]
]

lines_alike : (f : System) (given : Given) (l : ℕ) (s : State) (ls : Lines) → AreAlike (check_lines f given l s ls) (check_lines f (without_orgs given) l s ls)
lines_alike f given l (Done b) (tail []) = inr refl
lines_alike f given l (Done b) (tail (x ∷ xs)) = inr refl
lines_alike f given l (Done b) (line text more) = inr refl
lines_alike f given l (Going p) (tail bytes) = inr refl
lines_alike f given l (Going p) (line text more) =
    let none : Given = without_orgs given in
    let next : State → Result Accepted CertError = λ state. check_lines f given (l + 1) state more in
    let other : State → Result Accepted CertError = λ state. check_lines f none (l + 1) state more in
    within l text (and_then next (take_line f given p l text)) (and_then other (take_line f none p l text))
    (joined (take_line f given p l text) (take_line f none p l text) next other (line_alike f given p l text) (λ state. lines_alike f given (l + 1) state more))

pub answered_alike : (f : System) (given : Given) (bytes : List ℕ) → (checked f (without_orgs given) bytes ≡ Err NoOrgs) ⊎ (checked f given bytes ≡ checked f (without_orgs given) bytes)
unfolding checked
answered_alike f given bytes = lines_alike f given 1 (Going AtTitle) (lines_of bytes)

-- and so what is accepted without organisations is accepted with any
pub accepted_with : (f : System) (given : Given) (bytes : List ℕ) (a : Accepted) → checked f (without_orgs given) bytes ≡ Ok a → checked f given bytes ≡ Ok a
accepted_with f given bytes a e = elim (answered_alike f given bytes) [
  | inl none ↦ absurd cc
  | inr same ↦ same ∙ e
]
