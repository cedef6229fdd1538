-- What is known after the first two lines, results that are known, and a list before its first line.
use Rattle.std.proofs.Common.{◌≡◌, ◌⊎◌, ℕ, List, Bool, true, false, Option, Some, None, ok_or, Result, Ok, Err, IfOk, IfErr, inr, sym, subst, bytes_eq}
use Rattle.fbas_model.specs.Systems.{System}
use Rattle.clause_encoder.specs.declared.version.Version.{Version}
use Rattle.cert_lines.specs.Limits.{unless}
use Rattle.cert_lines.specs.Words.{digest_in}
use Rattle.cert_lines.specs.declared.faults.CertError.{CertError}
use Rattle.cert_lines.specs.declared.faults.CertError.TheVariants.{Memory, BadLine, Digest}
use Rattle.certificate_file.specs.declared.given.Given.{Given}
use Rattle.certificate_file.specs.Acceptance.{version_in, title_line, digest_line}
use Rattle.reach_kinds.specs.Bodies.{and_then}
use Rattle.certificate_file.specs.Known.{IsKnownState}
use Rattle.certificate_file.specs.declared.places.Place.TheVariants.{AtDigest, AtFrom}
use Rattle.certificate_file.specs.declared.places.State.{State}
use Rattle.certificate_file.specs.declared.places.State.TheVariants.{Going}

-- what is so of a fault that is known
pub err_of : {A : Type 0} (r x : Result A CertError) → r ≡ x → IfErr r (λ e. (e ≡ Memory) ⊎ (x ≡ Err e))
err_of (Ok s) x e = tt
err_of (Err s) x e = inr (sym e)

pub known_title : (f : System) (given : Given) (l : ℕ) (text : List ℕ) (r : Result State CertError) → r ≡ title_line l text → IfOk r (IsKnownState f given)
known_title f given l text r e = subst (λ (x : Result State CertError). IfOk x (IsKnownState f given)) (sym e) (
    elim (version_in text) as (λ (o : Option Version). IfOk (and_then (λ version. Ok (Going (AtDigest version))) (ok_or o (BadLine l))) (IsKnownState f given)) [
      | Some version ↦ tt
      | None ↦ tt
    ])

pub known_digest : (f : System) (given : Given) (d : List ℕ) (version : Version) (l : ℕ) (text : List ℕ) (r : Result State CertError) → r ≡ digest_line d version l text → IfOk r (IsKnownState f given)
known_digest f given d version l text r e = subst (λ (x : Result State CertError). IfOk x (IsKnownState f given)) (sym e) (
    elim (digest_in text) as (λ (o : Option (List ℕ)). IfOk (and_then (λ found. unless (Digest found d) (bytes_eq found d) (Ok (Going (AtFrom version)))) (ok_or o (BadLine l))) (IsKnownState f given)) [
      | Some found ↦ elim (bytes_eq found d) as (λ (b : Bool). IfOk (unless (Digest found d) b (Ok (Going (AtFrom version)))) (IsKnownState f given)) [
        | true ↦ tt
        | false ↦ tt
      ]
      | None ↦ tt
    ])
