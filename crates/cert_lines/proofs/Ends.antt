-- How a check ends that accepts nothing.
use Rattle.std.proofs.Common.{◌≡◌, ◌⊎◌, Result, Ok, Err, IsErrAnd, inl, inr, ap}
use Rattle.cert_lines.specs.Ends.{OnCert}
use Rattle.cert_lines.specs.declared.faults.CertError.{CertError}
use Rattle.cert_lines.specs.declared.faults.CertError.TheVariants.{Memory}
use Rattle.cert_lines.specs.declared.faults.CheckError.{CheckError}
use Rattle.cert_lines.specs.declared.faults.CheckError.TheVariants.{Cert, Read}

-- what follows of the fault, where the certificate has one
pub on_cert : {P Q : CertError → Type 0} (e : CheckError) → ((fault : CertError) → P fault → Q fault) → OnCert e P → OnCert e Q
on_cert (Cert fault) f p = f fault p
on_cert Read f p = tt

-- the same where memory may be wanting
pub cert_or_memory : {P Q : CertError → Type 0} (e : CheckError) → ((fault : CertError) → P fault → Q fault) → OnCert e (λ fault. (fault ≡ Memory) ⊎ P fault) → OnCert e (λ fault. (fault ≡ Memory) ⊎ Q fault)
cert_or_memory {P} {Q} e f p = on_cert e (λ fault told. elim told [ inl memory ↦ inl memory | inr is ↦ inr (f fault is) ]) p

-- what a `?` passes on
pub passed_on : {A : Type 0} (r : Result A CheckError) (fault : CertError) → IsErrAnd r (λ e. e ≡ Cert fault) → r ≡ Err (Cert fault)
passed_on (Ok a) fault is = absurd is
passed_on (Err e) fault is = ap (λ (x : CheckError). Err x) is
