-- How a check ends that accepts nothing.
use Rattle.std.specs.Prelude.{⊤}
use Rattle.cert_lines.specs.declared.faults.CertError.{CertError}
use Rattle.cert_lines.specs.declared.faults.CheckError.{CheckError}
use Rattle.cert_lines.specs.declared.faults.CheckError.TheVariants.{Cert, Read}

-- P of the fault, where the certificate has one: of a failed read nothing is said
abbrev pub OnCert : CheckError → (CertError → Type 0) → Type 0
OnCert (Cert fault) P = P fault
OnCert Read P = ⊤
