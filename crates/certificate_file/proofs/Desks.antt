-- What calls that read one after another do to a desk.
use Rattle.std.proofs.Common.{◌≡◌, ℕ, ◌≤◌, ◌∙◌, sym, ap, subst, Result, Ok, Err, IsTrue}
use Rattle.desk_io.specs.State.{DeskState, left_of, with_left}
use Rattle.desk_io.specs.Faults.{Faults, Rose, ReadFails}
use Rattle.desk_io.specs.declared.Which.TheVariants.{Cert}
use Rattle.cert_lines.specs.declared.faults.CertError.{CertError}
use Rattle.cert_lines.specs.declared.faults.CheckError.{CheckError}
use Rattle.cert_lines.specs.declared.faults.CheckError.TheVariants.{Cert as Faulty, Read}

-- two calls change nothing but what is left of the certificate
pub rest_then : (a b c : DeskState) → b ≡ with_left Cert (left_of Cert b) a → c ≡ with_left Cert (left_of Cert c) b → c ≡ with_left Cert (left_of Cert c) a
rest_then a b c first second = second ∙ ap (with_left Cert (left_of Cert c)) first

-- a desk stays plain
pub plain_then : (a b : DeskState) → b ≡ with_left Cert (left_of Cert b) a → IsTrue a.plain → IsTrue b.plain
plain_then a b rest plain = subst (λ (s : DeskState). IsTrue s.plain) (sym rest) plain

-- calls that counted no fault, and then one that failed where P is so: there Q is so
pub fails_then : (a b c : Faults) (P Q : Type 0) → b.writes ≡ a.writes → b.reads ≡ a.reads → (P → Q) → (Q → P) → ReadFails b c P → ReadFails a c Q
fails_then a b c P Q writes reads to from fails = record {
  later = subst (λ (n : ℕ). n ≤ c.reads) reads fails.later;
  writes = fails.writes ∙ writes;
  rose = λ q. subst (λ (n : ℕ). Rose n c.reads) reads (fails.rose (from q));
  none = λ unless. fails.none (λ p. unless (to p)) ∙ reads;
}

-- the same of one call
pub fails_as : (a b : Faults) (P Q : Type 0) → (P → Q) → (Q → P) → ReadFails a b P → ReadFails a b Q
fails_as a b P Q to from fails = record {
  later = fails.later;
  writes = fails.writes;
  rose = λ q. fails.rose (from q);
  none = λ unless. fails.none (λ p. unless (to p));
}

-- a success is no failed read
pub not_read : {T : Type 0} {x : T} → ◌≡◌ {A = Result T CheckError} (Ok x) (Err Read) → ⊥
not_read e = absurd cc

-- nor is a fault of the certificate
pub not_faulty : {T : Type 0} (fault : CertError) → ◌≡◌ {A = Result T CheckError} (Err (Faulty fault)) (Err Read) → ⊥
not_faulty fault e = absurd cc

-- the fault of a result is the fault of one with another value
pub same_fault : {T U : Type 0} (e : CheckError) → ◌≡◌ {A = Result T CheckError} (Err e) (Err Read) → ◌≡◌ {A = Result U CheckError} (Err e) (Err Read)
same_fault e is = let same : e ≡ Read = cc in ap (λ (x : CheckError). Err x) same

-- calls that counted no fault, and then one that failed, whose fault is handed on
pub fails_on : {T U : Type 0} (a b c : Faults) (e : CheckError) → b.writes ≡ a.writes → b.reads ≡ a.reads → ReadFails b c (◌≡◌ {A = Result T CheckError} (Err e) (Err Read)) → ReadFails a c (◌≡◌ {A = Result U CheckError} (Err e) (Err Read))
fails_on {T} {U} a b c e writes reads fails =
    fails_then a b c (◌≡◌ {A = Result T CheckError} (Err e) (Err Read)) (◌≡◌ {A = Result U CheckError} (Err e) (Err Read)) writes reads (same_fault e) (same_fault e) fails

-- calls that counted no fault, and then a fault of what was read
pub fails_faulty : {T U : Type 0} (a b c : Faults) (x : T) (fault : CertError) → b.writes ≡ a.writes → b.reads ≡ a.reads → ReadFails b c (◌≡◌ {A = Result T CheckError} (Ok x) (Err Read))
    → ReadFails a c (◌≡◌ {A = Result U CheckError} (Err (Faulty fault)) (Err Read))
fails_faulty {T} {U} a b c x fault writes reads fails =
    fails_then a b c (◌≡◌ {A = Result T CheckError} (Ok x) (Err Read)) (◌≡◌ {A = Result U CheckError} (Err (Faulty fault)) (Err Read)) writes reads (λ is. absurd (not_read is)) (λ is. absurd (not_faulty fault is)) fails
