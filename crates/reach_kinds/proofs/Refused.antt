-- Steps that are refused, and those that are taken.
use Rattle.std.proofs.Common.{◌≡◌, ◌⊎◌, ℕ, Bool, true, false, Option, Some, None, Result, Ok, Err, IfErr, refl, inl, inr, ◌∙◌}
use Rattle.std.proofs.lemmas.Result.{IfErr-weaker}
use Rattle.lrat_model.specs.declared.step.StepFault.{StepFault}
use Rattle.cert_lines.specs.declared.faults.CertError.{CertError}
use Rattle.cert_lines.specs.declared.faults.CertError.TheVariants.{Memory}
use Rattle.reach_kinds.specs.Bodies.{unless_refused}

-- a step that is refused is refused so whatever follows
pub refused_so : {A B : Type 0} (l : ℕ) (old : Bool) (fault : Option StepFault) (a : A) (r : Result B CertError) (e : CertError) → unless_refused l old fault (Ok a) ≡ Err e → unless_refused l old fault r ≡ Err e
refused_so l old (Some fault) a r e is = let q = is in cc
refused_so l true None a r e is = let q = is in cc
refused_so l false None a r e is = absurd cc

-- or memory is wanting
pub refused_or_memory : {A B C : Type 0} (result : Result A CertError) (l : ℕ) (old : Bool) (fault : Option StepFault) (a : B) (r line : Result C CertError) → line ≡ unless_refused l old fault r
    → IfErr result (λ e. (e ≡ Memory) ⊎ (unless_refused l old fault (Ok a) ≡ Err e)) → IfErr result (λ e. (e ≡ Memory) ⊎ (line ≡ Err e))
refused_or_memory result l old fault a r line is = IfErr-weaker result _ _ (λ e came. elim came [
  | inl memory ↦ inl memory
  | inr refused ↦ inr (is ∙ refused_so l old fault a r e refused)
])

-- a step that is taken has no fault and is as new as is asked
pub taken_so : {A : Type 0} (l : ℕ) (old : Bool) (fault : Option StepFault) (a b : A) → unless_refused l old fault (Ok a) ≡ Ok b → (fault ≡ None) × (old ≡ false) × (a ≡ b)
taken_so l old (Some fault) a b is = absurd cc
taken_so l true None a b is = absurd cc
taken_so l false None a b is = (refl, refl, let q = is in cc)
