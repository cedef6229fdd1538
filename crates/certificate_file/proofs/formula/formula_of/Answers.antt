use Rattle.std.proofs.Common.{◌≡◌, ◌⊎◌, ◌<◌, sym, subst, IfOk, IfErr}
use Rattle.lrat_checker.specs.Checking.{Checking}
use Rattle.clause_encoder.specs.declared.limits.TheConstants.{MOST_VARS}
use Rattle.cert_lines.specs.declared.faults.CertError.TheVariants.{Memory, TooLarge}
use Rattle.certificate_file.proofs.WholeLaws.{formula_of_whole, formula_of_part}
use Rattle.certificate_file.proofs.formula.formula_of.Goals as goal

pub returns-in-None-clause-ok : goal.returns-in-None-clause-ok
returns-in-None-clause-ok c =
    subst (λ (x : Checking). IfOk c.formula_over.result (λ r. r.0 ≡ x)) (sym (formula_of_whole c.args.system.now c.args.subject.now c.requires c.in-None.is)) c.formula_over.ensures.ok

pub returns-in-None-clause-err : goal.returns-in-None-clause-err
returns-in-None-clause-err c =
    subst (λ (x : Checking). IfErr c.formula_over.result (λ e. (e ≡ Memory) ⊎ ((e ≡ TooLarge x.vars) × (MOST_VARS < x.vars)))) (sym (formula_of_whole c.args.system.now c.args.subject.now c.requires c.in-None.is)) c.formula_over.ensures.err

pub returns-in_ok-part-in-Some-clause-ok : goal.returns-in_ok-part-in-Some-clause-ok
returns-in_ok-part-in-Some-clause-ok c =
    let is = formula_of_part c.args.system.now c.args.subject.now c.in_ok-part-in-Some.part c.cut-faulty.result c.in_ok-part-in-Some.ensures.part c.cut-faulty.ensures.part in
    subst (λ (x : Checking). IfOk c.formula_over-in-Some.result (λ r. r.0 ≡ x)) (sym is) c.formula_over-in-Some.ensures.ok

pub returns-in_ok-part-in-Some-clause-err : goal.returns-in_ok-part-in-Some-clause-err
returns-in_ok-part-in-Some-clause-err c =
    let is = formula_of_part c.args.system.now c.args.subject.now c.in_ok-part-in-Some.part c.cut-faulty.result c.in_ok-part-in-Some.ensures.part c.cut-faulty.ensures.part in
    subst (λ (x : Checking). IfErr c.formula_over-in-Some.result (λ e. (e ≡ Memory) ⊎ ((e ≡ TooLarge x.vars) × (MOST_VARS < x.vars)))) (sym is) c.formula_over-in-Some.ensures.err
