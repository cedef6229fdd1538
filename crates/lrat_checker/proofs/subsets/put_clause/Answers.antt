use Rattle.std.proofs.Common.{◌≡◌, ℕ, List, Some, sym, ◌∙◌, subst}
use Rattle.std.specs.Prelude.{IfSome}
use Rattle.lrat_model.specs.Literal.{Literal}
use Rattle.lrat_checker.specs.declared.subsets.Watch.{Watch}
use Rattle.lrat_checker.specs.Subsets.{IsFound, AreFound}
use Rattle.lrat_checker.proofs.FaultLaws.{where_ok}
use Rattle.lrat_checker.proofs.SubsetLaws.{found_with}
use Rattle.lrat_checker.proofs.subsets.put_clause.Goals as goal

pub returns-else-is_err : goal.returns-else-is_err
returns-else-is_err c = λ held store all.
    let was : c.args.index.now ≡ Some c.in-Some.subsets = cc c.in-Some.is in
    let ok = sym c.is_err.ensures.value ∙ c.if-is_err.false in
    let kept = where_ok c.put.result _ ok c.put.ensures.kept in
    subst (λ h. AreFound h c.put.new.self) (sym store)
    (found_with held c.in-Some.subsets c.put.new.self c.args.id c.args.lits.now (subst (λ o. IfSome o (AreFound held)) was all) (where_ok c.put.result _ ok c.put.ensures.found)
    (subst (λ (ls : List (List Watch)). (k : ℕ) (clause : List Literal) → IsFound ls k clause → IsFound c.put.new.self k clause) c.count.ensures kept))
