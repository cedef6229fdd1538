use Rattle.std.proofs.Common.{◌≡◌, ◌≤◌, [], take, drop, sym, ap, ◌∙◌, subst, arith, ◌∷◌, ◌+◌}
use Rattle.lrat_model.specs.Literal.{variable_of}
use Rattle.lrat_model.specs.Steps.{literal_fault}
use Rattle.lrat_model.specs.Alike.{Alike}
use Rattle.lrat_checker.proofs.LemmaLaws.{alike_more, tautology_here, no_fault_here}
use Rattle.lrat_checker.proofs.hint.assume_negations.Goals as goal

pub returns-then-is_true-clause-fault : goal.returns-then-is_true-clause-fault
returns-then-is_true-clause-fault c =
    let now = c.loop-l.assignment in
    let lits = c.args.lits.now in
    let i = c.loop-l.l-index in
    let l = c.l-item.result in
    let range : variable_of l ≤ now.vars = omega (arith, c.if-from-vars.false, c.vars.ensures, c.from.ensures, c.variable.ensures.value) in
    tautology_here now.vars lits i l now.trues c.loop-l-test.true c.l-item.is c.loop-l.invariant.trues range c.loop-l.invariant.faults (sym c.is_true.ensures ∙ c.if-is_true.true)
    ∙ ap (λ n. literal_fault n [] lits) c.loop-l.invariant.vars

pub loop-l-preserved : goal.loop-l-preserved
loop-l-preserved c =
    let now = c.loop-l.assignment in
    let lits = c.args.lits.now in
    let i = c.loop-l.l-index in
    let l = c.l-item.result in
    let range : variable_of l ≤ now.vars = omega (arith, c.if-from-vars.false, c.vars.ensures, c.from.ensures, c.variable.ensures.value) in
    record {
      vars = c.force.ensures.vars ∙ c.loop-l.invariant.vars;
      trues = alike_more now.vars lits i l now.trues c.loop-l-test.true c.l-item.is c.loop-l.invariant.trues c.force.new.self.trues (subst (λ k. Alike (k ∷ now.trues) c.force.new.self.trues) c.negated.ensures c.force.ensures.trues);
      faults = subst (λ n. literal_fault n (take (i + 1) lits) (drop (i + 1) lits) ≡ literal_fault n [] lits) (sym c.force.ensures.vars)
          (no_fault_here now.vars lits i l now.trues c.loop-l-test.true c.l-item.is c.loop-l.invariant.trues range c.loop-l.invariant.faults (sym c.is_true.ensures ∙ c.if-is_true.false));
    }
