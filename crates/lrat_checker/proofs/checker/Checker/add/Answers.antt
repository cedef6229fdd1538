use Rattle.std.proofs.Common.{◌≡◌, sym, subst, ◌∙◌, None, []}
use Rattle.lrat_model.specs.Steps.{literal_fault}
use Rattle.lrat_model.specs.Ranges.{IsInRange, AreInRange}
use Rattle.lrat_checker.proofs.FaultLaws.{range-literal_fault, lemma_fault-not_memory, literals_first}
use Rattle.lrat_checker.proofs.ReadyLaws.{idle_ready, shown_idle}
use Rattle.lrat_checker.proofs.checker.Checker.add.Goals as goal

pub returns-in-Some-clause-memory : goal.returns-in-Some-clause-memory
returns-in-Some-clause-memory c = λ is.
    let inside = c.self.inside in
    absurd (lemma_fault-not_memory inside.rule inside.assignment.vars inside.clauses.held c.args.lits.now c.args.hints.now (sym c.lemma_fault-found.ensures.fault ∙ cc))

pub give-requires-clause-range : goal.give-requires-clause-range
give-requires-clause-range c =
    let vars = c.self.inside.assignment.vars in
    let none : literal_fault vars [] c.args.lits.now ≡ None = literals_first _ _ (sym c.in_default.ensures.fault) in
    subst (λ n. IsInRange n c.args.lits.now) (sym (c.clear.ensures.vars ∙ c.lemma_fault-found.ensures.vars)) (range-literal_fault vars [] c.args.lits.now none)

pub invariant_of-self : goal.invariant_of-self
invariant_of-self c = idle_ready _ (shown_idle c.self.inside _ c.self.view_is c.requires) c.clear.ensures.trues (subst (λ n. AreInRange n c.self.inside.clauses.held) (sym (c.clear.ensures.vars ∙ c.lemma_fault-found.ensures.vars)) c.self.invariant.in_range) c.self.invariant.found
