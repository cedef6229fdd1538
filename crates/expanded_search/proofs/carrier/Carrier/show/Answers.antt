use Rattle.std.proofs.Common.{◌≡◌, ◌+◌, ◌≤◌, ℕ, List, length, None, map, pos, refl, ◌∙◌, sym, ap, subst, arith, ℤ}
use Rattle.std.proofs.lemmas.List.{length-map}
use Rattle.lrat_model.specs.Steps.{ProofStep, Addition, step_of}
use Rattle.lrat_model.specs.Rules.{step_fault_by}
use Rattle.lrat_model.specs.declared.step.Rule.{Rule}
use Rattle.lrat_model.specs.declared.step.Rule.TheVariants.{Rup}
use Rattle.counter_expansion.specs.declared.cells.Cell.{Cell}
use Rattle.expanded_search.specs.Named.{AreNamed}
use Rattle.expanded_search.specs.Carriers.{AreLitsNowhere}
use Rattle.expanded_search.proofs.CarrierLaws.{ids_as_hints}
use Rattle.expanded_search.proofs.carrier.Carrier.show.Goals as goal

pub returns-in-Ok-clause-shows : goal.returns-in-Ok-clause-shows
returns-in-Ok-clause-shows c =
    let d = c.args.self.now.checker.database in
    let vars = c.args.self.now.vars in
    let ids : List ℕ = c.deref-2.result.now in
    let are : AreNamed d.held ids = subst (λ (is : List ℕ). AreNamed d.held is) (sym c.deref-2.ensures.value) c.in_ok-look_for.ensures in
    let says : step_of c.in_ok-step.step ≡ Addition (d.last + 1) c.args.lits.now (map pos ids) =
    c.in_ok-step.ensures ∙ subst (λ (n : ℕ). Addition (c.last-last.result + 1) c.args.lits.now (map pos ids) ≡ Addition (n + 1) c.args.lits.now (map pos ids)) c.last-last.ensures.value refl in
    let by_rule : step_fault_by Rup c.args.self.now.checker.vars d (step_of c.in_ok-step.step) ≡ None = subst (λ (r : Rule). step_fault_by r c.args.self.now.checker.vars d (step_of c.in_ok-step.step) ≡ None) c.requires.ready.rule c.in-Ok.ensures.taken in
    let among : step_fault_by Rup vars d (step_of c.in_ok-step.step) ≡ None = subst (λ (n : ℕ). step_fault_by Rup n d (step_of c.in_ok-step.step) ≡ None) c.requires.ready.vars by_rule in
    let few : length (map pos ids) ≤ vars + 1 = omega (arith, length-map {A = ℕ} {B = ℤ} ids (λ n. pos n), ap (λ (is : List ℕ). length is) c.deref-2.ensures.value, c.len.ensures, c.if-len-self.false) in (
      map pos ids,
      says,
      record {
        taken = subst (λ (s : ProofStep). step_fault_by Rup vars d s ≡ None) says among;
        named = are.named;
        few = few;
        numbers = (omega arith, ids_as_hints ids are.numbers);
        outer = subst (λ (cells : List Cell). AreLitsNowhere cells c.args.lits.now) c.deref.ensures.value (c.if-not-are_outer.ensures refl);
      },
    )
