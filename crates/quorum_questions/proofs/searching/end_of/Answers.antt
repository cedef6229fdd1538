use Rattle.std.proofs.Common.{rules, [], ◌<◌, ◌≡◌, ◌⊎◌, ⊎_elim, ℕ, List, length, true, Some, Ok, sym, ◌∙◌, ap, subst}
use Rattle.std.proofs.lemmas.Bool.{false≢true}
use Rattle.lrat_model.specs.Literal.{Literal}
use Rattle.lrat_model.specs.Clauses.{Held, clause_at, has_id}
use Rattle.lrat_model.specs.Steps.{ProofStep, Database}
use Rattle.lrat_model.specs.Runs.{formula_database}
use Rattle.clause_encoder.specs.Formula.{formula_clauses}
use Rattle.clause_encoder.specs.declared.version.Version.TheVariants.{Three}
use Rattle.clause_encoder.specs.Variables.{Variables}
use Rattle.cdcl_core.specs.Log.{live_in}
use Rattle.cdcl_core.specs.declared.run.Verdict.TheVariants.{Sat, Unsat, Spent}
use Rattle.quorum_questions.proofs.Literals.{log_of}
use Rattle.quorum_questions.proofs.searching.end_of.Goals as goal

-- where nothing was logged before, no clause that was held is a lemma that may be deleted
still_held : (log : List ProofStep) (held : Held) (id : ℕ) (clause : List Literal) → log ≡ [] → (clause_at held id ≡ Some clause) ⊎ ((has_id (live_in log) id ≡ true) × (0 < length clause)) → clause_at held id ≡ Some clause
still_held log held id clause none kept = ⊎_elim (λ there. there) (λ gone. absurd (false≢true (subst (λ (steps : List ProofStep). has_id (live_in steps) id ≡ true) none gone.0))) kept

pub told-requires-clause-tells : goal.told-requires-clause-tells
told-requires-clause-tells c =
    let f = c.args.asked.now.system.now.sets in
    let b = c.args.asked.now.faulty.now in
    let s = c.requires.started in
    let old = c.args.search.now.solver in
    record {
      places = s.places;
      greatest = s.greatest;
      valued = search rules;
      satisfied = λ id clause at.
          let at_g = subst (λ (m : Variables). clause_at (formula_database (formula_clauses Three f b m.greatest)).held id ≡ Some clause) s.map at in
          let at_held = subst (λ (d : Database). clause_at d.held id ≡ Some clause) (sym s.database) at_g in
          c.in_ok-solve.ensures.sat (ap Ok c.in-Sat.is) id clause (still_held old.log c.solve.new.self.database.held id clause s.log (c.solve.ensures.kept id clause at_held));
    }

pub returns-in-Unsat : goal.returns-in-Unsat
returns-in-Unsat c = λ numbers.
    let s = c.requires.started in
    let asked = c.args.asked.now in
    let is = ap Ok c.in-Unsat.is in
    record {
      intersects = s.exact.0 (c.in_ok-solve.ensures.refutes is);
      sized = s.size;
      new = c.solve.new.self.database;
      run = log_of asked.system.now.sets asked.faulty.now c.args.search.now.solver c.solve.new.self s.vars s.database c.args.search.now.size.vars s.size.vars s.size.small s.log c.solve.ensures.run c.solve.ensures.lemmas c.solve.ensures.vars c.solve.ensures.bounds c.solve.ensures.short numbers;
      ends = c.in_ok-solve.ensures.unsat is;
      taken = search rules;
    }

pub returns-in-Spent : goal.returns-in-Spent
returns-in-Spent c = λ numbers.
    let s = c.requires.started in
    let asked = c.args.asked.now in
    let is = ap Ok c.in-Spent.is in
    record {
      sized = s.size;
      new = c.solve.new.self.database;
      run = log_of asked.system.now.sets asked.faulty.now c.args.search.now.solver c.solve.new.self s.vars s.database c.args.search.now.size.vars s.size.vars s.size.small s.log c.solve.ensures.run c.solve.ensures.lemmas c.solve.ensures.vars c.solve.ensures.bounds c.solve.ensures.short numbers;
      unrefuted = search rules;
      taken = search rules;
      unclosed = c.in_ok-solve.ensures.unclosed is;
      due = c.in_ok-solve.ensures.due is;
    }
