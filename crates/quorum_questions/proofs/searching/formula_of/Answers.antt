use Rattle.std.proofs.Common.{◌≡◌, ◌<◌, ◌≤◌, ◌∙◌, sym, ap, subst, ℕ, length, Err, refl}
use Rattle.fbas_model.specs.Nodes.{Table, members}
use Rattle.fbas_model.specs.Fbas.{Fbas, IsGreatestQuorum, all_nodes}
use Rattle.lrat_model.specs.Steps.{Database}
use Rattle.lrat_model.specs.Ranges.{AreInRange}
use Rattle.lrat_model.specs.Runs.{formula_database}
use Rattle.greatest_quorum.specs.Greatest.{greatest_of}
use Rattle.clause_encoder.specs.Formula.{formula_vars, formula_clauses}
use Rattle.clause_encoder.specs.declared.version.Version.TheVariants.{Three}
use Rattle.clause_encoder.specs.Variables.{Variables}
use Rattle.clause_encoder.specs.declared.limits.TheConstants.{MOST_VARS, MOST_CLAUSES}
use Rattle.clause_encoder.specs.declared.encoder.EncodeError.{EncodeError}
use Rattle.quorum_questions.specs.Evidence.{vars_of, clauses_of}
use Rattle.quorum_questions.specs.declared.answers.AskError.{AskError}
use Rattle.quorum_questions.proofs.searching.formula_of.Goals as goal

pub returns-in-Ok-clause-formula : goal.returns-in-Ok-clause-formula
returns-in-Ok-clause-formula c =
    let f = c.args.asked.now.system.now.sets in
    let b = c.args.asked.now.faulty.now in
    let same : c.greatest-greatest.result ≡ greatest_of f b = c.greatest-greatest.ensures.counted in
    let map : c.in-Ok.map ≡ record { greatest = greatest_of f b; count = vars_of f b } = c.in-Ok.ensures.variables ∙ ap {B = Variables} (λ (g : Table). record { greatest = g; count = formula_vars Three f b g }) same in
    let store : c.in-Ok.store ≡ formula_database (clauses_of f b) = c.in-Ok.ensures.store ∙ ap {B = Database} (λ (g : Table). formula_database (formula_clauses Three f b g)) same in
    record {
      store = store;
      range = subst (λ (n : ℕ). AreInRange n c.in-Ok.store.held) (sym c.vars.ensures) c.in-Ok.ensures.in_range;
      exact = c.in-Ok.ensures.exact;
      map = map;
      places = ap (λ (m : Variables). length m.greatest) c.in-Ok.ensures.variables ∙ c.greatest-greatest.ensures.same_n;
      greatest = subst (λ (m : Variables). IsGreatestQuorum f (members b) (all_nodes f) (members m.greatest)) (sym c.in-Ok.ensures.variables) c.greatest-greatest.ensures.greatest;
      size = record {
        vars = c.vars.ensures ∙ ap (λ (m : Variables). m.count) map;
        clauses = c.last.ensures.value ∙ ap (λ (d : Database). d.last) store;
        small = subst (λ (n : ℕ). n ≤ MOST_VARS) (sym (c.vars.ensures ∙ ap (λ (m : Variables). m.count) c.in-Ok.ensures.variables)) c.in-Ok.ensures.small;
        few = subst (λ (n : ℕ). n ≤ MOST_CLAUSES) (sym c.last.ensures.value) c.in-Ok.ensures.few;
      };
    }

-- a formula that is too large is told with its number of variables
told : (f : Fbas) (b g : Table) (error : EncodeError) (asked : AskError) → g ≡ greatest_of f b → ((n : ℕ) → error ≡ EncodeError.TooLarge n → asked ≡ AskError.TooLarge n) → (error ≡ EncodeError.Memory → asked ≡ AskError.Memory) → ((n : ℕ) → error ≡ EncodeError.TooLarge n → (n ≡ formula_vars Three f b g) × (MOST_VARS < n)) → (vars : ℕ) → asked ≡ AskError.TooLarge vars → (vars ≡ vars_of f b) × (MOST_VARS < vars)
told f b g (EncodeError.TooLarge n) asked same large memory known vars e =
    let there = large n refl in
    let at : (n ≡ formula_vars Three f b g) × (MOST_VARS < n) = known n refl in
    let is : n ≡ vars = cc in
    ((sym is ∙ at.0) ∙ ap (λ (x : Table). formula_vars Three f b x) same, subst (λ (x : ℕ). MOST_VARS < x) is at.1)
told f b g EncodeError.Memory asked same large memory known vars e = let there = memory refl in absurd cc

pub returns-in-Err-clause-too_large : goal.returns-in-Err-clause-too_large
returns-in-Err-clause-too_large c = λ vars e.
    told c.args.asked.now.system.now.sets c.args.asked.now.faulty.now c.greatest-greatest.result c.in-Err.error c.no_formula.result c.greatest-greatest.ensures.counted c.no_formula.ensures.too_large c.no_formula.ensures.memory (λ n is. c.encode.ensures.too_large n (c.in-Err.is ∙ ap Err is)) vars cc
