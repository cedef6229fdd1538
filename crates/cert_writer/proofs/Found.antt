-- From what a search shows to a certificate that is accepted.
use Rattle.std.proofs.Common.{◌≡◌, ℕ, ◌+◌, ◌<◌, ◌≤◌, List, length, Ok, refl, sym, ◌∙◌, ap, subst, arith}
use Rattle.std.specs.List.Sorted.{IsStrictlySortedBy}
use Rattle.hex.specs.Hex.{IsBytes}
use Rattle.fbas_model.specs.Nodes.{Table}
use Rattle.fbas_model.specs.Names.{name_cmp}
use Rattle.fbas_model.specs.Fbas.{Fbas}
use Rattle.fbas_model.specs.Systems.{System, IsSystem}
use Rattle.fbas_model.specs.Restriction.{restricted_sets}
use Rattle.lrat_model.specs.Steps.{ProofStep, Database}
use Rattle.lrat_model.specs.Runs.{Run, formula_database}
use Rattle.cdcl_core.specs.Log.{AreLemmas, IsBoundedLog}
use Rattle.clause_encoder.specs.Formula.{formula, formula_clauses}
use Rattle.lrat_checker.specs.Checking.{Checking}
use Rattle.clause_encoder.specs.declared.version.Version.TheVariants.{Three}
use Rattle.certificate_file.specs.Formulas.{formula_of, formula_over}
use Rattle.greatest_quorum.specs.Greatest.{greatest_of}
use Rattle.certificate_file.specs.Meaning.{part_from}
use Rattle.certificate_file.specs.declared.places.Header.{Header}
use Rattle.certificate_file.specs.declared.places.Aim.{Aim}
use Rattle.certificate_file.specs.declared.places.Aim.TheVariants as aim
use Rattle.certificate_file.specs.declared.places.Conclusion.TheVariants as shown
use Rattle.cert_writer.specs.Promises.{IsHeader, subject, part_of, faulty_in, EndsAs, IsLogOf}
use Rattle.cert_writer.proofs.Pairs.{part_is_restricted, pair_of_part_accepted}
use Rattle.cert_writer.proofs.LogLaws.{log_of_accepted}
use Rattle.quorum_questions.specs.Evidence.{clauses_of, IsSize, IsLog, Shows}
use Rattle.quorum_questions.specs.declared.asking.TheConstants.{MOST_UNITS}
use Rattle.quorum_questions.specs.declared.answers.Size.{Size}
use Rattle.quorum_questions.specs.declared.answers.Answer.{Answer as Found}
use Rattle.quorum_questions.specs.declared.answers.Answer.TheVariants.{Yes, No, Spent}
use Rattle.cert_writer.specs.Finding.{Request, given_of, part, faulty, cert_of, Finds, CanBeWritten}
use Rattle.cert_lines.specs.declared.lines.TheConstants.{MAX_LINES}

-- ---- the formula of the part

some_clauses : (f : Fbas) (b g : Table) → 0 < length (formula_clauses Three f b g)
unfolding formula
some_clauses f b g = omega arith

-- the formula that is searched is the one that the check writes
same_formula : (f : System) (h : Header) → IsSystem f.names f.sets → formula_of f (subject f h) ≡ formula_over Three (part_of f h.from).sets (faulty_in f h) (greatest_of (part_of f h.from).sets (faulty_in f h))
unfolding formula_of
same_formula f h is =
    let sets : restricted_sets (part_from f h.from) f.sets ≡ (part_of f h.from).sets = sym (ap (λ (s : System). s.sets) (part_is_restricted f h.from is)) in
    ap (λ (x : Fbas). formula_over Three x (faulty_in f h) (greatest_of x (faulty_in f h))) sets

of_log : (f : System) (h : Header) (to : Aim) (log : List ProofStep) (size : Size) (new : Database) → IsSystem f.names f.sets → IsSize (part_of f h.from).sets (faulty_in f h) size → IsLog (part_of f h.from).sets (faulty_in f h) log new → length log + 7 ≤ MAX_LINES → EndsAs to log → IsLogOf f h to size.vars size.clauses log
of_log f h to log size new is sized run few ends =
    let p = (part_of f h.from).sets in
    let b = faulty_in f h in
    let same : formula_over Three p b (greatest_of p b) ≡ formula_of f (subject f h) = sym (same_formula f h is) in
    let vars : size.vars ≡ (formula_of f (subject f h)).vars = sized.vars ∙ ap (λ (c : Checking). c.vars) same in
    let base : formula_database (clauses_of p b) ≡ (formula_of f (subject f h)).database = ap (λ (c : Checking). c.database) same in
    record {
      vars_are = vars;
      clauses_are = sized.clauses ∙ ap (λ (c : Checking). c.database.last) same;
      small = sized.small;
      some_clause = (omega (arith, sized.clauses, some_clauses p b (greatest_of p b)), let few : size.clauses ≤ 4611686018427387904 = sized.few in omega (arith, few));
      new = new;
      run = subst (λ (d : Database). Run size.vars d log new) base (subst (λ (n : ℕ). Run n (formula_database (clauses_of p b)) log new) (sym sized.vars) run.run);
      lemmas = subst (λ (d : Database). AreLemmas size.vars d log) base (subst (λ (n : ℕ). AreLemmas n (formula_database (clauses_of p b)) log) (sym sized.vars) run.lemmas);
      bounded = subst (λ (n : ℕ). IsBoundedLog n log) (sym sized.vars) run.bounded;
      numbers = run.numbers;
      literals = run.literals;
      few = few;
      ends = ends;
    }

pub found : (s : Request) (found : Found) → IsSystem s.whole.names s.whole.sets → IsStrictlySortedBy name_cmp s.whole.names → length s.digest ≡ 32 → IsBytes s.digest → IsHeader s.whole s.header → s.budget ≤ MOST_UNITS → Shows (part s).sets (faulty s) s.budget found → Finds s found (cert_of s found)
found s (Yes log size) is sorted long bytes head small r =
    let few : length log + 7 ≤ MAX_LINES = omega (arith, r.run.short, r.taken, small) in
    record {
      shows = r;
      cert_is = refl;
      accepted = log_of_accepted s.whole (given_of s) s.header aim.Refutation size.vars size.clauses log is sorted long bytes head (of_log s.whole s.header aim.Refutation log size r.new is r.sized r.run few r.ends);
    }
found s (No pair) is sorted long bytes head small r = record {
  shows = r;
  cert_is = refl;
  accepted = pair_of_part_accepted s.whole (part s) (given_of s) s.header pair is sorted long bytes head refl r.apart;
}
found s (Spent log size) is sorted long bytes head small r =
    let few : length log + 7 ≤ MAX_LINES = omega (arith, r.run.short, r.taken, small) in
    record {
      shows = r;
      cert_is = refl;
      accepted =
          log_of_accepted s.whole (given_of s) s.header aim.Partial size.vars size.clauses log is sorted long bytes head (of_log s.whole s.header aim.Partial log size r.new is r.sized r.run few r.unrefuted)
          ∙ ap (λ (n : ℕ). Ok (record { header = s.header; answer = shown.Partial n })) r.taken;
    }

-- what is shown can be written
pub can_be_written : (f : System) (b : Table) (budget : ℕ) (found : Found) → length f.names ≡ length f.sets → Shows f.sets b budget found → CanBeWritten (length f.names) found
can_be_written f b budget (Yes log size) same r = r.run.numbers
can_be_written f b budget (No pair) same r = (r.first ∙ sym same, r.second ∙ sym same)
can_be_written f b budget (Spent log size) same r = r.run.numbers
