-- A log that is written is accepted.
use Rattle.std.proofs.Common.{◌≡◌, ℕ, zero, suc, ◌+◌, ◌≤◌, ◌<◌, List, [], ◌∷◌, ◌++◌, length, map, nat_le, Option, Some, None, Ok, inl, inr, refl, sym, ◌∙◌, ap, subst, arith, codes, ℤ, length-append}
use Rattle.std.specs.List.{AllByRecursion}
use Rattle.std.specs.List.Sorted.{IsStrictlySortedBy}
use Rattle.std.specs.Option.{option_or}
use Rattle.std.specs.Fmt.{decimal, digits}
use Rattle.std.proofs.lemmas.Bool.{cases_Bool, le-leb, eq-eqb}
use Rattle.std.proofs.lemmas.List.{length-map}
use Rattle.std.proofs.lemmas.List.Elements.{recursion_from_All}
use Rattle.std.proofs.lemmas.Fmt.{length-decimal-le}
use Rattle.hex.specs.Hex.{IsBytes}
use Rattle.fbas_model.specs.Names.{name_cmp}
use Rattle.fbas_model.specs.Systems.{System, IsSystem}
use Rattle.lrat_model.specs.Literal.{Literal}
use Rattle.lrat_model.specs.Steps.{ProofStep, Addition, Deletion, Database, step_fault, literal_fault, after_step}
use Rattle.lrat_model.specs.declared.step.StepFault.{StepFault}
use Rattle.lrat_model.specs.Runs.{Run}
use Rattle.lrat_model.specs.declared.step.Rule.{Rule}
use Rattle.lrat_model.specs.declared.step.Rule.TheVariants.{Rat}
use Rattle.lrat_checker.specs.Checking.{Checking}
use Rattle.lrat_text.specs.Texts.{line_of, IsId, HasNumbers, HasLiterals}
use Rattle.lrat_text.specs.Left.{spaced}
use Rattle.lrat_text.proofs.TextLaws.{id_back}
use Rattle.lrat_text.proofs.BackLaws.{step_back}
use Rattle.cdcl_core.specs.Log.{AreLemmas, AreBounded, IsBoundedLog, live_after, units}
use Rattle.certificate_file.specs.Formulas.{formula_of}
use Rattle.cert_lines.specs.Saying.{number_in, counts_in}
use Rattle.certificate_file.specs.Acceptance.{take_line, checked, steps_from}
use Rattle.certificate_file.specs.declared.given.Given.{Given}
use Rattle.certificate_file.specs.declared.places.Aim.{Aim}
use Rattle.certificate_file.specs.declared.places.Aim.TheVariants as aim
use Rattle.certificate_file.specs.declared.places.Conclusion.TheVariants.{Refutation, Partial}
use Rattle.certificate_file.specs.declared.places.Header.{Header}
use Rattle.certificate_file.specs.declared.places.Subject.{Subject}
use Rattle.certificate_file.specs.declared.places.Place.TheVariants.{AtTitle, AtKind, AtFormula, AtSteps}
use Rattle.certificate_file.specs.declared.places.State.TheVariants.{Going, Done}
use Rattle.cert_writer.specs.Texts.{Text, worded, header_lines, log_lines, log_text}
use Rattle.cert_writer.proofs.Joined.{Takes, takes-append, AreLines, are_lines-append, IsLine, accepted_text}
use Rattle.cert_writer.proofs.Words.{IsWord, is_word, is_plain, words_of-worded, plain-worded}
use Rattle.cert_writer.proofs.Names.{AreNames, are_keys}
use Rattle.cert_writer.specs.Promises.{IsHeader, subject, EndsAs, shown_by, IsLogOf}
use Rattle.cert_writer.proofs.Headers.{takes_header, lines_header}
use Rattle.cert_writer.proofs.StepLines.{line_addition, line_deletion, few_literals, decimal_word}
use Rattle.cert_writer.proofs.KindLines.{line_steps, steps_taken}
use Rattle.cert_writer.proofs.Runs.{IsRead, IsGoing, units_after, takes_steps, units_of_log, takes_last, run_split, taken_by_rat, takes_end, lemmas_before}
use Rattle.cert_lines.specs.declared.lines.TheConstants.{MAX_LINES}
use Rattle.clause_encoder.specs.declared.limits.TheConstants.{MOST_VARS}

-- ---- the lines of the steps

fine_literals : (o p : Option StepFault) → option_or o p ≡ None → o ≡ None
fine_literals None p e = refl
fine_literals (Some fault) p e = absurd cc

pub literals_of : (vars : ℕ) (old : Database) (id : ℕ) (lits : List Literal) (hints : List ℤ) → step_fault vars old (Addition id lits hints) ≡ None → literal_fault vars [] lits ≡ None
literals_of vars old id lits hints e = elim (cases_Bool (nat_le id old.last)) [
  | inl low ↦ let k = rw low at e in absurd cc
  | inr above ↦ fine_literals (literal_fault vars [] lits) _ (rw above at e)
]

lines_log : (vars : ℕ) (old new : Database) (live : List ℕ) (count : ℕ) (log : List ProofStep) → vars ≤ MOST_VARS → Run vars old log new → AreLemmas vars old log → AreBounded vars live count log → AllByRecursion HasNumbers log → AllByRecursion HasLiterals log → AreLines (map line_of log)
lines_log vars old new live count [] small run lemmas bounded ns ls = tt
lines_log vars old new live count (Deletion id ids ∷ log) small run lemmas bounded ns ls = (
  line_deletion id ids ns.0.0 ns.0.1 bounded.0.0.most,
  lines_log vars (after_step old (Deletion id ids)) new (live_after live (Deletion id ids)) (count + 1) log small run.1 lemmas.1 bounded.1 ns.1 ls.1,
)
lines_log vars old new live count (Addition id lits hints ∷ log) small run lemmas bounded ns ls =
    let few = few_literals vars lits (literals_of vars old id lits hints run.0) lemmas.0.distinct in (
      line_addition id lits hints ns.0.0 ns.0.1 ls.0 (omega (arith, few)) (omega (arith, lemmas.0.few_hints)),
      lines_log vars (after_step old (Addition id lits hints)) new (live_after live (Addition id lits hints)) count log small run.1 lemmas.1 bounded.1 ns.1 ls.1,
    )

reads : (log : List ProofStep) → AllByRecursion HasNumbers log → AllByRecursion HasLiterals log → AllByRecursion IsRead log
reads [] ns ls = tt
reads (step ∷ log) ns ls = (step_back step ns.0 ls.0, reads log ns.1 ls.1)

-- ---- the line of the formula's size

number_zero : number_in (decimal 0) ≡ Some 0
unfolding digits
number_zero = refl

pub number_back : (n : ℕ) → n < 9223372036854775808 → number_in (decimal n) ≡ Some n
number_back zero low = number_zero
number_back (suc n) low =
    let back = id_back (suc n) (omega arith, low) in
    rw (back.1.not_zero, back.0) refl

is_formula : IsWord (codes "formula")
is_formula = is_word (codes "formula") refl

counts_back : (vars clauses : ℕ) → vars < 9223372036854775808 → IsId clauses → counts_in (worded (codes "formula") (decimal vars ∷ decimal clauses ∷ [])) ≡ Some (record { vars = vars; clauses = clauses })
counts_back vars clauses low is =
    let words : IsWord (decimal vars) = decimal_word vars (omega arith) in
    let more : IsWord (decimal clauses) = decimal_word clauses (omega (arith, is.1)) in
    rw (words_of-worded (codes "formula") (decimal vars ∷ decimal clauses ∷ []) is_formula (words, (more, tt)), number_back vars low, (id_back clauses is).0) refl

formula_taken : (f : System) (given : Given) (h : Header) (to : Aim) (vars clauses : ℕ) (c : Checking) → c ≡ formula_of f (subject f h) → vars ≡ c.vars → clauses ≡ c.database.last → vars ≤ MOST_VARS → IsId clauses → take_line f given (AtFormula to (subject f h)) 6 (worded (codes "formula") (decimal vars ∷ decimal clauses ∷ [])) ≡ Ok (Going (steps_from to h c))
unfolding take_line
formula_taken f given h to vars clauses c is v k small id =
    let low : c.vars ≤ MOST_VARS = omega (arith, v) in
    rw (counts_back vars clauses (omega arith) id, ← is, le-leb c.vars MOST_VARS low, eq-eqb vars c.vars v, eq-eqb clauses c.database.last k) refl

line_formula : (vars clauses : ℕ) → vars ≤ MOST_VARS → IsId clauses → IsLine (worded (codes "formula") (decimal vars ∷ decimal clauses ∷ []))
line_formula vars clauses small is =
    let a : length (decimal vars) ≤ 19 = length-decimal-le 19 vars (omega arith) (omega arith) (omega arith) in
    let b : length (decimal clauses) ≤ 19 = length-decimal-le 19 clauses (omega arith) (omega (arith, is.1)) (omega (arith, is.1)) in
    record {
      plain = plain-worded (codes "formula") (decimal vars ∷ decimal clauses ∷ []) is_formula (decimal_word vars (omega arith), (decimal_word clauses (omega (arith, is.1)), tt));
      short = omega (arith, length-append (codes "formula") (spaced (decimal vars ∷ decimal clauses ∷ [])), length-append (decimal vars) (spaced (decimal clauses ∷ [])), length-append (decimal clauses) (spaced []));
    }

-- ---- the steps to the end

lines-split : (xs : List ProofStep) (y : ProofStep) (zs : List Text) → map line_of (xs ++ y ∷ []) ++ zs ≡ map line_of xs ++ line_of y ∷ zs
lines-split [] y zs = refl
lines-split (x ∷ xs) y zs = ap (λ (ls : List Text). line_of x ∷ ls) (lines-split xs y zs)

pub front_all : {A : Type 0} (P : A → Type 0) (xs : List A) (y : A) → AllByRecursion P (xs ++ y ∷ []) → AllByRecursion P xs × P y
front_all P [] y all = (tt, all.0)
front_all P (x ∷ xs) y all = let rest = front_all P xs y all.1 in ((all.0, rest.0), rest.1)

takes_log : (f : System) (given : Given) (h : Header) (to : Aim) (vars : ℕ) (old new : Database) (log : List ProofStep) → AllByRecursion IsRead log → Run vars old log new → AreLemmas vars old log → EndsAs to log → Takes f given 7 (Going (steps_from to h (record { rule = Rat; vars = vars; database = old }))) (map line_of log ++ codes "end" ∷ []) (Done (record { header = h; answer = shown_by to log }))
takes_log f given h aim.Partial vars old new log all run lemmas ends =
    let on = recursion_from_All IsGoing log ends in
    let zero_more : 0 + units log ≡ units log = omega arith in
    let n = units_after 0 log in
    let c : Checking = record { rule = Rat; vars = vars; database = new } in
    let begin = Going (AtSteps aim.Partial h (record { rule = Rat; vars = vars; database = old }) 0) in
    let steps = takes_steps f given aim.Partial h vars old new 0 7 log all on run lemmas in
    let end = takes_end f given h c n (7 + length (map line_of log)) in
    let whole = takes-append f given 7 (7 + length (map line_of log)) begin (Going (AtSteps aim.Partial h c n)) (Done (record { header = h; answer = Partial n })) (map line_of log) (codes "end" ∷ []) refl steps end in
    subst (λ (x : ℕ). Takes f given 7 begin (map line_of log ++ codes "end" ∷ []) (Done (record { header = h; answer = Partial x }))) (units_of_log 0 log on ∙ zero_more) whole
takes_log f given h aim.Refutation vars old new log all run lemmas ends =
    let before = ends.0 in
    let last = ends.1 in
    let split = run_split vars old new before last (subst (λ (x : List ProofStep). Run vars old x new) ends.2 run) in
    let each = front_all IsRead before last (subst (AllByRecursion IsRead) ends.2 all) in
    let on = recursion_from_All IsGoing before ends.4 in
    let n = units_after 0 before in
    let c : Checking = record { rule = Rat; vars = vars; database = split.0 } in
    let begin = Going (AtSteps aim.Refutation h (record { rule = Rat; vars = vars; database = old }) 0) in
    let steps = takes_steps f given aim.Refutation h vars old split.0 0 7 before each.0 on split.1 (lemmas_before vars old before last (subst (λ (x : List ProofStep). AreLemmas vars old x) ends.2 lemmas)) in
    let end = takes_last f given h c n (7 + length (map line_of before)) last each.1 (taken_by_rat vars split.0 last split.2) ends.3 in
    let whole = takes-append f given 7 (7 + length (map line_of before)) begin (Going (AtSteps aim.Refutation h c n)) (Done (record { header = h; answer = Refutation })) (map line_of before) (line_of last ∷ codes "end" ∷ []) refl steps end in
    let same : map line_of before ++ line_of last ∷ codes "end" ∷ [] ≡ map line_of log ++ codes "end" ∷ [] = sym (lines-split before last (codes "end" ∷ [])) ∙ ap (λ (x : List ProofStep). map line_of x ++ codes "end" ∷ []) (sym ends.2) in
    subst (λ (ls : List Text). Takes f given 7 begin ls (Done (record { header = h; answer = Refutation }))) same whole

-- ---- a log that is written is accepted

rat_formula : (f : System) (s : Subject) → Rat ≡ (formula_of f s).rule
unfolding formula_of
rat_formula f s = refl

pub log_accepted : (f : System) (given : Given) (h : Header) (to : Aim) (vars clauses : ℕ) (log : List ProofStep) (new : Database) → IsSystem f.names f.sets → IsStrictlySortedBy name_cmp f.names → length given.digest ≡ 32 → IsBytes given.digest → IsHeader f h
    → vars ≡ (formula_of f (subject f h)).vars → clauses ≡ (formula_of f (subject f h)).database.last → vars ≤ MOST_VARS → IsId clauses
    → Run vars (formula_of f (subject f h)).database log new → AreLemmas vars (formula_of f (subject f h)).database log → IsBoundedLog vars log → AllByRecursion HasNumbers log → AllByRecursion HasLiterals log → length log + 7 ≤ MAX_LINES → EndsAs to log
    → checked f given (log_text f.names given.digest h to vars clauses log) ≡ Ok (record { header = h; answer = shown_by to log })
log_accepted f given h to vars clauses log new is sorted size bytes head v k small id run lemmas bounded ns ls few ends =
    let s = subject f h in
    let c = formula_of f s in
    let are : AreNames f.names = record { keys = are_keys f.names is.keys; sorted = sorted } in
    let all = reads log ns ls in
    let head_lines = header_lines f.names given.digest h in
    let body = log_lines to vars clauses log in
    let of_vars : record { rule = Rat; vars = vars; database = c.database } ≡ c = ap (λ (n : ℕ). record { rule = Rat; vars = n; database = c.database }) v ∙ ap (λ (r : Rule). record { rule = r; vars = c.vars; database = c.database }) (rat_formula f s) in
    let steps = takes_log f given h to vars c.database new log all run lemmas ends in
    let from_formula = subst (λ (x : Checking). Takes f given 7 (Going (steps_from to h x)) (map line_of log ++ codes "end" ∷ []) (Done (record { header = h; answer = shown_by to log }))) of_vars steps in
    let taken : Takes f given 5 (Going (AtKind s)) body (Done (record { header = h; answer = shown_by to log })) = (Going (AtFormula to s), steps_taken f given s to, (Going (steps_from to h c), formula_taken f given h to vars clauses c refl v k small id, from_formula)) in
    let whole = takes-append f given 1 5 (Going AtTitle) (Going (AtKind s)) (Done (record { header = h; answer = shown_by to log })) head_lines body refl (takes_header f given h are size bytes head) taken in
    let last_line : IsLine (codes "end") = record { plain = is_plain (codes "end") refl; short = omega arith } in
    let step_lines = lines_log vars c.database new [] 0 log small run lemmas bounded ns ls in
    let lines : AreLines (head_lines ++ body) = are_lines-append head_lines body (lines_header f given.digest h are is.few size head) (line_steps to, (line_formula vars clauses small id, are_lines-append (map line_of log) (codes "end" ∷ []) step_lines (last_line, tt))) in
    let count : length (head_lines ++ body) ≤ MAX_LINES = omega (arith, length-append (map line_of log) (codes "end" ∷ []), length-map log line_of, few) in
    accepted_text f given (head_lines ++ body) (record { header = h; answer = shown_by to log }) lines count whole

pub log_of_accepted : (f : System) (given : Given) (h : Header) (to : Aim) (vars clauses : ℕ) (log : List ProofStep) → IsSystem f.names f.sets → IsStrictlySortedBy name_cmp f.names → length given.digest ≡ 32 → IsBytes given.digest → IsHeader f h → IsLogOf f h to vars clauses log → checked f given (log_text f.names given.digest h to vars clauses log) ≡ Ok (record { header = h; answer = shown_by to log })
log_of_accepted f given h to vars clauses log is sorted size bytes head l =
    log_accepted f given h to vars clauses log l.new is sorted size bytes head l.vars_are l.clauses_are l.small l.some_clause l.run l.lemmas l.bounded (recursion_from_All HasNumbers log l.numbers) (recursion_from_All HasLiterals log l.literals) l.few l.ends
