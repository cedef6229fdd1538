-- What a proof that is verified shows, and how its lines are taken one after another.
use Rattle.std.proofs.Common.{◌≡◌, ℕ, ◌+◌, ◌≤◌, ◌<◌, List, [], ◌∷◌, ◌++◌, Bool, true, false, Option, Some, None, Result, Ok, Err, nat_le, length, refl, sym, ap, ◌∙◌, subst, cond, arith}
use Rattle.std.proofs.lemmas.Bool.{le-leb, leb-true}
use Rattle.fbas_model.specs.Nodes.{Table}
use Rattle.fbas_model.specs.Systems.{System}
use Rattle.lrat_model.specs.Steps.{ProofStep, Addition, Deletion, Database, after_step, progress_of, deletion_fault}
use Rattle.lrat_model.specs.Rules.{step_fault_by, addition_fault_by}
use Rattle.lrat_model.specs.declared.step.Rule.{Rule}
use Rattle.lrat_model.specs.declared.step.StepFault.{StepFault}
use Rattle.lrat_model.specs.declared.step.Progress.{Progress}
use Rattle.lrat_model.specs.declared.step.Progress.TheVariants.{Going as going, Refuted}
use Rattle.lrat_checker.specs.Checking.{Checking, Stepping}
use Rattle.lrat_text.specs.Lines.{step_in}
use Rattle.lrat_text.specs.declared.faults.LineFault.{LineFault}
use Rattle.lrat_stream.specs.Outline.{Adds, outline_in}
use Rattle.lrat_stream.specs.Ahead.{ahead}
use Rattle.lrat_stream.specs.declared.words.StepWords.{StepWords}
use Rattle.clause_encoder.specs.declared.limits.TheConstants.{MOST_VARS}
use Rattle.clause_encoder.specs.declared.version.Version.{Version}
use Rattle.cert_lines.specs.Limits.{unless, within_limits}
use Rattle.cert_lines.specs.Texts.{Text, texts_of, next_text}
use Rattle.cert_lines.specs.Steps.{is_passed_over}
use Rattle.cert_lines.specs.Saying.{or_bad_line}
use Rattle.cert_lines.specs.declared.faults.CertError.{CertError}
use Rattle.cert_lines.specs.declared.faults.CertError.TheVariants.{TooLarge, TooManyLines, LineTooLong, NotRefuted}
use Rattle.cert_lines.specs.declared.lines.TheConstants.{MAX_LINES, MAX_LINE_BYTES}
use Rattle.reach_kinds.specs.Bodies.{and_then, holding}
use Rattle.certificate_file.specs.Streamed.{Finished, after_deletion, finished, checking_of}
use Rattle.certificate_file.specs.Known.{IsSubject, AreSteps, IsKnownLeft}
use Rattle.certificate_file.specs.Verification.{after_lemma, taken_unless, taken, proof_line, proof_lines, proof_of, subject_from, verified}
use Rattle.certificate_file.specs.declared.places.Header.{Header}
use Rattle.certificate_file.specs.declared.places.Subject.{Subject}
use Rattle.certificate_file.specs.Meaning.{part_from}
use Rattle.certificate_file.specs.Formulas.{formula_of}
use Rattle.reach_kinds.proofs.Starts.{same_checking}
use Rattle.certificate_file.proofs.RefutationLaws.{formula_known, after_known}
use Rattle.certificate_file.specs.declared.places.Aim.TheVariants as aim

-- the parts of a subject
pub subject_is : (f : System) (version : Version) (h : Header) (faulty nodes : Table) → faulty ≡ h.faulty → nodes ≡ part_from f h.from → record { version = version; header = record { from = h.from; faulty = faulty }; nodes = nodes } ≡ subject_from f version h
subject_is f version h faulty nodes same part = rw (same, part) refl

-- ---- what is known

lemma_known : (f : System) (h : Header) (c : Checking) (step : ProofStep) (p : Progress) → AreSteps f h c → step_fault_by c.rule c.vars c.database step ≡ None → progress_of step ≡ p
    → IsKnownLeft f h (after_lemma (holding c (after_step c.database step)) p)
lemma_known f h c step going k at is = after_known f (record { digest = []; orgs = None }) aim.Refutation h c 0 step going k at is
lemma_known f h c step Refuted k at is = (after_known f (record { digest = []; orgs = None }) aim.Refutation h c 0 step Refuted k at is).1

step_known : (f : System) (h : Header) (l : ℕ) (c : Checking) (step : ProofStep) (left : Option Checking) → AreSteps f h c → taken l c step ≡ Ok left → IsKnownLeft f h left
step_known f h l c step left k e = elim (step_fault_by c.rule c.vars c.database step) as (λ (o : Option StepFault). step_fault_by c.rule c.vars c.database step ≡ o → taken_unless l c step o ≡ Ok left → IsKnownLeft f h left) [
  | Some fault ↦ λ at refused. absurd cc
  | None ↦ λ at took.
      let same : after_lemma (holding c (after_step c.database step)) (progress_of step) ≡ left = cc in
      subst (IsKnownLeft f h) same (lemma_known f h c step (progress_of step) k at refl)
] refl e

read_known : (f : System) (h : Header) (l : ℕ) (c : Checking) (read : Result ProofStep CertError) (left : Option Checking) → AreSteps f h c → and_then (taken l c) read ≡ Ok left → IsKnownLeft f h left
read_known f h l c (Ok step) left k e = step_known f h l c step left k e
read_known f h l c (Err fault) left k e = absurd cc

-- the same of a line
pub line_known : (f : System) (h : Header) (l : ℕ) (c : Checking) (text : List ℕ) (left : Option Checking) → AreSteps f h c → proof_line c l text ≡ Ok left → IsKnownLeft f h left
line_known f h l c text left k e =
    elim (is_passed_over text) as (λ b. cond b (Ok (Some c)) (and_then (taken l c) (or_bad_line l (step_in text))) ≡ Ok left → IsKnownLeft f h left) [
      | true ↦ λ is. (let same : Some c ≡ left = cc in subst (IsKnownLeft f h) same k)
      | false ↦ λ is. read_known f h l c (or_bad_line l (step_in text)) left k is
    ] e

-- ---- one line after another

abbrev after_text : ℕ → Checking → Option Text → Result (Unit {0}) CertError
after_text l c None = Err (NotRefuted l)
after_text l c (Some t) = and_then (λ left. proof_lines (l + 1) left t.more) (proof_line c l t.text)

unless_next : {A B : Type 0} (e : CertError) (b : Bool) (r : Result A CertError) (next : A → Result B CertError) → unless e b (and_then next r) ≡ and_then next (unless e b r)
unless_next e true r next = refl
unless_next e false r next = refl

within_next : {A B : Type 0} (l : ℕ) (text : List ℕ) (r : Result A CertError) (next : A → Result B CertError) → within_limits l text (and_then next r) ≡ and_then next (within_limits l text r)
within_next l text r next =
    ap (unless TooManyLines (nat_le l MAX_LINES)) (unless_next (LineTooLong l) (nat_le (length text) MAX_LINE_BYTES) r next)
    ∙ unless_next TooManyLines (nat_le l MAX_LINES) (unless (LineTooLong l) (nat_le (length text) MAX_LINE_BYTES) r) next

proof_lines-next : (l : ℕ) (c : Checking) (texts : List (List ℕ)) → proof_lines l (Some c) texts ≡ and_then (after_text l c) (next_text l texts)
proof_lines-next l c [] = refl
proof_lines-next l c (text ∷ more) = within_next l text (Ok (Some (record { text = text; more = more }))) (after_text l c)

pub proof_lines-taken : (l : ℕ) (c : Checking) (texts more : List (List ℕ)) (text : List ℕ) (left : Option Checking) → next_text l texts ≡ Ok (Some (record { text = text; more = more })) → proof_line c l text ≡ Ok left → proof_lines l (Some c) texts ≡ proof_lines (l + 1) left more
proof_lines-taken l c texts more text left reads takes = proof_lines-next l c texts ∙ ap (and_then (after_text l c)) reads ∙ ap (and_then (λ rest. proof_lines (l + 1) rest more)) takes

pub proof_lines-refused : (l : ℕ) (c : Checking) (texts more : List (List ℕ)) (text : List ℕ) (e : CertError) → next_text l texts ≡ Ok (Some (record { text = text; more = more })) → proof_line c l text ≡ Err e → proof_lines l (Some c) texts ≡ Err e
proof_lines-refused l c texts more text e reads takes = proof_lines-next l c texts ∙ ap (and_then (after_text l c)) reads ∙ ap (and_then (λ rest. proof_lines (l + 1) rest more)) takes

pub proof_lines-ended : (l : ℕ) (c : Checking) (texts : List (List ℕ)) → next_text l texts ≡ Ok None → proof_lines l (Some c) texts ≡ Err (NotRefuted l)
proof_lines-ended l c texts reads = proof_lines-next l c texts ∙ ap (and_then (after_text l c)) reads

pub proof_lines-bad : (l : ℕ) (c : Checking) (texts : List (List ℕ)) (e : CertError) → next_text l texts ≡ Err e → proof_lines l (Some c) texts ≡ Err e
proof_lines-bad l c texts e reads = proof_lines-next l c texts ∙ ap (and_then (after_text l c)) reads

-- nothing is looked at after the empty lemma
pub nothing : (l : ℕ) (texts : List (List ℕ)) → proof_lines l None texts ≡ Ok tt
nothing l texts = refl

pub proof_of-small : (c : Checking) (bytes : List ℕ) → c.vars ≤ MOST_VARS → proof_of c bytes ≡ proof_lines 1 (Some c) (texts_of bytes)
proof_of-small c bytes small = ap (λ (b : Bool). unless (TooLarge c.vars) b (proof_lines 1 (Some c) (texts_of bytes))) (le-leb c.vars MOST_VARS small)

pub proof_of-large : (c : Checking) (bytes : List ℕ) → MOST_VARS < c.vars → proof_of c bytes ≡ Err (TooLarge c.vars)
proof_of-large c bytes large = elim (nat_le c.vars MOST_VARS) as (λ (b : Bool). nat_le c.vars MOST_VARS ≡ b → unless (TooLarge c.vars) b (proof_lines 1 (Some c) (texts_of bytes)) ≡ Err (TooLarge c.vars)) [
  | true ↦ λ is. (let low : c.vars ≤ MOST_VARS = leb-true c.vars MOST_VARS is in absurd (omega (arith, low, large)))
  | false ↦ λ _. refl
] refl

-- ---- lines that were read as a stream

-- what goes on from a step that was read
abbrev pub left_of_step : Finished → Option Checking
left_of_step t = after_lemma t.0 t.1

abbrev pub next_left : Finished → Result (Option Checking) CertError
next_left t = Ok (left_of_step t)

step_taken : (l : ℕ) (c : Checking) (r : Result ProofStep LineFault) → and_then (taken l c) (or_bad_line l r) ≡ and_then next_left (finished l c.rule c.vars c.database (outline_in c.rule c.vars c.database r))
step_taken l c (Err e) = refl
step_taken l c (Ok (Addition id lits hints)) = elim (addition_fault_by c.rule c.vars c.database id lits hints) as (λ o. taken_unless l c (Addition id lits hints) o ≡ and_then next_left (finished l c.rule c.vars c.database (Some (Adds id lits o)))) [
  | Some fault ↦ refl
  | None ↦ refl
]
step_taken l c (Ok (Deletion id ids)) = elim (deletion_fault c.database.held [] ids) as (λ o. taken_unless l c (Deletion id ids) o ≡ and_then next_left (after_deletion l c.rule c.vars c.database ids o)) [
  | Some fault ↦ refl
  | None ↦ refl
]

line_so : (c : Checking) (l : ℕ) (text : List ℕ) → is_passed_over text ≡ false → proof_line c l text ≡ and_then next_left (finished l c.rule c.vars c.database (outline_in c.rule c.vars c.database (step_in text)))
line_so c l text is = ap (λ (b : Bool). cond b (Ok (Some c)) (and_then (taken l c) (or_bad_line l (step_in text)))) is ∙ step_taken l c (step_in text)

-- a step line that was read as a stream, before and after which the checkers were these, is taken so
pub proof_line-read : (now later : Stepping) (l line : ℕ) (words : StepWords) (text : List ℕ) (r : Result Finished CertError)
    → later.rule ≡ now.rule → later.vars ≡ now.vars → later.database ≡ now.database → line ≡ l → is_passed_over text ≡ false
    → outline_in now.rule now.vars now.database (step_in text) ≡ ahead now.rule now.vars now.database words later.open_addition []
    → finished line later.rule later.vars later.database (ahead later.rule later.vars later.database words later.open_addition []) ≡ r
    → proof_line (checking_of now) l text ≡ and_then next_left r
proof_line-read now later l line words text r rule vars database number step told came =
    line_so (checking_of now) l text step
    ∙ ap (and_then next_left) (
    ap (finished l now.rule now.vars now.database) told
    ∙ sym (ap (λ (u : Rule). finished l u now.vars now.database (ahead u now.vars now.database words later.open_addition [])) rule)
    ∙ sym (ap (λ (v : ℕ). finished l later.rule v now.database (ahead later.rule v now.database words later.open_addition [])) vars)
    ∙ sym (ap (λ (b : Database). finished l later.rule later.vars b (ahead later.rule later.vars b words later.open_addition [])) database)
    ∙ sym (ap (λ (x : ℕ). finished x later.rule later.vars later.database (ahead later.rule later.vars later.database words later.open_addition [])) number)
    ∙ came
    )

-- and a line that is passed over
pub proof_line-passed : (c : Checking) (l : ℕ) (text : List ℕ) → is_passed_over text ≡ true → proof_line c l text ≡ Ok (Some c)
proof_line-passed c l text is = ap (λ (b : Bool). cond b (Ok (Some c)) (and_then (taken l c) (or_bad_line l (step_in text)))) is

-- ---- from the header on

-- what is held at first, where the subject is that of the header
pub formula_opened : (f : System) (version : Version) (h : Header) (s : Subject) (c : Checking) (opening : Stepping) → s ≡ subject_from f version h → c ≡ formula_of f s → opening.rule ≡ c.rule → opening.vars ≡ c.vars → opening.database ≡ c.database → checking_of opening ≡ formula_of f (subject_from f version h)
formula_opened f version h s c opening is formula rule vars database = same_checking (checking_of opening) c rule vars database ∙ formula ∙ ap (formula_of f) is

pub opened_known : (f : System) (version : Version) (h : Header) (s : Subject) (c : Checking) → s ≡ subject_from f version h → IsSubject f s → c ≡ formula_of f (subject_from f version h) → AreSteps f h c
opened_known f version h s c is fits formula = subst (AreSteps f h) (sym formula) (formula_known f (subject_from f version h) (subst (IsSubject f) is fits))

-- the lines of a proof whose formula is not too large
pub verified-small : (f : System) (version : Version) (h : Header) (c : Checking) (l : ℕ) (unread bytes : List ℕ) → c ≡ formula_of f (subject_from f version h) → c.vars ≤ MOST_VARS → l ≡ 1 → unread ≡ [] → verified f version h bytes ≡ proof_lines l (Some c) (texts_of (unread ++ bytes))
unfolding verified
verified-small f version h c l unread bytes is small first none =
    rw (first, none) (ap (λ (k : Checking). proof_of k bytes) (sym is) ∙ proof_of-small c bytes small)

pub verified-large : (f : System) (version : Version) (h : Header) (s : Subject) (bytes : List ℕ) (e : CertError) → s ≡ subject_from f version h → e ≡ TooLarge (formula_of f s).vars → MOST_VARS < (formula_of f s).vars → verified f version h bytes ≡ Err e
unfolding verified
verified-large f version h s bytes e is large many =
    ap (λ (k : Subject). proof_of (formula_of f k) bytes) (sym is) ∙ proof_of-large (formula_of f s) bytes many ∙ ap (λ (x : CertError). Err x) (sym large)
