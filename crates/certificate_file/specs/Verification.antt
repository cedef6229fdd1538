-- Whether an LRAT proof from outside refutes the intersection formula: the first fault of its lines, or that it does.
use Rattle.std.specs.Prelude.{ℕ, ◌+◌, List, [], ◌∷◌, nat_le, Option, Some, None, Result, Ok, Err, if◌then◌else◌}
use Rattle.fbas_model.specs.Systems.{System}
use Rattle.lrat_model.specs.Steps.{ProofStep, after_step, progress_of}
use Rattle.lrat_model.specs.Rules.{step_fault_by}
use Rattle.lrat_model.specs.declared.step.StepFault.{StepFault}
use Rattle.lrat_model.specs.declared.step.Progress.{Progress}
use Rattle.lrat_model.specs.declared.step.Progress.TheVariants.{Going as going, Refuted}
use Rattle.lrat_checker.specs.Checking.{Checking}
use Rattle.lrat_text.specs.Lines.{step_in}
use Rattle.clause_encoder.specs.declared.limits.TheConstants.{MOST_VARS}
use Rattle.clause_encoder.specs.declared.version.Version.{Version}
use Rattle.cert_lines.specs.Limits.{unless, within_limits}
use Rattle.cert_lines.specs.Texts.{texts_of}
use Rattle.cert_lines.specs.Steps.{is_passed_over}
use Rattle.cert_lines.specs.Saying.{or_bad_line}
use Rattle.cert_lines.specs.declared.faults.CertError.{CertError}
use Rattle.cert_lines.specs.declared.faults.CertError.TheVariants.{TooLarge, Step, NotRefuted}
use Rattle.certificate_file.specs.Formulas.{formula_of}
use Rattle.reach_kinds.specs.Bodies.{and_then, holding}
use Rattle.certificate_file.specs.Meaning.{part_from}
use Rattle.certificate_file.specs.declared.places.Header.{Header}
use Rattle.certificate_file.specs.declared.places.Subject.{Subject}

-- ---- a line

-- what the next line goes on from, or None where the formula is refuted
abbrev pub after_lemma : Checking → Progress → Option Checking
after_lemma c going = Some c
after_lemma c Refuted = None

-- what is so after a step, if it has no fault
abbrev pub taken_unless : ℕ → Checking → ProofStep → Option StepFault → Result (Option Checking) CertError
taken_unless l c step (Some fault) = Err (Step l fault)
taken_unless l c step None = Ok (after_lemma (holding c (after_step c.database step)) (progress_of step))

abbrev pub taken : ℕ → Checking → ProofStep → Result (Option Checking) CertError
taken l c step = taken_unless l c step (step_fault_by c.rule c.vars c.database step)

-- line l: it is passed over, or it is a step
abbrev pub proof_line : Checking → ℕ → List ℕ → Result (Option Checking) CertError
proof_line c l text = if is_passed_over text then Ok (Some c) else and_then (taken l c) (or_bad_line l (step_in text))

-- ---- the whole

-- the lines from line l on. No line after the empty lemma is looked at
abbrev pub proof_lines : ℕ → Option Checking → List (List ℕ) → Result (Unit {0}) CertError
proof_lines l None texts = Ok tt
proof_lines l (Some c) [] = Err (NotRefuted l)
proof_lines l (Some c) (text ∷ more) = within_limits l text (and_then (λ left. proof_lines (l + 1) left more) (proof_line c l text))

-- the lines of a proof from what is held, unless that has too many variables
abbrev pub proof_of : Checking → List ℕ → Result (Unit {0}) CertError
proof_of c bytes = unless (TooLarge c.vars) (nat_le c.vars MOST_VARS) (proof_lines 1 (Some c) (texts_of bytes))

-- the part of the system that a header speaks of, for the formula of a version that is exported
abbrev pub subject_from : System → Version → Header → Subject
subject_from f version h = record { version = version; header = h; nodes = part_from f h.from }

-- what a proof is answered, for the formula of the part of a system without its faulty nodes
unfoldable pub verified : System → Version → Header → List ℕ → Result (Unit {0}) CertError
verified f version h bytes = proof_of (formula_of f (subject_from f version h)) bytes
