-- What a search for a smallest quorum comes to, and the certificate that shows it.
use Rattle.std.specs.Prelude.{◌≡◌, ◌≤◌, ℕ, List, All, Option, Some, None, option_map, Ok}
use Rattle.fbas_model.specs.Nodes.{Table, size}
use Rattle.fbas_model.specs.Fbas.{Fbas}
use Rattle.fbas_model.specs.Systems.{System}
use Rattle.greatest_quorum.specs.Greatest.{greatest_of}
use Rattle.enumeration_journal.specs.Journals.{JournalLine}
use Rattle.enumeration_journal.specs.declared.kinds.ListKind.{ListKind}
use Rattle.enumeration_journal.specs.declared.kinds.ListKind.TheVariants as kind
use Rattle.blocking_lists.specs.Lines.{HasLineNumbers, HasFewWords}
use Rattle.clause_encoder.specs.NameCounter.{counter_vars}
use Rattle.clause_encoder.specs.declared.limits.TheConstants.{MOST_VARS}
use Rattle.least_quorum.specs.Outcomes.{LeastOutcomeHolds, least_journal_of}
use Rattle.least_quorum.specs.declared.outcome.LeastOutcome.{LeastOutcome}
use Rattle.least_quorum.specs.declared.outcome.LeastOutcome.TheVariants as found
use Rattle.certificate_file.specs.Acceptance.{checked}
use Rattle.certificate_file.specs.Meaning.{part_from}
use Rattle.certificate_file.specs.declared.places.Header.{Header}
use Rattle.certificate_file.specs.declared.places.Conclusion.{Conclusion}
use Rattle.certificate_file.specs.declared.places.Conclusion.TheVariants.{Reached}
use Rattle.enumeration_journal.specs.declared.kinds.Listed.TheVariants.{Smaller}
use Rattle.reach_kinds.specs.declared.kinds.ReachKind.TheVariants.{Nodes}
use Rattle.reach_kinds.specs.declared.places.Reached.TheVariants as reached
use Rattle.cert_writer.specs.Texts.{Text, least_text, raised_table}
use Rattle.cert_writer.specs.Promises.{part_of, greatest_of_part}
use Rattle.cert_writer.specs.Finding.{Request, given_of, part, faulty}
use Rattle.cert_writer.specs.Listing.{CanBeLine}

-- whether the journal of an outcome is a whole one
abbrev pub kind_of : LeastOutcome → ListKind
kind_of (found.Least set journal) = kind.Whole
kind_of (found.NoQuorum journal) = kind.Whole
kind_of (found.Spent journal) = kind.Partial

-- the certificate of a smallest quorum, or that there is none, or of a part of the search
abbrev pub least_cert_by : System → List ℕ → Header → ListKind → List JournalLine → Text
least_cert_by f digest h kind journal = least_text f.names (part_of f h.from).names digest h (size (greatest_of_part f h)) kind journal

abbrev pub least_cert_over : System → List ℕ → Header → LeastOutcome → Text
least_cert_over f digest h outcome = least_cert_by f digest h (kind_of outcome) (least_journal_of outcome)

abbrev pub least_cert_of : Request → LeastOutcome → Text
least_cert_of s outcome = least_cert_over s.whole s.digest s.header outcome

-- the set by the numbers of the whole system
abbrev pub raised_if_any : System → Header → Option Table → Option Table
raised_if_any f h answer = option_map (raised_table (part_from f h.from)) answer

-- what the check says of it: the set, or that there is none, or how many units were spent
abbrev pub least_accepted_as : Request → LeastOutcome → Conclusion
least_accepted_as s (found.Least set journal) = Reached (reached.Least (raised_if_any s.whole s.header (Some set)))
least_accepted_as s (found.NoQuorum journal) = Reached (reached.Least (raised_if_any s.whole s.header None))
least_accepted_as s (found.Spent journal) = Reached (reached.Partial (Nodes Smaller) s.budget)

-- what a search of a system within a budget shows, once b is deleted
pub record LeastShows (f : Fbas) (b : Table) (budget : ℕ) (outcome : LeastOutcome) : Type 0 where
  pub left : ℕ
  pub holds : LeastOutcomeHolds f b budget left outcome
  pub numbers : All HasLineNumbers (least_journal_of outcome)
  pub few_words : All (HasFewWords (counter_vars (size (greatest_of f b)))) (least_journal_of outcome)
  pub small : counter_vars (size (greatest_of f b)) ≤ MOST_VARS

-- what a search finds: it shows a smallest quorum, or that there is none, or a part of the search, and its certificate is accepted with the header that was asked for
pub record FindsLeast (s : Request) (outcome : LeastOutcome) (cert : Text) : Type 0 where
  pub shows : LeastShows (part s).sets (faulty s) s.budget outcome
  pub cert_is : cert ≡ least_cert_of s outcome
  pub accepted : checked s.whole (given_of s) cert ≡ Ok (record { header = s.header; answer = least_accepted_as s outcome })

-- each line of the journal can be written
abbrev pub CanBeLeast : ℕ → LeastOutcome → Type 0
CanBeLeast n outcome = All (CanBeLine n) (least_journal_of outcome)
