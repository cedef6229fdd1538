-- What a search for all minimal sets of a kind comes to, and the certificate that shows it.
use Rattle.std.specs.Prelude.{◌≡◌, ℕ, List, length, All, Ok}
use Rattle.lrat_text.specs.Texts.{HasNumbers}
use Rattle.fbas_model.specs.Nodes.{Table, size}
use Rattle.fbas_model.specs.Fbas.{Fbas}
use Rattle.fbas_model.specs.Systems.{System}
use Rattle.greatest_quorum.specs.Greatest.{greatest_of}
use Rattle.enumeration_journal.specs.Journals.{JournalLine, SetLine, StepLine}
use Rattle.enumeration_journal.specs.declared.kinds.ListKind.TheVariants as kind
use Rattle.enumeration_journal.specs.Kinds.{HasLists}
use Rattle.enumeration_journal.specs.declared.kinds.Listed.{Listed}
use Rattle.blocking_lists.specs.Lines.{HasLineNumbers, HasFewWords}
use Rattle.blocking_lists.specs.Outcomes.{OutcomeHolds, journal_in}
use Rattle.blocking_lists.specs.declared.outcome.ListOutcome.{ListOutcome}
use Rattle.blocking_lists.specs.declared.outcome.ListOutcome.TheVariants.{Whole, Spent}
use Rattle.certificate_file.specs.Acceptance.{checked}
use Rattle.reach_kinds.specs.Bodies.{whole_of}
use Rattle.reach_kinds.specs.declared.kinds.ReachKind.TheVariants.{Nodes}
use Rattle.reach_kinds.specs.declared.places.Reached.TheVariants as reached
use Rattle.certificate_file.specs.declared.places.Header.{Header}
use Rattle.certificate_file.specs.declared.places.Conclusion.{Conclusion}
use Rattle.certificate_file.specs.declared.places.Conclusion.TheVariants.{Reached}
use Rattle.cert_writer.specs.Texts.{Text, list_text}
use Rattle.cert_writer.specs.Promises.{part_of, raised_sets}
use Rattle.cert_writer.specs.Finding.{Request, given_of, part, faulty}

-- the certificate of a list, whole or in part
abbrev pub list_cert_over : Listed → System → List ℕ → Header → ListOutcome → Text
list_cert_over sought f digest h (Whole sets journal) = list_text f.names (part_of f h.from).names digest h sought kind.Whole journal
list_cert_over sought f digest h (Spent journal) = list_text f.names (part_of f h.from).names digest h sought kind.Partial journal

abbrev pub list_cert_of : Listed → Request → ListOutcome → Text
list_cert_of sought s outcome = list_cert_over sought s.whole s.digest s.header outcome

-- what the check says of it: the sought sets in name order, or how many units were spent
abbrev pub list_accepted_as : Listed → Request → ListOutcome → Conclusion
list_accepted_as sought s (Whole sets journal) = Reached (whole_of sought (raised_sets s.whole s.header sets.items))
list_accepted_as sought s (Spent journal) = Reached (reached.Partial (Nodes sought) s.budget)

-- what a search of a system within a budget shows, once b is deleted
pub record ListShows (sought : Listed) (f : Fbas) (b : Table) (budget : ℕ) (outcome : ListOutcome) : Type 0 where
  pub lists : HasLists sought
  pub left : ℕ
  pub holds : OutcomeHolds sought f b budget left outcome
  pub numbers : All HasLineNumbers (journal_in outcome)
  pub few_words : All (HasFewWords (size (greatest_of f b))) (journal_in outcome)

-- what a search finds: it shows the list, or a part of one, and its certificate is accepted with the header that was asked for
pub record FindsList (sought : Listed) (s : Request) (outcome : ListOutcome) (cert : Text) : Type 0 where
  pub shows : ListShows sought (part s).sets (faulty s) s.budget outcome
  pub cert_is : cert ≡ list_cert_of sought s outcome
  pub accepted : checked s.whole (given_of s) cert ≡ Ok (record { header = s.header; answer = list_accepted_as sought s outcome })

-- what a line can be written of: a set with a place for each of n nodes, or a step whose numbers have a line
abbrev pub CanBeLine : ℕ → JournalLine → Type 0
CanBeLine n (SetLine which id set) = length set ≡ n
CanBeLine n (StepLine step) = HasNumbers step

abbrev pub CanBeListed : ℕ → ListOutcome → Type 0
CanBeListed n outcome = All (CanBeLine n) (journal_in outcome)
