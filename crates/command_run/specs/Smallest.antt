-- What the printed smallest quorum and its certificate show.
use Rattle.std.specs.Prelude.{◌≡◌, ℕ, ◌++◌, List, Option, Some}
use Rattle.desk_io.specs.State.{DeskState}
use Rattle.fbas_model.specs.Nodes.{Table, members}
use Rattle.enumeration_journal.specs.Journals.{JournalLine}
use Rattle.enumeration_journal.specs.declared.kinds.ListKind.TheVariants.{Whole, Partial}
use Rattle.enumeration_journal.specs.declared.kinds.Listed.TheVariants as listed
use Rattle.least_journal.specs.Least.{IsLeastAnswer}
use Rattle.least_quorum.specs.Outcomes.{LeastHolds, PartLeastHolds}
use Rattle.enumeration_journal.specs.declared.kinds.Listed.TheVariants.{Smaller}
use Rattle.reach_kinds.specs.declared.kinds.ReachKind.TheVariants.{Nodes}
use Rattle.reach_kinds.specs.declared.places.Reached.TheVariants as reached
use Rattle.certificate_file.specs.declared.places.Conclusion.TheVariants.{Reached}
use Rattle.cert_writer.specs.Least.{least_cert_by, raised_if_any}
use Rattle.printed_lines.specs.Lines.{smallest_if_any, counted}
use Rattle.request_reading.specs.declared.searches.Search.{Search}
use Rattle.command_run.specs.Sought.{part, deleted}
use Rattle.command_run.specs.Replies.{unknown_word}
use Rattle.command_run.specs.Showing.{IsAccepted}

-- the set on the output is a quorum of the part with as many nodes as are printed, and every quorum has at least as many; or it is
-- printed that there is none, and there is no quorum. The certificate shows it, is accepted, and is within the budget
pub record PrintsLeast (s : Search) (old new : DeskState) : Type 0 where
  pub answer : Option Table
  pub out : new.out ≡ old.out ++ smallest_if_any (part s).names answer
  pub least : IsLeastAnswer (part s).sets (members (deleted s)) answer
  pub journal : List JournalLine
  pub left : ℕ
  pub finds : LeastHolds (part s).sets (deleted s) s.budget left answer journal
  pub held : new.files s.path ≡ Some (least_cert_by s.whole s.digest s.header Whole journal)
  pub accepted : IsAccepted s (least_cert_by s.whole s.digest s.header Whole journal) (Reached (reached.Least (raised_if_any s.whole s.header answer)))

-- the budget is spent: so is it said, and the certificate has as many units, each useful when it was added, over clauses that do not
-- close; and another was wanted
pub record PrintsPartOfLeast (s : Search) (old new : DeskState) : Type 0 where
  pub out : new.out ≡ old.out ++ counted (unknown_word listed.Smaller) s.budget
  pub journal : List JournalLine
  pub finds : PartLeastHolds (part s).sets (deleted s) s.budget journal
  pub held : new.files s.path ≡ Some (least_cert_by s.whole s.digest s.header Partial journal)
  pub accepted : IsAccepted s (least_cert_by s.whole s.digest s.header Partial journal) (Reached (reached.Partial (Nodes Smaller) s.budget))
