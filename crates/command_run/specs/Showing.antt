-- What the printed answer and the certificate of a search show.
use Rattle.std.specs.Prelude.{◌≡◌, ◌⊎◌, ℕ, ◌++◌, List, Some, Ok, codes}
use Rattle.std.specs.Global.{Vec}
use Rattle.desk_io.specs.State.{DeskState}
use Rattle.fbas_model.specs.Nodes.{Table, members}
use Rattle.fbas_model.specs.Fbas.{Available, Intersects}
use Rattle.witness_pair.specs.Pairs.{IsPair}
use Rattle.witness_pair.specs.declared.Pair.{Pair}
use Rattle.lrat_model.specs.Steps.{ProofStep}
use Rattle.enumeration_journal.specs.Journals.{JournalLine}
use Rattle.enumeration_journal.specs.Lists.{IsListOf}
use Rattle.enumeration_journal.specs.declared.kinds.Listed.{Listed as Kind}
use Rattle.blocking_lists.specs.Outcomes.{WholeHolds, PartHolds}
use Rattle.blocking_lists.specs.declared.outcome.ListOutcome.TheVariants.{Whole as whole_list, Spent as part_of_list}
use Rattle.certificate_file.specs.Acceptance.{checked}
use Rattle.certificate_file.specs.declared.places.Conclusion.{Conclusion}
use Rattle.certificate_file.specs.declared.places.Conclusion.TheVariants as shown
use Rattle.cert_writer.specs.Promises.{raised_pair}
use Rattle.cert_writer.specs.Finding.{cert_of, given_of}
use Rattle.cert_writer.specs.Listing.{list_cert_of, list_accepted_as}
use Rattle.quorum_questions.specs.Evidence.{IsRefutation, IsSpent}
use Rattle.quorum_questions.specs.declared.answers.Size.{Size}
use Rattle.quorum_questions.specs.declared.answers.Answer.TheVariants.{Yes as together, Spent as spent}
use Rattle.printed_lines.specs.Lines.{Text, with_pair, with_sets, counted}
use Rattle.request_reading.specs.declared.searches.Search.{Search}
use Rattle.command_run.specs.Sought.{part, deleted, request}
use Rattle.command_run.specs.Replies.{size_lines, list_word, unknown_word}

-- the certificate says this, for the asked node and the deleted nodes, and is accepted
abbrev pub IsAccepted : Search → Text → Conclusion → Type 0
IsAccepted s cert answer = checked s.whole (given_of (request s)) cert ≡ Ok (record { header = s.header; answer = answer })

-- the first line is the title of version 3
abbrev pub IsOfVersionThree : Text → Type 0
IsOfVersionThree cert = (rest : Text) × (cert ≡ codes "fbas-cert 3\n" ++ rest)

-- the certificate is accepted, for the asked node and the deleted nodes
pub record WritesAccepted (s : Search) (new : DeskState) : Type 0 where
  pub cert : Text
  pub held : new.files s.path ≡ Some cert
  pub title : IsOfVersionThree cert
  pub answer : Conclusion
  pub accepted : IsAccepted s cert answer

-- ---- whether two quorums share no node

-- two disjoint quorums of the part, and the certificate is a pair that is accepted
pub record ShowsPair (s : Search) (p : Pair) (new : DeskState) : Type 0 where
  pub is : IsPair (part s).sets (members (deleted s)) p
  pub cert : Text
  pub held : new.files s.path ≡ Some cert
  pub accepted : IsAccepted s cert (shown.Pair (raised_pair s.whole s.header p))

-- and both lists are on the output, between these texts
pub record PrintsPair (s : Search) (head behind : Text) (old new : DeskState) : Type 0 where
  pub pair : Pair
  pub shows : ShowsPair s pair new
  pub out : new.out ≡ old.out ++ (with_pair head (part s).names pair ++ behind)

-- every two quorums of the part share a node, and the certificate refutes the contrary, within the budget
pub record ShowsNone (s : Search) (new : DeskState) : Type 0 where
  pub intersects : Intersects (part s).sets (members (deleted s))
  pub log : List ProofStep
  pub size : Size
  pub refutes : IsRefutation (part s).sets (deleted s) s.budget log size
  pub held : new.files s.path ≡ Some (cert_of (request s) (together log size))
  pub accepted : IsAccepted s (cert_of (request s) (together log size)) shown.Refutation

-- the budget is spent: the certificate has as many units, each useful when it was added, over clauses that do not close while a
-- lemma is due
pub record ShowsUnknown (s : Search) (new : DeskState) : Type 0 where
  pub log : List ProofStep
  pub size : Size
  pub spends : IsSpent (part s).sets (deleted s) s.budget log size
  pub held : new.files s.path ≡ Some (cert_of (request s) (spent log size))
  pub accepted : IsAccepted s (cert_of (request s) (spent log size)) (shown.Partial s.budget)

-- and so is a text on the output
pub record PrintsUnknown (s : Search) (text : Text) (old new : DeskState) : Type 0 where
  pub shows : ShowsUnknown s new
  pub out : new.out ≡ old.out ++ text

-- and so is how large the trial is, and a text after it
pub record PrintsUnknownTrial (s : Search) (text : Text) (old new : DeskState) : Type 0 where
  pub shows : ShowsUnknown s new
  pub out : new.out ≡ old.out ++ (size_lines (part s) shows.size ++ text)

-- whether the others are available despite the deleted nodes
abbrev pub IsAvailable : Search → Type 0
IsAvailable s = Available (part s).sets (members (deleted s))

-- the deleted nodes are no dispensable set: two disjoint quorums are printed, or the others are not available, whatever else is found
abbrev pub IsNoDset : Search → DeskState → DeskState → Type 0
IsNoDset s old new = ((before : Text) × PrintsPair s before (codes "dset no\n") old new) ⊎ ((IsAvailable s → ⊥) × (ShowsNone s new ⊎ ShowsUnknown s new))

-- ---- a list of all minimal sets of a kind

-- the list is whole: its number and its sets are on the output, they are exactly the minimal sets of the kind in the part, each once and in
-- name order, and the certificate is a list of them that is accepted, within the budget
pub record PrintsList (sought : Kind) (s : Search) (old new : DeskState) : Type 0 where
  pub sets : Vec Table
  pub out : new.out ≡ old.out ++ with_sets (list_word sought) (part s).names sets.items
  pub list : IsListOf sought (part s).sets (members (deleted s)) sets.items
  pub journal : List JournalLine
  pub left : ℕ
  pub lists : WholeHolds sought (part s).sets (deleted s) s.budget left sets.items journal
  pub held : new.files s.path ≡ Some (list_cert_of sought (request s) (whole_list sets journal))
  pub accepted : IsAccepted s (list_cert_of sought (request s) (whole_list sets journal)) (list_accepted_as sought (request s) (whole_list sets journal))

-- the budget is spent: so is it said, and the certificate has as many units, each useful when it was added, over clauses that do not close
pub record PrintsPartOfList (sought : Kind) (s : Search) (old new : DeskState) : Type 0 where
  pub out : new.out ≡ old.out ++ counted (unknown_word sought) s.budget
  pub journal : List JournalLine
  pub lists : PartHolds sought (part s).sets (deleted s) s.budget journal
  pub held : new.files s.path ≡ Some (list_cert_of sought (request s) (part_of_list journal))
  pub accepted : IsAccepted s (list_cert_of sought (request s) (part_of_list journal)) (list_accepted_as sought (request s) (part_of_list journal))
