-- What each command that searches means: what is found and what that shows, its certificate, its reply, and what is so after each answer.
use Rattle.std.specs.Prelude.{◌≡◌, ◌<◌, ℕ, ◌++◌, List, [], Option, Some, None, Ok, codes}
use Rattle.desk_io.specs.State.{DeskState}
use Rattle.fbas_model.specs.Nodes.{Table, size}
use Rattle.fbas_model.specs.Systems.{System}
use Rattle.greatest_quorum.specs.Greatest.{greatest_of}
use Rattle.clause_encoder.specs.NameCounter.{counter_vars}
use Rattle.clause_encoder.specs.declared.limits.TheConstants.{MOST_VARS}
use Rattle.quorum_questions.specs.Evidence.{vars_of, Shows}
use Rattle.quorum_questions.specs.declared.answers.Answer.{Answer as Shown}
use Rattle.enumeration_journal.specs.declared.kinds.Listed.{Listed as Kind}
use Rattle.enumeration_journal.specs.declared.kinds.Listed.TheVariants as listed
use Rattle.blocking_lists.specs.declared.outcome.ListOutcome.{ListOutcome}
use Rattle.node_json.specs.Groups.{tables_of, texts_of}
use Rattle.certificate_file.specs.Acceptance.{checked}
use Rattle.certificate_file.specs.declared.given.GivenOrgs.{GivenOrgs}
use Rattle.certificate_file.specs.declared.places.Conclusion.{Conclusion}
use Rattle.certificate_file.specs.declared.places.Header.{Header}
use Rattle.cert_writer.specs.Promises.{groups_in}
use Rattle.cert_writer.specs.Texts.{Text}
use Rattle.cert_writer.specs.Finding.{Request, given_of, part as part_asked, faulty, cert_over as shared_cert, accepted_as as shared_as}
use Rattle.cert_writer.specs.Listing.{ListShows, list_cert_over, list_accepted_as}
use Rattle.cert_writer.specs.Least.{LeastShows, least_cert_over, least_accepted_as}
use Rattle.cert_writer.specs.Grouping.{GroupsShow, group_cert_over, group_accepted_as}
use Rattle.cli_words.specs.declared.orders.Goal.{Goal}
use Rattle.cli_words.specs.declared.orders.Goal.TheVariants.{Intersect, Dset, Splits, Blocking, Trial, Quorums, Least, OrgBlocking}
use Rattle.printed_lines.specs.Lines.{counted}
use Rattle.request_reading.specs.declared.searches.Search.{Search}
use Rattle.request_reading.specs.declared.reply.Reply.{Reply as Answer}
use Rattle.command_run.specs.declared.found.LeastFound.{LeastFound}
use Rattle.command_run.specs.declared.found.OrgBlockingFound.{OrgBlockingFound}
use Rattle.command_run.specs.Replies.{intersect_answer, splits_answer, RepliesDset, RepliesTrial, list_answer, least_answer, group_answer}
use Rattle.command_run.specs.Showing.{PrintsPair, ShowsNone, PrintsUnknown, PrintsUnknownTrial, IsAvailable, IsNoDset, PrintsList, PrintsPartOfList}
use Rattle.command_run.specs.Smallest.{PrintsLeast, PrintsPartOfLeast}
use Rattle.command_run.specs.Grouping.{AreGroups, PrintsGroups, PrintsPartOfGroups}

pub record Meaning : Type 1 where
  -- what the search finds, and what that shows of the part that is asked for
  pub Finding : Type 0
  pub Shows : Request → Finding → Type 0
  -- its certificate, and what the check says of that
  pub cert_over : System → List ℕ → Header → Finding → Text
  pub accepted_as : Request → Finding → Conclusion
  -- what is printed of it, where these nodes of a part are deleted and the search had these units
  pub Replies : System → Table → ℕ → Finding → Answer → Type 0
  -- how many variables there are in the clauses with which the search begins, if it begins with some
  pub vars : Option (System → Table → ℕ)
  -- what is so after a yes, a no and an unknown
  pub YesShows : Search → DeskState → DeskState → Type 0
  pub NoShows : Search → DeskState → DeskState → Type 0
  pub UnknownShows : Search → DeskState → DeskState → Type 0

-- ---- what is found, by any meaning

abbrev pub cert_of : (m : Meaning) → Request → m.Finding → Text
cert_of m r found = m.cert_over r.whole r.digest r.header found

-- what was found shows what is so, and its certificate is accepted with the header that was asked for
abbrev pub IsCertified : (m : Meaning) → Request → m.Finding → Type 0
IsCertified m r found = m.Shows r found × (checked r.whole (given_of r) (cert_of m r found) ≡ Ok (record { header = r.header; answer = m.accepted_as r found }))

-- the clauses with which a search begins have this many variables, which are too many
abbrev pub AreTooMany : Option (System → Table → ℕ) → System → Table → ℕ → Type 0
AreTooMany None f deleted n = ⊥
AreTooMany (Some vars) f deleted n = (n ≡ vars f deleted) × (MOST_VARS < n)

-- ---- each command

-- whether every two quorums share a node: what is said of that, and what it means
abbrev pub asks : (System → Table → ℕ → Shown → Answer → Type 0) → (on_yes on_no on_unknown : Search → DeskState → DeskState → Type 0) → Meaning
asks replies on_yes on_no on_unknown = record {
  Finding = Shown;
  Shows = λ r found. Shows (part_asked r).sets (faulty r) r.budget found;
  cert_over = shared_cert;
  accepted_as = shared_as;
  Replies = replies;
  vars = Some (λ f deleted. vars_of f.sets deleted);
  YesShows = on_yes;
  NoShows = on_no;
  UnknownShows = on_unknown;
}

-- all minimal sets of a kind
abbrev pub lists : Kind → Meaning
lists sought = record {
  Finding = ListOutcome;
  Shows = λ r found. ListShows sought (part_asked r).sets (faulty r) r.budget found;
  cert_over = list_cert_over sought;
  accepted_as = list_accepted_as sought;
  Replies = λ f deleted budget found a. a ≡ list_answer sought f.names budget found;
  vars = None;
  YesShows = PrintsList sought;
  NoShows = λ s old new. ⊥;
  UnknownShows = PrintsPartOfList sought;
}

-- a smallest quorum was found, or a part of the search, and this is the number of nodes of the greatest one
abbrev pub ShowsLeast : Request → LeastFound → Type 0
ShowsLeast r found = (found.nodes ≡ size (greatest_of (part_asked r).sets (faulty r))) × LeastShows (part_asked r).sets (faulty r) r.budget found.outcome

-- the search for a smallest quorum begins with a counter of the nodes of the greatest one
abbrev pub finds_least : Meaning
finds_least = record {
  Finding = LeastFound;
  Shows = ShowsLeast;
  cert_over = λ f digest h found. least_cert_over f digest h found.outcome;
  accepted_as = λ r found. least_accepted_as r found.outcome;
  Replies = λ f deleted budget found a. a ≡ least_answer f.names budget found.outcome;
  vars = Some (λ f deleted. counter_vars (size (greatest_of f.sets deleted)));
  YesShows = PrintsLeast;
  NoShows = λ s old new. ⊥;
  UnknownShows = PrintsPartOfLeast;
}

-- the groups are those of the part, by the organisations that were given, whose file has this digest, and blocking sets of them were found
pub record ShowsGroups (r : Request) (found : OrgBlockingFound) : Type 0 where
  pub given : GivenOrgs
  pub is_given : r.orgs ≡ Some given
  pub digest_is : found.digest ≡ given.digest
  pub groups_are : found.groups ≡ groups_in r.whole r.header given.orgs
  pub are : AreGroups (part_asked r) found.groups
  pub shows : GroupsShow (part_asked r).sets (faulty r) (tables_of found.groups) r.budget found.outcome

-- all minimal blocking sets of organisations
abbrev pub lists_groups : Meaning
lists_groups = record {
  Finding = OrgBlockingFound;
  Shows = ShowsGroups;
  cert_over = λ f digest h found. group_cert_over f digest h found.digest found.groups found.outcome;
  accepted_as = λ r found. group_accepted_as r found.groups found.outcome;
  Replies = λ f deleted budget found a. a ≡ group_answer (texts_of found.groups) budget found.outcome;
  vars = None;
  YesShows = PrintsGroups;
  NoShows = λ s old new. ⊥;
  UnknownShows = PrintsPartOfGroups;
}

-- the meaning of a command, by what is sought
abbrev pub meaning_of : Goal → Meaning
meaning_of Intersect = asks (λ f deleted budget found a. a ≡ intersect_answer f.names budget found) (λ s old new. ShowsNone s new) (λ s old new. PrintsPair s (codes "intersects no\n") [] old new) (λ s old new. PrintsUnknown s (counted (codes "intersects unknown") s.budget) old new)
meaning_of Splits = asks (λ f deleted budget found a. a ≡ splits_answer f.names budget found) (λ s old new. PrintsPair s (codes "splits yes\n") [] old new) (λ s old new. ShowsNone s new) (λ s old new. PrintsUnknown s (counted (codes "splits unknown") s.budget) old new)
meaning_of Dset = asks RepliesDset (λ s old new. IsAvailable s × ShowsNone s new) IsNoDset (λ s old new. IsAvailable s × PrintsUnknown s (codes "available yes\n" ++ (counted (codes "intersects unknown") s.budget ++ codes "dset unknown\n")) old new)
meaning_of Trial = asks (λ f deleted budget found a. RepliesTrial f budget found a) (λ s old new. ShowsNone s new) (λ s old new. ⊥) (λ s old new. PrintsUnknownTrial s (counted (codes "intersects unknown") s.budget) old new)
meaning_of Blocking = lists listed.Blocking
meaning_of Quorums = lists listed.Quorum
meaning_of Least = finds_least
meaning_of OrgBlocking = lists_groups
