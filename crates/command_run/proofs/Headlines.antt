-- What is so where a search prints its answer.
use Rattle.std.proofs.Common.{◌≡◌, ◌⊎◌, ◌↔◌, inl, inr, IsTrue, Bool, true, false, ℕ, List, [], ◌++◌, Option, Some, None, Result, Ok, IfErr, refl, sym, ◌∙◌, ap, subst, codes}
use Rattle.std.proofs.lemmas.List.{append_assoc, append-nil}
use Rattle.std.proofs.lemmas.Slice.Eq.{bytes_eq-Decides}
use Rattle.fbas_model.specs.Nodes.{Table}
use Rattle.witness_pair.specs.declared.Pair.{Pair}
use Rattle.lrat_model.specs.Steps.{ProofStep}
use Rattle.quorum_questions.specs.Evidence.{IsRefutation, IsWitness, IsSpent}
use Rattle.quorum_questions.specs.declared.answers.Size.{Size}
use Rattle.quorum_questions.specs.declared.answers.Answer.{Answer as Shown}
use Rattle.quorum_questions.specs.declared.answers.Answer.TheVariants.{Yes as together, No as apart, Spent as spent}
use Rattle.enumeration_journal.specs.Journals.{JournalLine}
use Rattle.enumeration_journal.specs.declared.kinds.Listed.{Listed as Kind}
use Rattle.enumeration_journal.specs.declared.kinds.Listed.TheVariants as listed
use Rattle.enumeration_journal.specs.declared.kinds.ListKind.TheVariants.{Whole}
use Rattle.blocking_lists.specs.declared.outcome.ListOutcome.{ListOutcome}
use Rattle.blocking_lists.specs.declared.outcome.ListOutcome.TheVariants.{Whole as whole_list, Spent as part_of_list}
use Rattle.node_json.specs.Groups.{Group, tables_of, texts_of}
use Rattle.group_lists.specs.declared.outcome.GroupOutcome.{GroupOutcome}
use Rattle.group_lists.specs.declared.outcome.GroupOutcome.TheVariants as found_groups
use Rattle.least_quorum.specs.Outcomes.{LeastHolds}
use Rattle.least_quorum.specs.declared.outcome.LeastOutcome.{LeastOutcome}
use Rattle.least_quorum.specs.declared.outcome.LeastOutcome.TheVariants as found_least
use Rattle.desk_io.specs.State.{Files, DeskState, with_file}
use Rattle.certificate_file.specs.declared.given.GivenOrgs.{GivenOrgs}
use Rattle.certificate_file.specs.declared.places.Conclusion.TheVariants as shown
use Rattle.reach_kinds.specs.declared.places.Reached.TheVariants as reached
use Rattle.cert_writer.specs.Promises.{groups_in, raised_pair}
use Rattle.cert_writer.specs.Finding.{cert_of as shared_cert_of}
use Rattle.cert_writer.specs.Listing.{ListShows, list_cert_of, list_accepted_as}
use Rattle.cert_writer.specs.Least.{LeastShows, least_cert_by, least_cert_of, least_accepted_as, raised_if_any}
use Rattle.cert_writer.specs.Grouping.{GroupsShow, group_accepted_as}
use Rattle.cli_words.specs.Words.{order_of}
use Rattle.cli_words.specs.declared.orders.Goal.{Goal}
use Rattle.cli_words.specs.declared.orders.Goal.TheVariants.{Intersect, Dset, Splits, Blocking, Trial, Quorums, Least, OrgBlocking}
use Rattle.printed_lines.specs.Lines.{Text, available_lines, with_pair, smallest_if_any, counted}
use Rattle.request_reading.specs.declared.early.Early.{Early}
use Rattle.request_reading.specs.declared.reading.Asked.{Asked}
use Rattle.request_reading.specs.declared.reading.Asked.TheVariants as asked
use Rattle.request_reading.specs.declared.searches.Search.{Search}
use Rattle.request_reading.specs.declared.reply.Reply.{Reply as Answer}
use Rattle.request_reading.specs.declared.status.Status.{Status}
use Rattle.request_reading.specs.declared.status.Status.TheVariants.{Yes, No, Unknown, TooLarge}
use Rattle.request_reading.specs.Answers.{asked_of}
use Rattle.request_reading.specs.Meaning.{IsCheck, IsCheckLrat, NamesAccepted, NamesVerified}
use Rattle.request_reading.specs.Reading.{IsRefusal}
use Rattle.command_run.specs.declared.found.OrgBlockingFound.{OrgBlockingFound}
use Rattle.command_run.specs.Putting.{PutsBoth}
use Rattle.command_run.specs.Replies.{intersect_answer, splits_answer, dset_answer, size_lines, RepliesTrial, list_answer, least_answer, group_answer}
use Rattle.command_run.specs.Sought.{part, deleted, request}
use Rattle.command_run.specs.Meanings.{Meaning, cert_of, IsCertified, ShowsGroups, lists, finds_least, lists_groups, meaning_of}
use Rattle.command_run.specs.Printing.{PrintsSearch, Prints}
use Rattle.command_run.specs.Grouping.{AreGroups, cert_of_groups, PrintsBlocks, PrintsPartOfBlocks}
use Rattle.command_run.specs.Showing.{IsAccepted, WritesAccepted, ShowsPair, PrintsPair, ShowsNone, ShowsUnknown, IsAvailable}
use Rattle.command_run.specs.Headline.{Headline}
use Rattle.command_run.proofs.Asked.{says_accepted, says_verified, large_cert, large_proof}
use Rattle.command_run.proofs.Replied.{IsTold, told_small}
use Rattle.command_run.proofs.Edited.{edits_show}
use Rattle.command_run.proofs.Titles.{title_there}

held_there : (path : List ℕ) (cert : Text) (files now : Files) → now ≡ with_file path cert files → now path ≡ Some cert
held_there path cert files now e = ap (λ (f : Files). f path) e ∙ rw ((bytes_eq-Decides path path).1 refl) refl

-- ---- what is so by the meaning of a command

-- the parts of the headline, of one search
pub record Means (m : Meaning) (s : Search) (old new : DeskState) (status : Status) : Type 0 where
  pub yes : status ≡ Yes → m.YesShows s old new
  pub no : status ≡ No → m.NoShows s old new
  pub unknown : status ≡ Unknown → m.UnknownShows s old new

says_yes : (m : Meaning) (s : Search) (old new : DeskState) (status : Status) → status ≡ Yes → m.YesShows s old new → Means m s old new status
says_yes m s old new status is shows = record {
  yes = λ at. shows;
  no = λ at. absurd cc;
  unknown = λ at. absurd cc;
}

says_no : (m : Meaning) (s : Search) (old new : DeskState) (status : Status) → status ≡ No → m.NoShows s old new → Means m s old new status
says_no m s old new status is shows = record {
  yes = λ at. absurd cc;
  no = λ at. shows;
  unknown = λ at. absurd cc;
}

says_unknown : (m : Meaning) (s : Search) (old new : DeskState) (status : Status) → status ≡ Unknown → m.UnknownShows s old new → Means m s old new status
says_unknown m s old new status is shows = record {
  yes = λ at. absurd cc;
  no = λ at. absurd cc;
  unknown = λ at. shows;
}

says_none : (m : Meaning) (s : Search) (old new : DeskState) (status : Status) → status ≡ TooLarge → Means m s old new status
says_none m s old new status is = record {
  yes = λ at. absurd cc;
  no = λ at. absurd cc;
  unknown = λ at. absurd cc;
}

-- ---- the reply that was put

status_there : (s : Search) (old new : DeskState) (status : Status) (cert : Text) (a b : Answer) → PutsBoth s.path cert a old new status → a ≡ b → status ≡ b.status
status_there s old new status cert a b put is = put.status_is ∙ ap (λ (x : Answer). x.status) is

text_there : (s : Search) (old new : DeskState) (status : Status) (cert : Text) (a b : Answer) → PutsBoth s.path cert a old new status → a ≡ b → new.out ≡ old.out ++ b.text
text_there s old new status cert a b put is = put.out ∙ ap (λ (x : Answer). old.out ++ x.text) is

cert_there : (s : Search) (old new : DeskState) (status : Status) (cert : Text) (a : Answer) → PutsBoth s.path cert a old new status → new.files s.path ≡ Some cert
cert_there s old new status cert a put = held_there s.path cert old.files new.files put.files

-- a pair is printed after a line
pair_there : (s : Search) (old new : DeskState) (head : Text) (p : Pair) → ShowsPair s p new → new.out ≡ old.out ++ with_pair head (part s).names p → PrintsPair s head [] old new
pair_there s old new head p shows out = record {
  pair = p;
  shows = shows;
  out = out ∙ ap (λ (t : Text). old.out ++ t) (sym (append-nil (with_pair head (part s).names p)));
}

-- a pair is printed after a line, between other texts
pair_between : (s : Search) (old new : DeskState) (before head behind : Text) (p : Pair) → ShowsPair s p new → new.out ≡ old.out ++ (before ++ (with_pair head (part s).names p ++ behind)) → PrintsPair s (before ++ head) behind old new
pair_between s old new before head behind p shows out =
    let both : Text = with_pair [] (part s).names p in
    record {
      pair = p;
      shows = shows;
      out = out ∙ ap (λ (t : Text). old.out ++ t) (sym (ap (λ (t : Text). t ++ behind) (append_assoc before head both) ∙ append_assoc before (head ++ both) behind));
    }

-- ---- whether every two quorums share a node, by what was found

of_pair : (s : Search) (new : DeskState) (p : Pair) → IsWitness (part s).sets (deleted s) p → IsAccepted s (shared_cert_of (request s) (apart p)) (shown.Pair (raised_pair s.whole s.header p)) → new.files s.path ≡ Some (shared_cert_of (request s) (apart p)) → ShowsPair s p new
of_pair s new p shows accepted held = record {
  is = shows.apart;
  cert = shared_cert_of (request s) (apart p);
  held = held;
  accepted = accepted;
}

of_none : (s : Search) (new : DeskState) (log : List ProofStep) (size : Size) → IsRefutation (part s).sets (deleted s) s.budget log size → IsAccepted s (shared_cert_of (request s) (together log size)) shown.Refutation → new.files s.path ≡ Some (shared_cert_of (request s) (together log size))
    → ShowsNone s new
of_none s new log size shows accepted held = record {
  intersects = shows.intersects;
  log = log;
  size = size;
  refutes = shows;
  held = held;
  accepted = accepted;
}

of_unknown : (s : Search) (new : DeskState) (log : List ProofStep) (size : Size) → IsSpent (part s).sets (deleted s) s.budget log size → IsAccepted s (shared_cert_of (request s) (spent log size)) (shown.Partial s.budget) → new.files s.path ≡ Some (shared_cert_of (request s) (spent log size))
    → ShowsUnknown s new
of_unknown s new log size shows accepted held = record {
  log = log;
  size = size;
  spends = shows;
  held = held;
  accepted = accepted;
}

intersect_means : (s : Search) (old new : DeskState) (status : Status) (found : Shown) (a : Answer) → IsCertified (meaning_of Intersect) (request s) found → a ≡ intersect_answer (part s).names s.budget found → PutsBoth s.path (shared_cert_of (request s) found) a old new status
    → Means (meaning_of Intersect) s old new status
intersect_means s old new status (together log size) a finds is put = says_yes (meaning_of Intersect) s old new status (status_there s old new status _ a _ put is) (of_none s new log size finds.0 finds.1 (cert_there s old new status _ a put))
intersect_means s old new status (apart p) a finds is put =
    says_no (meaning_of Intersect) s old new status (status_there s old new status _ a _ put is) (pair_there s old new (codes "intersects no\n") p (of_pair s new p finds.0 finds.1 (cert_there s old new status _ a put)) (text_there s old new status _ a _ put is))
intersect_means s old new status (spent log size) a finds is put =
    says_unknown (meaning_of Intersect) s old new status (status_there s old new status _ a _ put is) (record { shows = of_unknown s new log size finds.0 finds.1 (cert_there s old new status _ a put); out = text_there s old new status _ a _ put is })

splits_means : (s : Search) (old new : DeskState) (status : Status) (found : Shown) (a : Answer) → IsCertified (meaning_of Splits) (request s) found → a ≡ splits_answer (part s).names s.budget found → PutsBoth s.path (shared_cert_of (request s) found) a old new status
    → Means (meaning_of Splits) s old new status
splits_means s old new status (together log size) a finds is put = says_no (meaning_of Splits) s old new status (status_there s old new status _ a _ put is) (of_none s new log size finds.0 finds.1 (cert_there s old new status _ a put))
splits_means s old new status (apart p) a finds is put =
    says_yes (meaning_of Splits) s old new status (status_there s old new status _ a _ put is) (pair_there s old new (codes "splits yes\n") p (of_pair s new p finds.0 finds.1 (cert_there s old new status _ a put)) (text_there s old new status _ a _ put is))
splits_means s old new status (spent log size) a finds is put =
    says_unknown (meaning_of Splits) s old new status (status_there s old new status _ a _ put is) (record { shows = of_unknown s new log size finds.0 finds.1 (cert_there s old new status _ a put); out = text_there s old new status _ a _ put is })

-- as `intersect`, and never no
trial_means : (s : Search) (old new : DeskState) (status : Status) (found : Shown) (a : Answer) → IsCertified (meaning_of Trial) (request s) found → RepliesTrial (part s) s.budget found a → PutsBoth s.path (shared_cert_of (request s) found) a old new status
    → Means (meaning_of Trial) s old new status
unfolding of_unknown
trial_means s old new status (together log size) a finds is put = says_yes (meaning_of Trial) s old new status (status_there s old new status _ a _ put is.said) (of_none s new log size finds.0 finds.1 (cert_there s old new status _ a put))
trial_means s old new status (apart p) a finds is put = absurd is.has
trial_means s old new status (spent log size) a finds is put =
    says_unknown (meaning_of Trial) s old new status (status_there s old new status _ a _ put is.said) (record {
      shows = of_unknown s new log size finds.0 finds.1 (cert_there s old new status _ a put);
      out = text_there s old new status _ a _ put is.said ∙ ap (λ (z : Size). old.out ++ (size_lines (part s) z ++ counted (codes "intersects unknown") s.budget)) is.has;
    })

not_available : (s : Search) → (IsTrue false ↔ IsAvailable s) → IsAvailable s → ⊥
not_available s is a = absurd (let k = is.1 a in cc)

-- the status is that of both answers
dset_means : (s : Search) (old new : DeskState) (status : Status) (found : Shown) (a : Answer) (available : Bool) (unmet : Table) → (IsTrue available ↔ IsAvailable s) → IsCertified (meaning_of Dset) (request s) found
    → a ≡ dset_answer (part s).names available unmet (intersect_answer (part s).names s.budget found) → PutsBoth s.path (shared_cert_of (request s) found) a old new status → Means (meaning_of Dset) s old new status
dset_means s old new status (together log size) a false unmet is finds said put =
    says_no (meaning_of Dset) s old new status (status_there s old new status _ a _ put said) (inr (not_available s is, inl (of_none s new log size finds.0 finds.1 (cert_there s old new status _ a put))))
dset_means s old new status (together log size) a true unmet is finds said put =
    says_yes (meaning_of Dset) s old new status (status_there s old new status _ a _ put said) (is.0 refl, of_none s new log size finds.0 finds.1 (cert_there s old new status _ a put))
dset_means s old new status (apart p) a false unmet is finds said put =
    let lines : Text = available_lines (part s).names false unmet in
    says_no (meaning_of Dset) s old new status (status_there s old new status _ a _ put said) (inl (lines ++ codes "intersects no\n", pair_between s old new lines (codes "intersects no\n") (codes "dset no\n") p (of_pair s new p finds.0 finds.1 (cert_there s old new status _ a put)) (text_there s old new status _ a _ put said)))
dset_means s old new status (apart p) a true unmet is finds said put =
    let lines : Text = available_lines (part s).names true unmet in
    says_no (meaning_of Dset) s old new status (status_there s old new status _ a _ put said) (inl (lines ++ codes "intersects no\n", pair_between s old new lines (codes "intersects no\n") (codes "dset no\n") p (of_pair s new p finds.0 finds.1 (cert_there s old new status _ a put)) (text_there s old new status _ a _ put said)))
dset_means s old new status (spent log size) a false unmet is finds said put =
    says_no (meaning_of Dset) s old new status (status_there s old new status _ a _ put said) (inr (not_available s is, inr (of_unknown s new log size finds.0 finds.1 (cert_there s old new status _ a put))))
dset_means s old new status (spent log size) a true unmet is finds said put =
    says_unknown (meaning_of Dset) s old new status (status_there s old new status _ a _ put said) (is.0 refl, record { shows = of_unknown s new log size finds.0 finds.1 (cert_there s old new status _ a put); out = text_there s old new status _ a _ put said })

-- ---- lists

list_means : (sought : Kind) (s : Search) (old new : DeskState) (status : Status) (found : ListOutcome) (a : Answer) → ListShows sought (part s).sets (deleted s) s.budget found → IsAccepted s (list_cert_of sought (request s) found) (list_accepted_as sought (request s) found)
    → a ≡ list_answer sought (part s).names s.budget found → PutsBoth s.path (list_cert_of sought (request s) found) a old new status → Means (lists sought) s old new status
list_means sought s old new status (whole_list sets journal) a shows accepted is put = says_yes (lists sought) s old new status (status_there s old new status _ a _ put is) (record {
  sets = sets;
  out = text_there s old new status _ a _ put is;
  list = shows.holds.list;
  journal = journal;
  left = shows.left;
  lists = shows.holds;
  held = cert_there s old new status _ a put;
  accepted = accepted;
})
list_means sought s old new status (part_of_list journal) a shows accepted is put = says_unknown (lists sought) s old new status (status_there s old new status _ a _ put is) (record {
  out = text_there s old new status _ a _ put is;
  journal = journal;
  lists = shows.holds.1;
  held = cert_there s old new status _ a put;
  accepted = accepted;
})

-- a smallest quorum, by a journal that ends, with its answer
least_printed : (s : Search) (old new : DeskState) (status : Status) (answer : Option Table) (left : ℕ) (journal : List JournalLine) (a : Answer) → LeastHolds (part s).sets (deleted s) s.budget left answer journal
    → IsAccepted s (least_cert_by s.whole s.digest s.header Whole journal) (shown.Reached (reached.Least (raised_if_any s.whole s.header answer))) → a ≡ record { status = Yes; text = smallest_if_any (part s).names answer } → PutsBoth s.path (least_cert_by s.whole s.digest s.header Whole journal) a old new status
    → Means finds_least s old new status
least_printed s old new status answer left journal a holds accepted is put = says_yes finds_least s old new status (status_there s old new status _ a _ put is) (record {
  answer = answer;
  out = text_there s old new status _ a _ put is;
  least = holds.least;
  journal = journal;
  left = left;
  finds = holds;
  held = cert_there s old new status _ a put;
  accepted = accepted;
})

least_means : (s : Search) (old new : DeskState) (status : Status) (found : LeastOutcome) (a : Answer) → LeastShows (part s).sets (deleted s) s.budget found → IsAccepted s (least_cert_of (request s) found) (least_accepted_as (request s) found) → a ≡ least_answer (part s).names s.budget found
    → PutsBoth s.path (least_cert_of (request s) found) a old new status → Means finds_least s old new status
least_means s old new status (found_least.Least set journal) a shows accepted is put = least_printed s old new status (Some set) shows.left journal a shows.holds accepted is put
least_means s old new status (found_least.NoQuorum journal) a shows accepted is put = least_printed s old new status None shows.left journal a shows.holds accepted is put
least_means s old new status (found_least.Spent journal) a shows accepted is put = says_unknown finds_least s old new status (status_there s old new status _ a _ put is) (record {
  out = text_there s old new status _ a _ put is;
  journal = journal;
  finds = shows.holds.1;
  held = cert_there s old new status _ a put;
  accepted = accepted;
})

-- a list of the minimal blocking sets of these groups, by a file of this digest, is whole, or the budget is spent
abbrev MeansBlocks : Search → DeskState → DeskState → Status → List ℕ → List Group → Type 0
MeansBlocks s old new status digest groups = ((status ≡ Yes) × PrintsBlocks s digest groups old new) ⊎ ((status ≡ Unknown) × PrintsPartOfBlocks s digest groups old new)

blocks_mean : (s : Search) (old new : DeskState) (status : Status) (digest : List ℕ) (groups : List Group) (found : GroupOutcome) (a : Answer) → GroupsShow (part s).sets (deleted s) (tables_of groups) s.budget found
    → IsAccepted s (cert_of_groups s digest groups found) (group_accepted_as (request s) groups found) → a ≡ group_answer (texts_of groups) s.budget found → PutsBoth s.path (cert_of_groups s digest groups found) a old new status
    → MeansBlocks s old new status digest groups
blocks_mean s old new status digest groups (found_groups.Whole sets journal) a shows accepted is put = inl (
  status_there s old new status _ a _ put is,
  record {
    sets = sets;
    out = text_there s old new status _ a _ put is;
    list = shows.holds.list;
    journal = journal;
    left = shows.left;
    lists = shows.holds;
    held = cert_there s old new status _ a put;
    accepted = accepted;
  },
)
blocks_mean s old new status digest groups (found_groups.Spent journal) a shows accepted is put = inr (
  status_there s old new status _ a _ put is,
  record {
    out = text_there s old new status _ a _ put is;
    journal = journal;
    lists = shows.holds.1;
    held = cert_there s old new status _ a put;
    accepted = accepted;
  },
)

-- by the organisations that were given
groups_mean : (s : Search) (old new : DeskState) (status : Status) (given : GivenOrgs) → s.orgs ≡ Some given → AreGroups (part s) (groups_in s.whole s.header given.orgs) → MeansBlocks s old new status given.digest (groups_in s.whole s.header given.orgs) → Means lists_groups s old new status
groups_mean s old new status given is are (inl p) = says_yes lists_groups s old new status p.0 (record { given = given; is_given = is; are = are; prints = p.1 })
groups_mean s old new status given is are (inr p) = says_unknown lists_groups s old new status p.0 (record { given = given; is_given = is; are = are; prints = p.1 })

groups_there : (s : Search) (old new : DeskState) (status : Status) (found : OrgBlockingFound) (a : Answer) → ShowsGroups (request s) found → IsAccepted s (cert_of lists_groups (request s) found) (group_accepted_as (request s) found.groups found.outcome)
    → a ≡ group_answer (texts_of found.groups) s.budget found.outcome → PutsBoth s.path (cert_of lists_groups (request s) found) a old new status → Means lists_groups s old new status
groups_there s old new status found a shows accepted is put =
    groups_mean s old new status shows.given shows.is_given (subst (AreGroups (part s)) shows.groups_are shows.are) (subst (MeansBlocks s old new status shows.given.digest) shows.groups_are (subst (λ (d : List ℕ). MeansBlocks s old new status d found.groups) shows.digest_is (blocks_mean s old new status found.digest found.groups found.outcome a shows.shows accepted is put)))

-- ---- what is so of a search that was answered

found_means : (goal : Goal) (s : Search) (old new : DeskState) (status : Status) (found : (meaning_of goal).Finding) (a : Answer) → IsCertified (meaning_of goal) (request s) found → (meaning_of goal).Replies (part s) (deleted s) s.budget found a
    → PutsBoth s.path (cert_of (meaning_of goal) (request s) found) a old new status → Means (meaning_of goal) s old new status
found_means Intersect s old new status found a finds is put = intersect_means s old new status found a finds is put
found_means Splits s old new status found a finds is put = splits_means s old new status found a finds is put
found_means Dset s old new status found a finds is put = dset_means s old new status found a is.available is.unmet is.is.is finds is.said put
found_means Trial s old new status found a finds is put = trial_means s old new status found a finds is put
found_means Blocking s old new status found a finds is put = list_means listed.Blocking s old new status found a finds.0 finds.1 is put
found_means Quorums s old new status found a finds is put = list_means listed.Quorum s old new status found a finds.0 finds.1 is put
found_means Least s old new status found a finds is put = least_means s old new status found.outcome a finds.0.1 finds.1 is put
found_means OrgBlocking s old new status found a finds is put = groups_there s old new status found a finds.0 finds.1 is put

-- and the certificate is accepted
pub record SearchMeans (s : Search) (old new : DeskState) (status : Status) : Type 0 where
  pub means : Means (meaning_of s.goal) s old new status
  pub finished : IsTold status → WritesAccepted s new

search_means : (s : Search) (old new : DeskState) (status : Status) → PrintsSearch s old new status → SearchMeans s old new status
search_means s old new status (inl p) =
    let r = p.reply in
    record {
      means = found_means s.goal s old new status r.found r.answer r.finds r.is p.put;
      finished = λ at. record {
        cert = cert_of (meaning_of s.goal) (request s) r.found;
        held = cert_there s old new status _ r.answer p.put;
        title = title_there s.goal s r.found;
        answer = (meaning_of s.goal).accepted_as (request s) r.found;
        accepted = r.finds.1;
      };
    }
search_means s old new status (inr p) = record {
  means = says_none (meaning_of s.goal) s old new status p.printed.status_is;
  finished = λ at. absurd (told_small status at p.printed.status_is);
}

-- the same of a search that the words ask
sought_means : (r : Result Asked Early) (s : Search) (old new : DeskState) (status : Status) → r ≡ Ok (asked.Search s) → Prints r old new status → SearchMeans s old new status
sought_means r s old new status is p = search_means s old new status (subst (λ (x : Result Asked Early). Prints x old new status) is p)

-- the headline, by what was printed and what was accepted
pub headline_of : (words : List (List ℕ)) (old new : DeskState) (status : Status) → IfErr (asked_of words old.files) IsRefusal → Prints (asked_of words old.files) old new status → (IsCheck (order_of words) → status ≡ Yes → NamesAccepted words old.files)
    → (IsCheckLrat (order_of words) → status ≡ Yes → NamesVerified words old.files) → Headline words old new status
headline_of words old new status refused prints accepts verifies = record {
  yes = λ s seeks. (sought_means (asked_of words old.files) s old new status seeks prints).means.yes;
  no = λ s seeks. (sought_means (asked_of words old.files) s old new status seeks prints).means.no;
  unknown = λ s seeks. (sought_means (asked_of words old.files) s old new status seeks prints).means.unknown;
  accepts = λ check is. says_accepted words old new status refused prints check is (accepts check is);
  verifies = λ check is. says_verified words old new status refused prints check is (verifies check is);
  large_cert = large_cert words old new status refused prints;
  large_proof = large_proof words old new status refused prints;
  finished = λ s seeks. (sought_means (asked_of words old.files) s old new status seeks prints).finished;
  edits = λ e tries. edits_show e old new status (subst (λ (x : Result Asked Early). Prints x old new status) tries prints);
}
