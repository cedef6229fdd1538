-- The certificates of what is found begin with the title of version 3.
use Rattle.std.proofs.Common.{ℕ, List, [], ◌∷◌, ◌++◌, codes, refl}
use Rattle.hex.specs.Hex.{encode_lower}
use Rattle.fbas_model.specs.Names.{Name}
use Rattle.fbas_model.specs.Nodes.{size}
use Rattle.enumeration_journal.specs.declared.kinds.Listed.{Listed as Kind}
use Rattle.enumeration_journal.specs.declared.kinds.Listed.TheVariants as sought
use Rattle.enumeration_journal.specs.declared.kinds.ListKind.TheVariants as kind
use Rattle.certificate_file.specs.declared.places.Header.{Header}
use Rattle.certificate_file.specs.declared.places.Aim.TheVariants as aim
use Rattle.quorum_questions.specs.declared.answers.Answer.{Answer as Shown}
use Rattle.quorum_questions.specs.declared.answers.Answer.TheVariants as shared
use Rattle.blocking_lists.specs.declared.outcome.ListOutcome.{ListOutcome}
use Rattle.blocking_lists.specs.declared.outcome.ListOutcome.TheVariants as outcome
use Rattle.least_quorum.specs.Outcomes.{least_journal_of}
use Rattle.node_json.specs.Groups.{texts_of}
use Rattle.group_lists.specs.Outcomes.{group_journal_in}
use Rattle.cert_writer.specs.Promises.{part_of, greatest_of_part}
use Rattle.cert_writer.specs.Finding.{cert_over as shared_cert}
use Rattle.cert_writer.specs.Listing.{list_cert_over}
use Rattle.cert_writer.specs.Least.{kind_of}
use Rattle.cert_writer.specs.Grouping.{kind_of as group_kind}
use Rattle.cert_writer.specs.Texts.{Text, joined, worded, listed, name_if_any, header_lines, pair_lines, log_lines, list_lines, least_lines, group_lines}
use Rattle.cli_words.specs.declared.orders.Goal.{Goal}
use Rattle.cli_words.specs.declared.orders.Goal.TheVariants.{Intersect, Dset, Splits, Blocking, Trial, Quorums, Least, OrgBlocking}
use Rattle.request_reading.specs.declared.searches.Search.{Search}
use Rattle.command_run.specs.Sought.{request}
use Rattle.command_run.specs.Meanings.{cert_of, meaning_of}
use Rattle.command_run.specs.Showing.{IsOfVersionThree}

-- the header after its first line
abbrev behind_title : List Name → List ℕ → Header → List Text
behind_title names digest h = worded (codes "config") (encode_lower digest ∷ []) ∷ worded (codes "from") (name_if_any names h.from) ∷ listed (codes "faulty") names h.faulty ∷ []

titled : (names : List Name) (digest : List ℕ) (h : Header) (lines : List Text) → IsOfVersionThree (joined (header_lines names digest h ++ lines))
titled names digest h lines = (joined (behind_title names digest h ++ lines), refl)

answer_titled : (s : Search) (found : Shown) → IsOfVersionThree (shared_cert s.whole s.digest s.header found)
answer_titled s (shared.Yes log size) = titled s.whole.names s.digest s.header (log_lines aim.Refutation size.vars size.clauses log)
answer_titled s (shared.No pair) = titled s.whole.names s.digest s.header (pair_lines (part_of s.whole s.header.from).names pair)
answer_titled s (shared.Spent log size) = titled s.whole.names s.digest s.header (log_lines aim.Partial size.vars size.clauses log)

list_titled : (which : Kind) (s : Search) (found : ListOutcome) → IsOfVersionThree (list_cert_over which s.whole s.digest s.header found)
list_titled which s (outcome.Whole sets journal) = titled s.whole.names s.digest s.header (list_lines (part_of s.whole s.header.from).names which kind.Whole journal)
list_titled which s (outcome.Spent journal) = titled s.whole.names s.digest s.header (list_lines (part_of s.whole s.header.from).names which kind.Partial journal)

pub title_there : (goal : Goal) (s : Search) (found : (meaning_of goal).Finding) → IsOfVersionThree (cert_of (meaning_of goal) (request s) found)
title_there Intersect s found = answer_titled s found
title_there Splits s found = answer_titled s found
title_there Dset s found = answer_titled s found
title_there Trial s found = answer_titled s found
title_there Blocking s found = list_titled sought.Blocking s found
title_there Quorums s found = list_titled sought.Quorum s found
title_there Least s found = titled s.whole.names s.digest s.header (least_lines (part_of s.whole s.header.from).names (size (greatest_of_part s.whole s.header)) (kind_of found.outcome) (least_journal_of found.outcome))
title_there OrgBlocking s found = titled s.whole.names s.digest s.header (group_lines (part_of s.whole s.header.from).names (texts_of found.groups) found.digest (group_kind found.outcome) (group_journal_in found.outcome))
