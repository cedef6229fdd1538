-- From what a search for minimal blocking sets of groups shows to a certificate that is accepted.
use Rattle.std.proofs.Common.{◌≡◌, ℕ, ◌+◌, ◌≤◌, List, length, Some, Ok, refl, sym, ◌∙◌, ap, arith}
use Rattle.std.specs.List.{All}
use Rattle.std.specs.List.Sorted.{IsStrictlySortedBy}
use Rattle.std.proofs.lemmas.List.{length-map}
use Rattle.hex.specs.Hex.{IsBytes}
use Rattle.fbas_model.specs.Nodes.{Table, members}
use Rattle.fbas_model.specs.Names.{name_cmp}
use Rattle.fbas_model.specs.Fbas.{Fbas}
use Rattle.fbas_model.specs.Systems.{System, IsSystem}
use Rattle.greatest_quorum.specs.Greatest.{greatest_of}
use Rattle.lrat_model.specs.Steps.{Database}
use Rattle.enumeration_journal.specs.Journals.{JournalLine, JournalRun, IsWholeJournal, nothing_held, sets_in}
use Rattle.enumeration_journal.specs.Order.{ordered}
use Rattle.enumeration_journal.specs.declared.kinds.ListKind.{ListKind}
use Rattle.enumeration_journal.specs.declared.kinds.ListKind.TheVariants as kind
use Rattle.enumeration_journal.specs.declared.kinds.Listed.{Listed}
use Rattle.enumeration_journal.specs.declared.kinds.Listed.TheVariants as listed
use Rattle.enumeration_journal.proofs.Greatest.{counted_greatest}
use Rattle.enumeration_journal.proofs.OrderLaws.{HavePlaces, is_ordered}
use Rattle.blocking_lists.specs.Lines.{HasLineNumbers}
use Rattle.node_json.specs.Groups.{Group, tables_of}
use Rattle.group_journal.specs.Groups.{IsGroupList}
use Rattle.group_journal.proofs.Whole.{whole_has_groups}
use Rattle.group_lists.specs.Search.{group_rules}
use Rattle.group_lists.specs.declared.outcome.GroupOutcome.{GroupOutcome}
use Rattle.group_lists.specs.declared.outcome.GroupOutcome.TheVariants.{Whole, Spent}
use Rattle.quorum_questions.specs.declared.asking.TheConstants.{MOST_UNITS}
use Rattle.certificate_file.specs.Acceptance.{checked}
use Rattle.certificate_file.specs.declared.given.GivenOrgs.{GivenOrgs}
use Rattle.certificate_file.specs.declared.places.Conclusion.TheVariants.{Reached}
use Rattle.reach_kinds.specs.declared.kinds.ReachKind.TheVariants.{Groups}
use Rattle.reach_kinds.specs.declared.places.Reached.TheVariants.{OrgBlocking, Partial}
use Rattle.cert_lines.specs.declared.lines.TheConstants.{MAX_LINES}
use Rattle.cert_writer.specs.Promises.{IsHeader, AreOrgs, groups_in}
use Rattle.cert_writer.specs.Finding.{Request, given_of, part, faulty}
use Rattle.cert_writer.specs.Grouping.{group_cert_of, group_accepted_as, GroupsShow, FindsGroups, places_for, CanBeGroupLine, CanBeGroups}
use Rattle.cert_writer.proofs.ListFound.{same, lines_can}
use Rattle.cert_writer.proofs.GroupLaws.{groups_of_accepted}

-- ---- the sets

-- the listed sets, put in order, are the list
group_list : (f : Fbas) (b : Table) (groups sets : List Table) (journal : List JournalLine) → length b ≡ length f → IsGroupList f (members b) (greatest_of f b) groups sets → IsWholeJournal (group_rules f b groups) journal → ordered (sets_in listed.Blocking journal) ≡ sets
group_list f b groups sets journal same list whole =
    let each = whole_has_groups f (members b) (greatest_of f b) groups (counted_greatest f b same) journal whole in
    let sizes : HavePlaces (length groups) (sets_in listed.Blocking journal) = λ s there. ((each s).0 there).places in
    sym (is_ordered (length groups) sets (sets_in listed.Blocking journal) sizes list.rising (λ s. (λ there. (each s).1 ((list.exact s).0 there), λ there. (list.exact s).1 ((each s).0 there))))

-- ---- what is found

module _ (s : Request) (is : IsSystem s.whole.names s.whole.sets) (sorted : IsStrictlySortedBy name_cmp s.whole.names) (long : length s.digest ≡ 32) (bytes : IsBytes s.digest) (head : IsHeader s.whole s.header) (small : s.budget ≤ MOST_UNITS) (given : GivenOrgs) (groups : List Group) where
  accepted_as : (outcome : GroupOutcome) → s.orgs ≡ Some given → AreOrgs s.whole given → groups ≡ groups_in s.whole s.header given.orgs → GroupsShow (part s).sets (faulty s) (tables_of groups) s.budget outcome
      → checked s.whole (given_of s) (group_cert_of s given groups outcome) ≡ Ok (record { header = s.header; answer = group_accepted_as s groups outcome })
  accepted_as (Whole sets journal) orgs are groups_are r =
      let holds = r.holds in
      let whole = holds.journal_is in
      let few : length journal + 7 ≤ MAX_LINES = omega (arith, holds.few_steps.short, holds.taken, small) in
      groups_of_accepted s.whole (given_of s) s.header is sorted long bytes head given orgs are groups groups_are (part s) kind.Whole journal refl (record { new = whole.after; run = whole.run; numbers = r.numbers; few_words = r.few_words; few = few; ends = whole.ends })
      ∙ ap (λ (xs : List Table). Ok (record { header = s.header; answer = Reached (OrgBlocking groups xs) })) (group_list (part s).sets (faulty s) (tables_of groups) sets.items journal (same s is sorted long bytes head small listed.Blocking) holds.list whole)
  accepted_as (Spent journal) orgs are groups_are r =
      let holds = r.holds.1 in
      let one = holds.journal_is in
      let few : length journal + 7 ≤ MAX_LINES = omega (arith, holds.few_steps.short, holds.taken, small) in
      groups_of_accepted s.whole (given_of s) s.header is sorted long bytes head given orgs are groups groups_are (part s) kind.Partial journal refl (record { new = holds.after; run = one.run; numbers = r.numbers; few_words = r.few_words; few = few; ends = one.opens })
      ∙ ap (λ (n : ℕ). Ok (record { header = s.header; answer = Reached (Partial Groups n) })) holds.taken

  pub groups_found : (outcome : GroupOutcome) → s.orgs ≡ Some given → AreOrgs s.whole given → groups ≡ groups_in s.whole s.header given.orgs → GroupsShow (part s).sets (faulty s) (tables_of groups) s.budget outcome → FindsGroups s groups outcome (group_cert_of s given groups outcome)
  groups_found outcome orgs are groups_are r = record { given = given; orgs = orgs; groups_are = groups_are; shows = r; cert_is = refl; accepted = accepted_as outcome orgs are groups_are r }

-- ---- what can be written

places_of : (f : Fbas) (b : Table) (groups : List Group) (n : ℕ) → n ≡ length f → (which : Listed) (u : Table) → (group_rules f b (tables_of groups)).IsRight which u → length u ≡ places_for which n (length groups)
places_of f b groups n as_many listed.Quorum u is = is.0 ∙ sym as_many
places_of f b groups n as_many listed.Blocking u is = is.places ∙ length-map groups (λ (g : Group). g.members)
places_of f b groups n as_many listed.Smaller u is = absurd is

group_lines_can : (f : Fbas) (b : Table) (groups : List Group) (n : ℕ) → n ≡ length f → (kind : ListKind) (new : Database) (journal : List JournalLine) → JournalRun (group_rules f b (tables_of groups)) kind nothing_held journal new → All HasLineNumbers journal → All (CanBeGroupLine n (length groups)) journal
group_lines_can f b groups n as_many kind new journal run numbers =
    lines_can (CanBeGroupLine n (length groups)) (group_rules f b (tables_of groups)) kind nothing_held new journal (λ which id u right. places_of f b groups n as_many which u right) (λ step has. has) run numbers

pub can_be_groups : (f : System) (b : Table) (groups : List Group) (budget : ℕ) (outcome : GroupOutcome) → length f.names ≡ length f.sets → GroupsShow f.sets b (tables_of groups) budget outcome → CanBeGroups (length f.names) (length groups) outcome
can_be_groups f b groups budget (Whole sets journal) as_many r = group_lines_can f.sets b groups (length f.names) as_many kind.Whole r.holds.journal_is.after journal r.holds.journal_is.run r.numbers
can_be_groups f b groups budget (Spent journal) as_many r = group_lines_can f.sets b groups (length f.names) as_many kind.Partial r.holds.1.after journal r.holds.1.journal_is.run r.numbers
