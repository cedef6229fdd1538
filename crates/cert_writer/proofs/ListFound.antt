-- From what a search for minimal sets shows to a certificate that is accepted.
use Rattle.std.proofs.Common.{◌≡◌, ℕ, ◌+◌, ◌≤◌, List, [], ◌∷◌, length, map, IfSome, Ok, refl, sym, ◌∙◌, ap, subst, arith, ◌<◌}
use Rattle.std.specs.List.{All}
use Rattle.std.specs.List.Sorted.{IsStrictlySortedBy}
use Rattle.std.proofs.lemmas.List.Elements.{All-nil, All-cons, All-head, All-tail}
use Rattle.hex.specs.Hex.{IsBytes}
use Rattle.fbas_model.specs.Nodes.{Table, members, size, set_cmp}
use Rattle.fbas_model.specs.Names.{name_cmp}
use Rattle.fbas_model.specs.Fbas.{Fbas}
use Rattle.fbas_model.specs.Systems.{System, IsSystem}
use Rattle.fbas_model.specs.Restriction.{restricted_sets}
use Rattle.fbas_model.proofs.Kept.{length-kept}
use Rattle.fbas_model.proofs.Renumbered.{length-restricted_sets}
use Rattle.greatest_quorum.specs.Greatest.{greatest_of}
use Rattle.lrat_model.specs.Steps.{ProofStep, Database}
use Rattle.lrat_text.specs.Texts.{HasNumbers}
use Rattle.enumeration_journal.specs.Journals.{JournalLine, SetLine, StepLine, Rules, JournalRun, IsTaken, IsWholeJournal, after_line, sets_in}
use Rattle.enumeration_journal.specs.Lists.{IsListOf}
use Rattle.enumeration_journal.specs.declared.kinds.Listed.{Listed}
use Rattle.enumeration_journal.specs.Order.{ordered}
use Rattle.enumeration_journal.specs.declared.kinds.ListKind.{ListKind}
use Rattle.enumeration_journal.specs.declared.kinds.ListKind.TheVariants as kind
use Rattle.enumeration_journal.proofs.Greatest.{counted_greatest}
use Rattle.enumeration_journal.proofs.OrderLaws.{HavePlaces, is_ordered}
use Rattle.enumeration_journal.proofs.Whole.{whole_has_each}
use Rattle.blocking_lists.specs.Lines.{HasLineNumbers}
use Rattle.blocking_lists.specs.Outcomes.{rules}
use Rattle.blocking_lists.specs.declared.outcome.ListOutcome.{ListOutcome}
use Rattle.blocking_lists.specs.declared.outcome.ListOutcome.TheVariants.{Whole, Spent}
use Rattle.certificate_file.specs.Acceptance.{checked}
use Rattle.certificate_file.specs.Known.{IsPart}
use Rattle.certificate_file.specs.Meaning.{part_from}
use Rattle.certificate_file.specs.declared.places.Conclusion.TheVariants.{Reached}
use Rattle.reach_kinds.specs.Bodies.{whole_of}
use Rattle.reach_kinds.specs.declared.kinds.ReachKind.TheVariants.{Nodes}
use Rattle.reach_kinds.specs.declared.places.Reached.TheVariants.{Partial}
use Rattle.certificate_file.proofs.WholeLaws.{part_is}
use Rattle.quorum_questions.specs.declared.asking.TheConstants.{MOST_UNITS}
use Rattle.cert_lines.specs.declared.lines.TheConstants.{MAX_LINES}
use Rattle.cert_writer.specs.Texts.{raised_table}
use Rattle.cert_writer.specs.Promises.{IsHeader}
use Rattle.cert_writer.specs.Finding.{Request, given_of, part, faulty}
use Rattle.cert_writer.specs.Listing.{list_cert_of, list_accepted_as, ListShows, FindsList, CanBeLine, CanBeListed}
use Rattle.cert_writer.proofs.ListLaws.{lists_ordered, list_of_accepted}
use Rattle.cert_writer.proofs.Pairs.{part_is_restricted}
use Rattle.cert_writer.proofs.Raised.{spread, is_raised}
use Rattle.cert_writer.proofs.RaisedOrder.{same_order, ordered-map}

-- ---- the sets

keeps : (nodes s t : Table) → length s ≡ size nodes → length t ≡ size nodes → set_cmp (raised_table nodes s) (raised_table nodes t) ≡ set_cmp s t
keeps nodes s t e e' =
    ap (λ (x : Table). set_cmp x (raised_table nodes t)) (sym (is_raised nodes s))
    ∙ ap (λ (x : Table). set_cmp (spread nodes s) x) (sym (is_raised nodes t))
    ∙ same_order nodes s t e e'

-- the listed sets, raised and put in order, are the list, raised
raised_list : (sought : Listed) (f : Fbas) (b nodes : Table) (sets : List Table) (journal : List JournalLine) → length b ≡ length f → length f ≡ size nodes → IsListOf sought f (members b) sets → IsWholeJournal (rules sought f b) journal
    → ordered (map (raised_table nodes) (sets_in sought journal)) ≡ map (raised_table nodes) sets
raised_list sought f b nodes sets journal same count list whole =
    let each = whole_has_each sought f (members b) (greatest_of f b) (counted_greatest f b same) journal whole in
    let sizes : HavePlaces (length f) (sets_in sought journal) = λ s there. ((each s).0 there).0 in
    let is : sets ≡ ordered (sets_in sought journal) =
    is_ordered (length f) sets (sets_in sought journal) sizes list.rising (λ s. (λ there. (each s).1 ((list.exact s).0 there), λ there. (list.exact s).1 ((each s).0 there))) in
    ordered-map (length f) (raised_table nodes) (λ s t e e'. keeps nodes s t (e ∙ count) (e' ∙ count)) (sets_in sought journal) sizes ∙ ap (λ (xs : List Table). map (raised_table nodes) xs) (sym is)

-- ---- what is found

module _ (s : Request) (is : IsSystem s.whole.names s.whole.sets) (sorted : IsStrictlySortedBy name_cmp s.whole.names) (long : length s.digest ≡ 32) (bytes : IsBytes s.digest) (head : IsHeader s.whole s.header) (small : s.budget ≤ MOST_UNITS) (sought : Listed) where
  abbrev nodes : Table
  nodes = part_from s.whole s.header.from

  of_part : IsPart s.whole s.header.from nodes
  of_part = part_is s.whole s.header.from is (subst (λ n. IfSome s.header.from (λ v. v < n)) (sym is.places) head.node)

  sets_are : (part s).sets ≡ restricted_sets nodes s.whole.sets
  sets_are = ap (λ (x : System). x.sets) (part_is_restricted s.whole s.header.from is)

  count : length (part s).sets ≡ size nodes
  count = ap (λ (f : Fbas). length f) sets_are ∙ length-restricted_sets nodes s.whole.sets of_part.places

  pub same : length (faulty s) ≡ length (part s).sets
  same = length-kept nodes s.header.faulty (of_part.places ∙ is.places ∙ sym head.faulty) ∙ sym count

  accepted_as : (outcome : ListOutcome) → ListShows sought (part s).sets (faulty s) s.budget outcome → checked s.whole (given_of s) (list_cert_of sought s outcome) ≡ Ok (record { header = s.header; answer = list_accepted_as sought s outcome })
  accepted_as (Whole sets journal) r =
      let holds = r.holds in
      let whole = holds.journal_is in
      let few : length journal + 6 ≤ MAX_LINES = omega (arith, holds.few_steps.short, holds.taken, small) in
      list_of_accepted s.whole (given_of s) s.header is sorted long bytes head sought (part s) kind.Whole journal refl (record { lists = r.lists; new = whole.after; run = whole.run; numbers = r.numbers; few_words = r.few_words; few = few; ends = whole.ends })
      ∙ ap (λ (xs : List Table). Ok (record { header = s.header; answer = Reached (whole_of sought xs) })) (lists_ordered sought r.lists (map (raised_table nodes) (sets_in sought journal)) ∙ raised_list sought (part s).sets (faulty s) nodes sets.items journal same count holds.list whole)
  accepted_as (Spent journal) r =
      let holds = r.holds.1 in
      let one = holds.journal_is in
      let few : length journal + 6 ≤ MAX_LINES = omega (arith, holds.few_steps.short, holds.taken, small) in
      list_of_accepted s.whole (given_of s) s.header is sorted long bytes head sought (part s) kind.Partial journal refl (record { lists = r.lists; new = holds.after; run = one.run; numbers = r.numbers; few_words = r.few_words; few = few; ends = one.opens })
      ∙ ap (λ (n : ℕ). Ok (record { header = s.header; answer = Reached (Partial (Nodes sought) n) })) holds.taken

  pub list_found : (outcome : ListOutcome) → ListShows sought (part s).sets (faulty s) s.budget outcome → FindsList sought s outcome (list_cert_of sought s outcome)
  list_found outcome r = record { shows = r; cert_is = refl; accepted = accepted_as outcome r }

-- ---- what can be written

-- what can be written of the sets that the rules let be listed, and of each step with its numbers, can be of the lines of a journal
pub lines_can : (Can : JournalLine → Type 0) (r : Rules) (kind : ListKind) (old new : Database) (lines : List JournalLine) → ((which : Listed) (id : ℕ) (u : Table) → r.IsRight which u → Can (SetLine which id u)) → ((step : ProofStep) → HasNumbers step → Can (StepLine step))
    → JournalRun r kind old lines new → All HasLineNumbers lines → All Can lines
lines_can Can r kind old new [] of_set of_step run numbers = All-nil Can
lines_can Can r kind old new (line ∷ lines) of_set of_step run numbers =
    All-cons Can line lines (first line run.0 (All-head HasLineNumbers line lines numbers)) (lines_can Can r kind (after_line r old line) new lines of_set of_step run.2 (All-tail HasLineNumbers line lines numbers))
  where
    first : (line : JournalLine) → IsTaken r old line → HasLineNumbers line → Can line
    first (SetLine which id u) taken has = of_set which id u taken.1
    first (StepLine step) taken has = of_step step has

-- where each listed set has a place for each of n nodes
pub node_lines_can : (r : Rules) (kind : ListKind) (n : ℕ) (new : Database) (journal : List JournalLine) → ((which : Listed) (u : Table) → r.IsRight which u → length u ≡ n) → JournalRun r kind r.start journal new → All HasLineNumbers journal → All (CanBeLine n) journal
node_lines_can r kind n new journal places run numbers = lines_can (CanBeLine n) r kind r.start new journal (λ which id u right. places which u right) (λ step has. has) run numbers

pub can_be_listed : (sought : Listed) (f : System) (b : Table) (budget : ℕ) (outcome : ListOutcome) → length f.names ≡ length f.sets → ListShows sought f.sets b budget outcome → CanBeListed (length f.names) outcome
can_be_listed sought f b budget (Whole sets journal) same r = node_lines_can (rules sought f.sets b) kind.Whole (length f.names) r.holds.journal_is.after journal (λ which u is. is.0 ∙ sym same) r.holds.journal_is.run r.numbers
can_be_listed sought f b budget (Spent journal) same r = node_lines_can (rules sought f.sets b) kind.Partial (length f.names) r.holds.1.after journal (λ which u is. is.0 ∙ sym same) r.holds.1.journal_is.run r.numbers
