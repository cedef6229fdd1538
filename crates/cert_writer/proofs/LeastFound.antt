-- From what a search for a smallest quorum shows to a certificate that is accepted.
use Rattle.std.proofs.Common.{◌≡◌, ℕ, ◌+◌, ◌≤◌, List, length, Option, Some, None, Ok, refl, sym, ◌∙◌, ap, arith}
use Rattle.std.specs.List.{All}
use Rattle.std.specs.List.Sorted.{IsStrictlySortedBy}
use Rattle.hex.specs.Hex.{IsBytes}
use Rattle.fbas_model.specs.Nodes.{Table, size}
use Rattle.fbas_model.specs.Names.{name_cmp}
use Rattle.fbas_model.specs.Fbas.{Fbas}
use Rattle.fbas_model.specs.Systems.{System, IsSystem}
use Rattle.greatest_quorum.specs.Greatest.{greatest_of}
use Rattle.clause_encoder.specs.NameCounter.{counter_vars}
use Rattle.clause_encoder.specs.declared.limits.TheConstants.{MOST_VARS}
use Rattle.enumeration_journal.specs.Journals.{JournalLine}
use Rattle.enumeration_journal.specs.declared.kinds.ListKind.TheVariants as kind
use Rattle.enumeration_journal.specs.declared.kinds.Listed.{Listed}
use Rattle.enumeration_journal.specs.declared.kinds.Listed.TheVariants as listed
use Rattle.least_quorum.specs.Outcomes.{LeastHolds, least_rules as least_rules_of}
use Rattle.least_quorum.specs.declared.outcome.LeastOutcome.{LeastOutcome}
use Rattle.least_quorum.specs.declared.outcome.LeastOutcome.TheVariants as found
use Rattle.blocking_lists.specs.Lines.{HasLineNumbers, HasFewWords}
use Rattle.quorum_questions.specs.declared.asking.TheConstants.{MOST_UNITS}
use Rattle.certificate_file.specs.Acceptance.{checked}
use Rattle.certificate_file.specs.declared.places.Conclusion.TheVariants.{Reached}
use Rattle.reach_kinds.specs.declared.kinds.ReachKind.TheVariants.{Nodes}
use Rattle.reach_kinds.specs.declared.places.Reached.TheVariants.{Least, Partial}
use Rattle.cert_lines.specs.declared.lines.TheConstants.{MAX_LINES}
use Rattle.cert_writer.specs.Texts.{least_text}
use Rattle.cert_writer.specs.Promises.{IsHeader, greatest_of_part}
use Rattle.cert_writer.specs.Finding.{Request, given_of, part, faulty}
use Rattle.cert_writer.specs.Least.{least_cert_of, raised_if_any, LeastShows, FindsLeast, CanBeLeast}
use Rattle.cert_writer.proofs.ListLaws.{least_of_accepted}
use Rattle.cert_writer.proofs.ListFound.{node_lines_can}

-- ---- what is found

-- a counter of g nodes that is not too large has few of them
few_nodes : (g : ℕ) → counter_vars g ≤ MOST_VARS → g ≤ MOST_VARS
few_nodes g small = omega arith

module _ (s : Request) (is : IsSystem s.whole.names s.whole.sets) (sorted : IsStrictlySortedBy name_cmp s.whole.names) (long : length s.digest ≡ 32) (bytes : IsBytes s.digest) (head : IsHeader s.whole s.header) (small : s.budget ≤ MOST_UNITS) where
  abbrev g : ℕ
  g = size (greatest_of (part s).sets (faulty s))

  -- a journal that ends, and what its certificate shows
  whole_accepted : (answer : Option Table) (left : ℕ) (journal : List JournalLine) → LeastHolds (part s).sets (faulty s) s.budget left answer journal → All HasLineNumbers journal → All (HasFewWords (counter_vars g)) journal → counter_vars g ≤ MOST_VARS
      → checked s.whole (given_of s) (least_text s.whole.names (part s).names s.digest s.header (size (greatest_of_part s.whole s.header)) kind.Whole journal) ≡ Ok (record { header = s.header; answer = Reached (Least (raised_if_any s.whole s.header answer)) })
  whole_accepted answer left journal holds numbers words counter =
      let few : length journal + 7 ≤ MAX_LINES = omega (arith, holds.few_steps.short, holds.taken, small, few_nodes g counter) in
      least_of_accepted s.whole (given_of s) s.header is sorted long bytes head (part s) kind.Whole journal refl (record { small = counter; new = holds.journal_is.whole.after; run = holds.journal_is.whole.run; falls = holds.journal_is.falling; numbers = numbers; few_words = words; few = few; ends = holds.journal_is.whole.ends })
      ∙ ap (λ (o : Option Table). Ok (record { header = s.header; answer = Reached (Least (raised_if_any s.whole s.header o)) })) holds.answer_is

  pub least_found : (outcome : LeastOutcome) → LeastShows (part s).sets (faulty s) s.budget outcome → FindsLeast s outcome (least_cert_of s outcome)
  least_found (found.Least set journal) r = record { shows = r; cert_is = refl; accepted = whole_accepted (Some set) r.left journal r.holds r.numbers r.few_words r.small }
  least_found (found.NoQuorum journal) r = record { shows = r; cert_is = refl; accepted = whole_accepted None r.left journal r.holds r.numbers r.few_words r.small }
  least_found (found.Spent journal) r =
      let holds = r.holds.1 in
      let few : length journal + 7 ≤ MAX_LINES = omega (arith, holds.few_steps.short, holds.taken, small, few_nodes g r.small) in record {
        shows = r;
        cert_is = refl;
        accepted =
            least_of_accepted s.whole (given_of s) s.header is sorted long bytes head (part s) kind.Partial journal refl (record { small = r.small; new = holds.after; run = holds.journal_is.part.run; falls = holds.journal_is.falling; numbers = r.numbers; few_words = r.few_words; few = few; ends = holds.journal_is.part.opens })
            ∙ ap (λ (n : ℕ). Ok (record { header = s.header; answer = Reached (Partial (Nodes listed.Smaller) n) })) holds.taken;
      }

-- ---- what can be written

places_for : (f : Fbas) (b : Table) (n : ℕ) → n ≡ length f → (which : Listed) (u : Table) → (least_rules_of f b).IsRight which u → length u ≡ n
places_for f b n same listed.Quorum u is = absurd is
places_for f b n same listed.Blocking u is = is.0 ∙ sym same
places_for f b n same listed.Smaller u is = is.0 ∙ sym same

pub can_be_least : (f : System) (b : Table) (budget : ℕ) (outcome : LeastOutcome) → length f.names ≡ length f.sets → LeastShows f.sets b budget outcome → CanBeLeast (length f.names) outcome
can_be_least f b budget (found.Least set journal) same r = node_lines_can (least_rules_of f.sets b) kind.Whole (length f.names) r.holds.journal_is.whole.after journal (places_for f.sets b (length f.names) same) r.holds.journal_is.whole.run r.numbers
can_be_least f b budget (found.NoQuorum journal) same r = node_lines_can (least_rules_of f.sets b) kind.Whole (length f.names) r.holds.journal_is.whole.after journal (places_for f.sets b (length f.names) same) r.holds.journal_is.whole.run r.numbers
can_be_least f b budget (found.Spent journal) same r = node_lines_can (least_rules_of f.sets b) kind.Partial (length f.names) r.holds.1.after journal (places_for f.sets b (length f.names) same) r.holds.1.journal_is.part.run r.numbers
