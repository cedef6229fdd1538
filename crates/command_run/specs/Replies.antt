-- What a search prints of what it found.
use Rattle.std.specs.Prelude.{◌≡◌, ◌↔◌, ◌<◌, ℕ, ◌++◌, ◌/◌, Bool, true, false, IsTrue, List, All, length, Some, None, codes}
use Rattle.fbas_model.specs.Names.{Name}
use Rattle.fbas_model.specs.Nodes.{Table, members}
use Rattle.least_quorum.specs.declared.outcome.LeastOutcome.{LeastOutcome}
use Rattle.least_quorum.specs.declared.outcome.LeastOutcome.TheVariants as found_least
use Rattle.group_lists.specs.declared.outcome.GroupOutcome.{GroupOutcome}
use Rattle.group_lists.specs.declared.outcome.GroupOutcome.TheVariants as found_groups
use Rattle.fbas_model.specs.Fbas.{Available, AreUnmet}
use Rattle.fbas_model.specs.Systems.{System}
use Rattle.greatest_quorum.specs.Greatest.{greatest_of}
use Rattle.clause_encoder.specs.Formula.{formula_vars}
use Rattle.clause_encoder.specs.declared.version.Version.{Version}
use Rattle.quorum_questions.specs.declared.answers.Size.{Size}
use Rattle.quorum_questions.specs.declared.answers.Answer.{Answer as Shown}
use Rattle.quorum_questions.specs.declared.answers.Answer.TheVariants.{Yes as together, No as apart, Spent as spent}
use Rattle.enumeration_journal.specs.declared.kinds.Listed.{Listed as Kind}
use Rattle.enumeration_journal.specs.declared.kinds.Listed.TheVariants as listed
use Rattle.blocking_lists.specs.declared.outcome.ListOutcome.{ListOutcome}
use Rattle.blocking_lists.specs.declared.outcome.ListOutcome.TheVariants.{Whole as whole, Spent as part}
use Rattle.clause_encoder.specs.declared.limits.TheConstants.{MOST_VARS}
use Rattle.printed_lines.specs.Lines.{Text, with_pair, with_sets, smallest_if_any, trial_size, counted, available_lines, too_large}
use Rattle.request_reading.specs.declared.status.Status.{Status}
use Rattle.request_reading.specs.declared.status.Status.TheVariants.{Yes, No, Unknown, TooLarge}
use Rattle.request_reading.specs.declared.reply.Reply.{Reply as Answer}

-- whether every two quorums share a node, by the names of the part
abbrev pub intersect_answer : List Name → ℕ → Shown → Answer
intersect_answer names budget (together log size) = record { status = Yes; text = codes "intersects yes\n" }
intersect_answer names budget (apart p) = record { status = No; text = with_pair (codes "intersects no\n") names p }
intersect_answer names budget (spent log size) = record { status = Unknown; text = counted (codes "intersects unknown") budget }

-- whether two quorums share no node
abbrev pub splits_answer : List Name → ℕ → Shown → Answer
splits_answer names budget (together log size) = record { status = No; text = codes "splits no\n" }
splits_answer names budget (apart p) = record { status = Yes; text = with_pair (codes "splits yes\n") names p }
splits_answer names budget (spent log size) = record { status = Unknown; text = counted (codes "splits unknown") budget }

-- what the line of the number of sets begins with, and the line of a spent budget
abbrev pub list_word : Kind → Text
list_word listed.Quorum = codes "quorums"
list_word listed.Blocking = codes "blocking"
list_word listed.Smaller = codes "least"

abbrev pub unknown_word : Kind → Text
unknown_word listed.Quorum = codes "quorums unknown"
unknown_word listed.Blocking = codes "blocking unknown"
unknown_word listed.Smaller = codes "least unknown"

-- all minimal sets of a kind
abbrev pub list_answer : Kind → List Name → ℕ → ListOutcome → Answer
list_answer sought names budget (whole sets journal) = record { status = Yes; text = with_sets (list_word sought) names sets.items }
list_answer sought names budget (part journal) = record { status = Unknown; text = counted (unknown_word sought) budget }

-- each listed set has a place for each of n nodes
abbrev pub HasSets : ℕ → ListOutcome → Type 0
HasSets n (whole sets journal) = All (λ s. length s ≡ n) sets.items
HasSets n (part journal) = Unit {0}

-- ---- a smallest quorum

-- its nodes, or that there is none, or that the budget is spent
abbrev pub least_answer : List Name → ℕ → LeastOutcome → Answer
least_answer names budget (found_least.Least set journal) = record { status = Yes; text = smallest_if_any names (Some set) }
least_answer names budget (found_least.NoQuorum journal) = record { status = Yes; text = smallest_if_any names None }
least_answer names budget (found_least.Spent journal) = record { status = Unknown; text = counted (unknown_word listed.Smaller) budget }

-- the set has a place for each of n nodes
abbrev pub HasPlaces : ℕ → LeastOutcome → Type 0
HasPlaces n (found_least.Least set journal) = length set ≡ n
HasPlaces n (found_least.NoQuorum journal) = Unit {0}
HasPlaces n (found_least.Spent journal) = Unit {0}

-- ---- the minimal blocking sets of organisations

-- how many there are and the texts of each one's groups, or that the budget is spent
abbrev pub group_answer : List Name → ℕ → GroupOutcome → Answer
group_answer texts budget (found_groups.Whole sets journal) = record { status = Yes; text = with_sets (codes "org-blocking") texts sets.items }
group_answer texts budget (found_groups.Spent journal) = record { status = Unknown; text = counted (codes "org-blocking unknown") budget }

-- each listed set has a place for each of n groups
abbrev pub HasGroupSets : ℕ → GroupOutcome → Type 0
HasGroupSets n (found_groups.Whole sets journal) = All (λ s. length s ≡ n) sets.items
HasGroupSets n (found_groups.Spent journal) = Unit {0}

-- ---- a dispensable set

-- no where either is no, yes where both are yes, else unknown
abbrev pub dset_status : Bool → Status → Status
dset_status false status = No
dset_status true status = status

abbrev pub dset_line : Status → Text
dset_line Yes = codes "dset yes\n"
dset_line No = codes "dset no\n"
dset_line status = codes "dset unknown\n"

-- the lines of both answers, and what follows
abbrev pub dset_answer : List Name → Bool → Table → Answer → Answer
dset_answer names available unmet answer = record {
  status = dset_status available answer.status;
  text = available_lines names available unmet ++ (answer.text ++ dset_line (dset_status available answer.status));
}

-- whether the others are available despite the set, and which of them are then unmet
pub record IsAvailability (f : System) (set : Table) (available : Bool) (unmet : Table) : Type 0 where
  pub is : IsTrue available ↔ Available f.sets (members set)
  pub places : length unmet ≡ length f.sets
  pub are : AreUnmet f.sets (members set) (members unmet)

pub record RepliesDset (f : System) (set : Table) (budget : ℕ) (found : Shown) (a : Answer) : Type 0 where
  pub available : Bool
  pub unmet : Table
  pub is : IsAvailability f set available unmet
  pub said : a ≡ dset_answer f.names available unmet (intersect_answer f.names budget found)

-- ---- a trial

-- how large it is: an organisation has three nodes
abbrev pub size_lines : System → Size → Text
size_lines f size = trial_size (length f.names / 3) (length f.names) size.vars size.clauses

-- how large the formula is, by what was found: where two quorums are apart there is no size
abbrev pub HasSize : Shown → Size → Type 0
HasSize (together log size) s = s ≡ size
HasSize (apart p) s = ⊥
HasSize (spent log size) s = s ≡ size

-- how large it is, and whether every two quorums share a node, which is never no
pub record RepliesTrial (f : System) (budget : ℕ) (found : Shown) (a : Answer) : Type 0 where
  pub size : Size
  pub has : HasSize found size
  pub said : a ≡ record (intersect_answer f.names budget found) { text = size_lines f size ++ (intersect_answer f.names budget found).text }

-- ---- a formula that is too large

-- the formula of the version has too many variables
abbrev pub IsLarge : Version → System → Table → Type 0
IsLarge version f deleted = MOST_VARS < formula_vars version f.sets deleted (greatest_of f.sets deleted)

abbrev pub too_large_answer : ℕ → Answer
too_large_answer n = record { status = TooLarge; text = too_large n }
