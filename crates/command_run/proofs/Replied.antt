-- A reply of a search is a yes, a no or an unknown, and what is found has a place for each node.
use Rattle.std.proofs.Common.{◌≡◌, ◌⊎◌, ℕ, inl, inr, IsTrue, Bool, true, false, List, Contains, length, refl, sym, subst, ◌∙◌}
use Rattle.std.proofs.lemmas.List.{length-map}
use Rattle.std.proofs.lemmas.List.Elements.{All-weaker, All-contains_itself}
use Rattle.fbas_model.specs.Names.{Name}
use Rattle.fbas_model.specs.Fbas.{Fbas, Intersects}
use Rattle.fbas_model.specs.Nodes.{Table, members}
use Rattle.fbas_model.specs.Systems.{System}
use Rattle.quorum_questions.specs.Evidence.{Shows}
use Rattle.quorum_questions.specs.declared.answers.Answer.{Answer as Shown}
use Rattle.quorum_questions.specs.declared.answers.Answer.TheVariants.{Yes as together, No as apart, Spent as spent}
use Rattle.witness_pair.specs.declared.Pair.{Pair}
use Rattle.cert_writer.specs.Finding.{CanBeWritten}
use Rattle.cli_words.specs.declared.orders.Goal.{Goal}
use Rattle.cli_words.specs.declared.orders.Goal.TheVariants.{Intersect, Dset, Splits, Blocking, Trial, Quorums, Least, OrgBlocking}
use Rattle.enumeration_journal.specs.declared.kinds.Listed.{Listed as Kind}
use Rattle.enumeration_journal.specs.declared.kinds.Listed.TheVariants as listed
use Rattle.least_quorum.specs.Outcomes.{LeastOutcomeHolds}
use Rattle.least_quorum.specs.declared.outcome.LeastOutcome.{LeastOutcome}
use Rattle.least_quorum.specs.declared.outcome.LeastOutcome.TheVariants as found_least
use Rattle.blocking_lists.specs.Outcomes.{OutcomeHolds}
use Rattle.blocking_lists.specs.declared.outcome.ListOutcome.{ListOutcome}
use Rattle.blocking_lists.specs.declared.outcome.ListOutcome.TheVariants.{Whole as whole_list, Spent as part_of_list}
use Rattle.node_json.specs.Groups.{Group, tables_of, texts_of}
use Rattle.group_lists.specs.Outcomes.{GroupOutcomeHolds}
use Rattle.group_lists.specs.declared.outcome.GroupOutcome.{GroupOutcome}
use Rattle.group_lists.specs.declared.outcome.GroupOutcome.TheVariants as found_groups
use Rattle.request_reading.specs.Status.{is_answer}
use Rattle.request_reading.specs.declared.reply.Reply.{Reply as Answer}
use Rattle.request_reading.specs.declared.status.Status.{Status}
use Rattle.request_reading.specs.declared.status.Status.TheVariants.{Yes, No, Unknown, TooLarge, WriteFault, Memory}
use Rattle.command_run.specs.Meanings.{meaning_of}
use Rattle.command_run.specs.Replies.{intersect_answer, splits_answer, dset_status, list_answer, least_answer, group_answer, HasSets, HasPlaces, HasGroupSets}

-- ---- the status

-- a yes, a no or an unknown
abbrev pub IsTold : Status → Type 0
IsTold status = (status ≡ Yes) ⊎ ((status ≡ No) ⊎ (status ≡ Unknown))

abbrev HasTold : Answer → Type 0
HasTold a = IsTold a.status

intersect_told : (names : List Name) (budget : ℕ) (found : Shown) → IsTold (intersect_answer names budget found).status
intersect_told names budget (together log size) = inl refl
intersect_told names budget (apart p) = inr (inl refl)
intersect_told names budget (spent log size) = inr (inr refl)

splits_told : (names : List Name) (budget : ℕ) (found : Shown) → IsTold (splits_answer names budget found).status
splits_told names budget (together log size) = inr (inl refl)
splits_told names budget (apart p) = inl refl
splits_told names budget (spent log size) = inr (inr refl)

dset_told : (names : List Name) (budget : ℕ) (available : Bool) (found : Shown) → IsTold (dset_status available (intersect_answer names budget found).status)
dset_told names budget false found = inr (inl refl)
dset_told names budget true found = intersect_told names budget found

list_told : (sought : Kind) (names : List Name) (budget : ℕ) (found : ListOutcome) → IsTold (list_answer sought names budget found).status
list_told sought names budget (whole_list sets journal) = inl refl
list_told sought names budget (part_of_list journal) = inr (inr refl)

least_told : (names : List Name) (budget : ℕ) (found : LeastOutcome) → IsTold (least_answer names budget found).status
least_told names budget (found_least.Least set journal) = inl refl
least_told names budget (found_least.NoQuorum journal) = inl refl
least_told names budget (found_least.Spent journal) = inr (inr refl)

groups_told : (texts : List Name) (budget : ℕ) (found : GroupOutcome) → IsTold (group_answer texts budget found).status
groups_told texts budget (found_groups.Whole sets journal) = inl refl
groups_told texts budget (found_groups.Spent journal) = inr (inr refl)

pub reply_told : (goal : Goal) (f : System) (deleted : Table) (budget : ℕ) (found : (meaning_of goal).Finding) (a : Answer) → (meaning_of goal).Replies f deleted budget found a → IsTold a.status
reply_told Intersect f deleted budget found a is = subst HasTold (sym is) (intersect_told f.names budget found)
reply_told Splits f deleted budget found a is = subst HasTold (sym is) (splits_told f.names budget found)
reply_told Dset f deleted budget found a is = subst HasTold (sym is.said) (dset_told f.names budget is.available found)
reply_told Trial f deleted budget found a is = subst HasTold (sym is.said) (intersect_told f.names budget found)
reply_told Blocking f deleted budget found a is = subst HasTold (sym is) (list_told listed.Blocking f.names budget found)
reply_told Quorums f deleted budget found a is = subst HasTold (sym is) (list_told listed.Quorum f.names budget found)
reply_told Least f deleted budget found a is = subst HasTold (sym is) (least_told f.names budget found.outcome)
reply_told OrgBlocking f deleted budget found a is = subst HasTold (sym is) (groups_told (texts_of found.groups) budget found.outcome)

-- such a status is that of an answer, and no other
pub told_is : (status : Status) → IsTold status → IsTrue (is_answer status)
told_is status (inl e) = subst (λ (x : Status). IsTrue (is_answer x)) (sym e) refl
told_is status (inr (inl e)) = subst (λ (x : Status). IsTrue (is_answer x)) (sym e) refl
told_is status (inr (inr e)) = subst (λ (x : Status). IsTrue (is_answer x)) (sym e) refl

pub told_small : (status : Status) → IsTold status → status ≡ TooLarge → ⊥
told_small status (inl e) large = cc
told_small status (inr (inl e)) large = cc
told_small status (inr (inr e)) large = cc

pub told_whole : (status : Status) → IsTold status → status ≡ WriteFault → ⊥
told_whole status (inl e) failed = cc
told_whole status (inr (inl e)) failed = cc
told_whole status (inr (inr e)) failed = cc

pub told_held : (status : Status) → IsTold status → status ≡ Memory → ⊥
told_held status (inl e) wanting = cc
told_held status (inr (inl e)) wanting = cc
told_held status (inr (inr e)) wanting = cc

-- ---- what is found has a place for each node

-- what an answer shows can be written
pub answer_sized : (f : Fbas) (b : Table) (budget : ℕ) (found : Shown) → Shows f b budget found → CanBeWritten (length f) found
answer_sized f b budget (together log size) shows = shows.run.numbers
answer_sized f b budget (apart p) shows = (shows.first, shows.second)
answer_sized f b budget (spent log size) shows = shows.run.numbers

-- the sets of a list have a place for each node
pub list_sized : (sought : Kind) (f : Fbas) (b : Table) (units left : ℕ) (found : ListOutcome) → OutcomeHolds sought f b units left found → HasSets (length f) found
list_sized sought f b units left (whole_list sets journal) holds =
    All-weaker (Contains sets.items) (λ s. length s ≡ length f) (λ s there. ((holds.list.exact s).0 there).0) sets.items (All-contains_itself sets.items)
list_sized sought f b units left (part_of_list journal) holds = tt

-- the sets of a list over groups have a place for each of them
pub groups_sized : (f : Fbas) (b : Table) (groups : List Group) (units left : ℕ) (found : GroupOutcome) → GroupOutcomeHolds f b (tables_of groups) units left found → HasGroupSets (length groups) found
groups_sized f b groups units left (found_groups.Whole sets journal) holds =
    All-weaker (Contains sets.items) (λ s. length s ≡ length groups) (λ s there. ((holds.list.exact s).0 there).places ∙ length-map groups (λ group. group.members)) sets.items (All-contains_itself sets.items)
groups_sized f b groups units left (found_groups.Spent journal) holds = tt

-- a smallest quorum has a place for each node
pub least_sized : (f : Fbas) (b : Table) (units left : ℕ) (found : LeastOutcome) → LeastOutcomeHolds f b units left found → HasPlaces (length f) found
least_sized f b units left (found_least.Least set journal) holds = holds.least.places
least_sized f b units left (found_least.NoQuorum journal) holds = tt
least_sized f b units left (found_least.Spent journal) holds = tt

-- where every two quorums share a node, none are found apart
pub found_together : (f : Fbas) (b : Table) (budget : ℕ) (found : Shown) → Intersects f (members b) → Shows f b budget found → (p : Pair) → found ≡ apart p → ⊥
found_together f b budget found meets shows p is =
    let pair = (subst (Shows f b budget) is shows).apart in
    pair.apart (meets (members p.first) (members p.second) pair.first pair.second)
