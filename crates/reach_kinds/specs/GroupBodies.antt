-- The bodies of certificates of organisations: the minimal blocking sets of groups of the nodes of a part.
use Rattle.std.specs.Prelude.{ℕ, ◌+◌, List, [], Bool, not, ◌&&◌, nat_lt, Option, Some, None, ok_or, Result, Ok, Err, codes, if◌then◌else◌}
use Rattle.std.specs.Str.{bytes_eq}
use Rattle.fbas_model.specs.Nodes.{Table, members, size}
use Rattle.fbas_model.specs.Counting.{is_quorum}
use Rattle.fbas_model.specs.Names.{Name}
use Rattle.fbas_model.specs.Systems.{System}
use Rattle.fbas_model.specs.Restriction.{kept}
use Rattle.node_json.specs.Groups.{Group, groups_of, tables_of, texts_of}
use Rattle.node_json.specs.Organisations.{Org}
use Rattle.lrat_model.specs.Clauses.{with_clause}
use Rattle.lrat_model.specs.Steps.{ProofStep, after_step, progress_of}
use Rattle.lrat_model.specs.Rules.{step_fault_by}
use Rattle.lrat_model.specs.declared.step.StepFault.{StepFault}
use Rattle.lrat_model.specs.declared.step.StepFault.TheVariants.{IdOrder}
use Rattle.lrat_model.specs.declared.step.Progress.{Progress}
use Rattle.lrat_model.specs.declared.step.Progress.TheVariants.{Going as going, Refuted}
use Rattle.lrat_checker.specs.Checking.{Checking}
use Rattle.lrat_text.specs.Lines.{step_in}
use Rattle.enumeration_journal.specs.Journals.{Rules, nothing_held}
use Rattle.enumeration_journal.specs.Order.{ordered}
use Rattle.enumeration_journal.specs.declared.kinds.ListKind.{ListKind}
use Rattle.enumeration_journal.specs.declared.kinds.ListKind.TheVariants.{Whole, Partial as Part}
use Rattle.enumeration_journal.specs.declared.kinds.Listed.{Listed}
use Rattle.enumeration_journal.specs.declared.kinds.Listed.TheVariants as listed
use Rattle.group_journal.specs.Groups.{touching}
use Rattle.group_journal.specs.Rules.{group_list_of}
use Rattle.group_journal.specs.Tests.{is_group_block, is_least_block}
use Rattle.cert_lines.specs.Limits.{unless}
use Rattle.cert_lines.specs.Words.{words_of}
use Rattle.cert_lines.specs.Saying.{or_bad_line}
use Rattle.cert_lines.specs.declared.faults.CertError.{CertError}
use Rattle.cert_lines.specs.declared.faults.CertError.TheVariants.{BadLine, NotQuorum, NotBlocking, NotMinimal, Step, NotNew, NotRefuted}
use Rattle.reach_kinds.specs.Bodies.{and_then, nodes_of, within, holding, is_covered, adds_covered, counted, list_part, list_checking, listed_by, Numbered, numbered_in, with_sought, literal_in, asks_steps, unless_refused}
use Rattle.reach_kinds.specs.declared.places.Reached.TheVariants.{OrgBlocking, Partial}
use Rattle.reach_kinds.specs.declared.kinds.ReachKind.TheVariants.{Groups}
use Rattle.reach_kinds.specs.declared.places.ListPart.{ListPart}
use Rattle.reach_kinds.specs.declared.places.GroupPart.{GroupPart}
use Rattle.reach_kinds.specs.declared.places.GroupListing.{GroupListing}
use Rattle.reach_kinds.specs.declared.places.ReachPlace.{ReachPlace}
use Rattle.reach_kinds.specs.declared.places.ReachPlace.TheVariants.{AtGroups, AtEnd}
use Rattle.reach_kinds.specs.declared.places.ReachState.{ReachState}
use Rattle.reach_kinds.specs.declared.places.ReachState.TheVariants.{Going, Done}

-- ---- the part

-- a part with its groups, and which of them have a member in its greatest quorum
abbrev pub grouped_part : ListPart → List Group → GroupPart
grouped_part p groups = record { part = p; groups = groups; touched = touching (tables_of groups) p.greatest }

-- the part of the nodes, with the groups of these organisations of the whole system
abbrev pub group_part : System → Table → Table → List Org → GroupPart
group_part f nodes faulty orgs = grouped_part (list_part f nodes faulty) (groups_of f.names (kept nodes f.names) orgs)

-- the rules of a list of all minimal blocking sets of the groups
abbrev pub rules_over : GroupPart → Rules
rules_over p = group_list_of p.part.system.sets (members p.part.faulty) p.part.greatest (tables_of p.groups)

-- a list with what its checker holds, the sets and the units
abbrev pub group_listing_on : ListKind → GroupPart → Checking → List Table → ℕ → GroupListing
group_listing_on kind p checker sets units = record { kind = kind; over = p; checker = checker; sets = sets; units = units }

-- before the first line: nothing is held, and each group with a member in the greatest quorum has a variable
abbrev pub no_group_listing : ListKind → GroupPart → GroupListing
no_group_listing kind p = group_listing_on kind p (list_checking (size p.touched) nothing_held) [] 0

abbrev pub groups_begin : System → ListKind → Table → Table → List Org → ReachPlace
groups_begin f kind nodes faulty orgs = AtGroups (no_group_listing kind (group_part f nodes faulty orgs))

-- ---- listed sets

-- a quorum, by its nodes' numbers in the part
abbrev pub quorum_in : GroupPart → ℕ → Table → Result Table CertError
quorum_in p l u = unless (NotQuorum l) (is_quorum p.part.system.sets p.part.faulty u) (Ok u)

-- a set of groups that blocks, with no group to spare
abbrev pub block_in : GroupPart → ℕ → Table → Result Table CertError
block_in p l s =
    unless (NotBlocking l) (is_group_block p.part.system.sets p.part.faulty (tables_of p.groups) s)
    (unless (NotMinimal l) (is_least_block p.part.system.sets p.part.faulty (tables_of p.groups) s) (Ok s))

-- the groups of the texts, each of which has a variable
abbrev pub groups_by_text : GroupPart → ℕ → List Name → Result Table CertError
groups_by_text p l texts = and_then (within p.touched l) (nodes_of (texts_of p.groups) l texts)

-- the set that a line names, where it is what it is listed for: a quorum by its nodes, a blocking set by its groups
abbrev pub listed_set : System → Table → GroupPart → ℕ → Listed → List Name → Result Table CertError
listed_set f nodes p l listed.Quorum names = and_then (λ u. quorum_in p l (kept nodes u)) (and_then (within nodes l) (nodes_of f.names l names))
listed_set f nodes p l listed.Blocking texts = and_then (block_in p l) (groups_by_text p l texts)
listed_set f nodes p l listed.Smaller names = Err (BadLine l)

-- the set's clause had to be new and is not
abbrev pub is_old_group_set : GroupListing → Listed → ℕ → Table → Bool
is_old_group_set k which id s = (rules_over k.over).asks k.kind which && is_covered k.checker.database.held id ((rules_over k.over).clause which s)

-- the list with a set
abbrev pub with_group_set : GroupListing → Listed → ℕ → Table → GroupListing
with_group_set k which id s =
    group_listing_on k.kind k.over (holding k.checker (record { held = with_clause k.checker.database.held id ((rules_over k.over).clause which s); last = id })) (with_sought listed.Blocking k.sets which s) (k.units + 1)

-- the set listed under an id
abbrev pub list_group_set : GroupListing → ℕ → Listed → ℕ → Table → Result ReachState CertError
list_group_set k l which id s = unless (NotNew l) (not (is_old_group_set k which id s)) (Ok (Going (AtGroups (with_group_set k which id s))))

-- an id above the last one, and names of nodes of the part, or texts of groups that have a variable
abbrev pub group_set_line : System → Table → GroupListing → ℕ → Listed → Numbered → Result ReachState CertError
group_set_line f nodes k l which n =
    unless (Step l (IdOrder k.checker.database.last n.id)) (nat_lt k.checker.database.last n.id)
    (and_then (list_group_set k l which n.id) (listed_set f nodes k.over l which n.names))

-- ---- steps

-- a part's step has to be new and is not
abbrev pub is_old_group_step : GroupListing → ProofStep → Bool
is_old_group_step k step = asks_steps k.kind && adds_covered k.checker.database.held step

-- the list after a step
abbrev pub with_group_step : GroupListing → ProofStep → GroupListing
with_group_step k step = group_listing_on k.kind k.over (holding k.checker (after_step k.checker.database step)) k.sets (counted k.units step)

-- the next line after a step: `end` where it was the empty lemma
abbrev pub after_group_step : GroupListing → Progress → ReachState
after_group_step k going = Going (AtGroups k)
after_group_step k Refuted = Going (AtEnd (OrgBlocking k.over.groups (ordered k.sets)))

-- what is so after a step, if it has no fault and is as new as the kind asks
abbrev pub group_step_unless : ℕ → GroupListing → ProofStep → Option StepFault → Result ReachState CertError
group_step_unless l k step fault = unless_refused l (is_old_group_step k step) fault (Ok (after_group_step (with_group_step k step) (progress_of step)))

abbrev pub group_step : GroupListing → ℕ → ProofStep → Result ReachState CertError
group_step k l step = group_step_unless l k step (step_fault_by k.checker.rule k.checker.vars k.checker.database step)

-- ---- lines

-- the end of a list: a whole one does not end before the empty lemma
abbrev pub group_end : ListKind → GroupListing → ℕ → Result ReachState CertError
group_end Whole k l = Err (NotRefuted l)
group_end Part k l = Ok (Done (Partial Groups k.units))

-- a listed set, or else a step
abbrev pub group_text : System → Table → GroupListing → ℕ → List ℕ → Option Listed → Result ReachState CertError
group_text f nodes k l text (Some which) = and_then (group_set_line f nodes k l which) (ok_or (numbered_in (words_of text)) (BadLine l))
group_text f nodes k l text None = and_then (group_step k l) (and_then (literal_in k.kind l) (or_bad_line l (step_in text)))

-- a line of a list, or its end
abbrev pub group_line : System → Table → GroupListing → ℕ → List ℕ → Result ReachState CertError
group_line f nodes k l text = if bytes_eq text (codes "end") then group_end k.kind k l else group_text f nodes k l text (listed_by listed.Blocking (words_of text))
