use Rattle.std.proofs.Common.{◌≡◌, List, length, ap, sym, ◌∙◌, subst, arith}
use Rattle.fbas_model.proofs.Closure.{size_le_length}
use Rattle.std.specs.Prelude.{All}
use Rattle.fbas_model.specs.Nodes.{size}
use Rattle.greatest_quorum.specs.Greatest.{greatest_of}
use Rattle.lrat_model.specs.Steps.{ProofStep}
use Rattle.blocking_lists.specs.Lines.{ListLine, merged, listed_in, HasLineNumbers, HasFewWords}
use Rattle.blocking_lists.specs.Search.{AreInNameOrder}
use Rattle.enumeration_journal.specs.declared.kinds.Listed.TheVariants.{Blocking}
use Rattle.node_json.specs.Groups.{tables_of}
use Rattle.group_journal.specs.Groups.{touching}
use Rattle.group_lists.specs.Outcomes.{GroupOutcomeHolds, group_journal_in}
use Rattle.group_lists.specs.Search.{IsGroupListing, IsWholeGroupListing}
use Rattle.group_lists.proofs.Listings.{group_start}
use Rattle.group_journal.proofs.Touched.{length-touching}
use Rattle.std.proofs.lemmas.List.{length-map}
use Rattle.node_json.specs.Groups as spec
use Rattle.group_lists.specs.declared.outcome.GroupOutcome.TheVariants.{Whole, Spent}
use Rattle.blocking_lists.proofs.Found.{of_found, of_outcome}
use Rattle.blocking_lists.proofs.Merged.{numbers_merged}
use Rattle.group_lists.proofs.Shown.{groups_whole, groups_spent, groups_few}
use Rattle.group_lists.proofs.listing.list_groups.Goals as goal

pub returns-in-Ok-clause-outcome : goal.returns-in-Ok-clause-outcome
returns-in-Ok-clause-outcome c =
    let f = c.args.system.now.sets in
    let b = c.args.faulty.now in
    let gs = tables_of c.args.groups.now in
    let lines = c.found_sets-found.new.listed.items in
    let log = c.found_sets-found.new.solver.log in
    let journal = merged 0 lines c.into_log.result in
    let journal_is : journal ≡ merged 0 lines log = ap (λ (steps : List ProofStep). merged 0 lines steps) c.into_log.ensures.log in
    of_outcome (GroupOutcomeHolds f b gs c.args.budget.now c.found_sets-found.new.budget) (λ sets. Whole sets journal) (Spent journal) c.found_sets-found.result c.outcome_of.result c.outcome_of.ensures.whole c.outcome_of.ensures.spent c.outcome_of.ensures.err
    (λ sets is.
    let found = of_found (λ sets. IsWholeGroupListing f b gs c.args.budget.now c.found_sets-found.new.budget lines log × AreInNameOrder (listed_in Blocking lines) sets.items) c.found_sets-found.result sets is c.found_sets-found.ensures.whole in
    groups_whole f b gs c.args.budget.now c.found_sets-found.new.budget lines log journal sets.items c.requires.same_faulty journal_is found.1.0 found.1.1 found.0)
    (λ is. (
      c.found_sets-found.ensures.spent is,
      groups_spent f b gs c.args.budget.now c.found_sets-found.new.budget lines c.found_sets-found.new.solver journal journal_is (c.found_sets-found.ensures.spent is) (c.found_sets-found.ensures.unclosed is) (c.found_sets-found.ensures.part is),
    ))

pub returns-in-Ok-clause-numbers : goal.returns-in-Ok-clause-numbers
returns-in-Ok-clause-numbers c =
    let f = c.args.system.now.sets in
    let b = c.args.faulty.now in
    let gs = tables_of c.args.groups.now in
    let lines = c.found_sets-found.new.listed.items in
    let log = c.found_sets-found.new.solver.log in
    let journal = merged 0 lines c.into_log.result in
    of_outcome (λ outcome. All HasLineNumbers (group_journal_in outcome)) (λ sets. Whole sets journal) (Spent journal) c.found_sets-found.result c.outcome_of.result c.outcome_of.ensures.whole c.outcome_of.ensures.spent c.outcome_of.ensures.err
    (λ sets is.
    let found = of_found (λ sets. IsWholeGroupListing f b gs c.args.budget.now c.found_sets-found.new.budget lines log × AreInNameOrder (listed_in Blocking lines) sets.items) c.found_sets-found.result sets is c.found_sets-found.ensures.whole in
    numbers_merged 0 lines c.into_log.result found.0.ids c.into_log.ensures.numbers)
    (λ is. numbers_merged 0 lines c.into_log.result (c.found_sets-found.ensures.part is).ids c.into_log.ensures.numbers)

pub returns-in-Ok-clause-few_words : goal.returns-in-Ok-clause-few_words
returns-in-Ok-clause-few_words c =
    let f = c.args.system.now.sets in
    let b = c.args.faulty.now in
    let gs = tables_of c.args.groups.now in
    let lines = c.found_sets-found.new.listed.items in
    let log = c.found_sets-found.new.solver.log in
    let journal = merged 0 lines c.into_log.result in
    let journal_is : journal ≡ merged 0 lines log = ap (λ (steps : List ProofStep). merged 0 lines steps) c.into_log.ensures.log in
    of_outcome (λ outcome. All (HasFewWords (size (touching gs (greatest_of f b)))) (group_journal_in outcome)) (λ sets. Whole sets journal) (Spent journal) c.found_sets-found.result c.outcome_of.result c.outcome_of.ensures.whole c.outcome_of.ensures.spent c.outcome_of.ensures.err
    (λ sets is.
    let found = of_found (λ sets. IsWholeGroupListing f b gs c.args.budget.now c.found_sets-found.new.budget lines log × AreInNameOrder (listed_in Blocking lines) sets.items) c.found_sets-found.result sets is c.found_sets-found.ensures.whole in
    groups_few f b gs lines log journal journal_is found.0.short.steps)
    (λ is. groups_few f b gs lines log journal journal_is (c.found_sets-found.ensures.part is).short.steps)

pub found_sets-found-requires-clause-ready : goal.found_sets-found-requires-clause-ready
found_sets-found-requires-clause-ready c = record {
  sized = c.requires.sized;
  same_faulty = c.requires.same_faulty;
  touched = c.touching-touched.ensures ∙ ap (touching (tables_of c.args.groups.now)) c.greatest-greatest.ensures.counted;
}

pub found_sets-found-requires-clause-start : goal.found_sets-found-requires-clause-start
found_sets-found-requires-clause-start c =
    let f = c.args.system.now.sets in
    let b = c.args.faulty.now in
    let gs = tables_of c.args.groups.now in
    let solver = c.in-Ok.solver in
    let touched : c.touching-touched.result ≡ touching gs (greatest_of f b) = c.touching-touched.ensures ∙ ap (touching gs) c.greatest-greatest.ensures.counted in
    subst (λ (ls : List ListLine). IsGroupListing f b gs c.args.budget.now c.args.budget.now ls solver) (sym c.new-listed.ensures.items)
    (group_start f b gs c.args.budget.now solver (c.in-Ok.ensures.vars ∙ c.count.ensures ∙ ap size touched) c.in-Ok.ensures.database.0 c.in-Ok.ensures.database.1 c.in-Ok.ensures.log)

pub solver_over-requires : goal.solver_over-requires
solver_over-requires c =
    let gs = tables_of c.args.groups.now in
    let t = c.touching-touched.result in
    let places : length t ≡ length gs = ap length c.touching-touched.ensures ∙ length-touching gs c.greatest-greatest.result in
    omega (arith, c.count.ensures, size_le_length t, places, length-map c.args.groups.now (λ (g : spec.Group). g.members), c.len-groups.ensures.count, c.len-groups.ensures.few)
