use Rattle.std.proofs.Common.{◌≡◌, ℕ, List, ap, sym, subst, ◌∙◌, None}
use Rattle.std.specs.Prelude.{All}
use Rattle.fbas_model.specs.Nodes.{size, members}
use Rattle.greatest_quorum.specs.Greatest.{greatest_of}
use Rattle.lrat_model.specs.Runs.{formula_database}
use Rattle.lrat_model.specs.Steps.{ProofStep}
use Rattle.clause_encoder.specs.declared.encoder.EncodeError.TheVariants.{Memory}
use Rattle.clause_encoder.specs.NameCounter.{counter_vars, counter_of}
use Rattle.enumeration_journal.specs.Journals.{JournalLine}
use Rattle.enumeration_journal.specs.declared.kinds.Listed.TheVariants.{Smaller}
use Rattle.blocking_lists.specs.Lines.{ListLine, merged, listed_in, HasLineNumbers, HasFewWords}
use Rattle.blocking_lists.proofs.Merged.{numbers_merged}
use Rattle.least_journal.specs.Least.{last_of}
use Rattle.least_quorum.specs.Outcomes.{LeastOutcomeHolds, least_journal_of, whole_outcome}
use Rattle.least_quorum.specs.Search.{IsLeastListing}
use Rattle.least_quorum.specs.declared.outcome.LeastOutcome.TheVariants.{Spent}
use Rattle.least_quorum.proofs.Found.{of_verdict}
use Rattle.least_quorum.proofs.Listings.{least_start}
use Rattle.least_quorum.proofs.Shown.{least_whole, least_spent, least_words, whole_holds, same_journal}
use Rattle.least_quorum.proofs.smallest.least.Goals as goal

pub run-found-requires-clause-start : goal.run-found-requires-clause-start
run-found-requires-clause-start c =
    let f = c.args.system.now.sets in
    let b = members c.args.faulty.now in
    let g = c.greatest-greatest.result in
    let total = c.args.budget.now in
    subst (λ (ls : List ListLine). IsLeastListing f b g total total ls c.in-Ok.solver) (sym c.new-listed.ensures.items)
    (least_start f b g total c.in-Ok.solver (c.in-Ok.ensures.vars ∙ ap counter_vars c.count.ensures) (c.in-Ok.ensures.database ∙ ap (λ (n : ℕ). formula_database (counter_of n)) c.count.ensures) c.in-Ok.ensures.log)

pub returns-in-Ok-clause-outcome : goal.returns-in-Ok-clause-outcome
returns-in-Ok-clause-outcome c =
    let f = c.args.system.now.sets in
    let b = c.args.faulty.now in
    let g = c.greatest-greatest.result in
    let total = c.args.budget.now in
    let left = c.run-found.new.budget in
    let lines = c.run-found.new.listed.items in
    let log = c.run-found.new.solver.log in
    let journal = merged 0 lines c.into_log.result in
    let journal_is : journal ≡ merged 0 lines log = ap (λ (steps : List ProofStep). merged 0 lines steps) c.into_log.ensures.log in
    let answer = last_of None (listed_in Smaller lines) in
    of_verdict (LeastOutcomeHolds f b total left) (whole_outcome answer journal) (Spent journal) Memory c.run-found.result c.outcome_of.result c.outcome_of.ensures.whole c.outcome_of.ensures.spent c.outcome_of.ensures.err
    (λ is. whole_holds f b total left answer journal (least_whole f b g c.greatest-greatest.ensures.counted total left lines log journal c.requires.same_faulty journal_is (c.run-found.ensures.whole is)))
    (λ is. (
      c.run-found.ensures.spent is,
      least_spent f b g c.greatest-greatest.ensures.counted total left lines c.run-found.new.solver journal journal_is (c.run-found.ensures.spent is) (c.run-found.ensures.unclosed is) (c.run-found.ensures.wanted is) (c.run-found.ensures.part is),
    ))

pub returns-in-Ok-clause-numbers : goal.returns-in-Ok-clause-numbers
returns-in-Ok-clause-numbers c =
    let lines = c.run-found.new.listed.items in
    let journal = merged 0 lines c.into_log.result in
    let answer = last_of None (listed_in Smaller lines) in
    of_verdict (λ outcome. All HasLineNumbers (least_journal_of outcome)) (whole_outcome answer journal) (Spent journal) Memory c.run-found.result c.outcome_of.result c.outcome_of.ensures.whole c.outcome_of.ensures.spent c.outcome_of.ensures.err
    (λ is. subst (λ (ls : List JournalLine). All HasLineNumbers ls) (sym (same_journal answer journal)) (numbers_merged 0 lines c.into_log.result (c.run-found.ensures.whole is).ids c.into_log.ensures.numbers))
    (λ is. numbers_merged 0 lines c.into_log.result (c.run-found.ensures.part is).ids c.into_log.ensures.numbers)

pub returns-in-Ok-clause-few_words : goal.returns-in-Ok-clause-few_words
returns-in-Ok-clause-few_words c =
    let f = c.args.system.now.sets in
    let b = c.args.faulty.now in
    let g = c.greatest-greatest.result in
    let lines = c.run-found.new.listed.items in
    let log = c.run-found.new.solver.log in
    let journal = merged 0 lines c.into_log.result in
    let journal_is : journal ≡ merged 0 lines log = ap (λ (steps : List ProofStep). merged 0 lines steps) c.into_log.ensures.log in
    let answer = last_of None (listed_in Smaller lines) in
    let vars = counter_vars (size (greatest_of f b)) in
    of_verdict (λ outcome. All (HasFewWords vars) (least_journal_of outcome)) (whole_outcome answer journal) (Spent journal) Memory c.run-found.result c.outcome_of.result c.outcome_of.ensures.whole c.outcome_of.ensures.spent c.outcome_of.ensures.err
    (λ is. subst (λ (ls : List JournalLine). All (HasFewWords vars) ls) (sym (same_journal answer journal)) (least_words f b g c.greatest-greatest.ensures.counted lines log journal journal_is (c.run-found.ensures.whole is).short.steps))
    (λ is. least_words f b g c.greatest-greatest.ensures.counted lines log journal journal_is (c.run-found.ensures.part is).short.steps)
