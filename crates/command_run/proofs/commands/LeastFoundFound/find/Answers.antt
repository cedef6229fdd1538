use Rattle.std.proofs.Common.{◌≡◌, ◌∙◌, ℕ, Err, ap, subst, arith}
use Rattle.fbas_model.specs.Nodes.{size}
use Rattle.greatest_quorum.specs.Greatest.{greatest_of}
use Rattle.least_quorum.specs.Outcomes.{LeastOutcomeHolds}
use Rattle.cert_writer.specs.Least.{LeastShows}
use Rattle.cli_words.specs.declared.orders.Goal.TheVariants.{Least}
use Rattle.command_run.specs.Sought.{request}
use Rattle.command_run.specs.Meanings.{AreTooMany, meaning_of}
use Rattle.command_run.proofs.Over.{asked_there}
use Rattle.command_run.proofs.commands.LeastFoundFound.find.Goals as goal

pub returns-in-Ok-clause-found : goal.returns-in-Ok-clause-found
returns-in-Ok-clause-found c =
    let over = c.args.over.now in
    let s = over.search.now in
    let fits = c.requires.over.fits in
    let outcome = c.in-Ok.outcome in
    let there = asked_there over (λ f b. LeastShows f.sets b s.budget outcome) c.requires.over (record {
      left = c.least.new.budget;
      holds = subst (λ (units : ℕ). LeastOutcomeHolds over.part.now.sets over.faulty.now units c.least.new.budget outcome) c.units_of-units.ensures.units c.in-Ok.ensures.outcome;
      numbers = c.in-Ok.ensures.numbers;
      few_words = c.in-Ok.ensures.few_words;
      small = c.in-Ok.ensures.small;
    }) in
    let counted = asked_there over (λ f b. c.count-nodes.result ≡ size (greatest_of f.sets b)) c.requires.over (c.count-nodes.ensures ∙ ap size c.greatest.ensures.counted) in
    ((counted, there), (c.what_is_least_is_found.ensures.found (request s) outcome c.len.ensures.system c.len.ensures.sorted fits.long fits.bytes fits.header fits.few there).accepted)

pub returns-in-Ok-clause-small : goal.returns-in-Ok-clause-small
returns-in-Ok-clause-small c = λ n many. let low = c.in-Ok.ensures.small in let same = many.0 in let high = many.1 in omega arith

pub returns-in-Err-TooLarge-clause-too_large : goal.returns-in-Err-TooLarge-clause-too_large
returns-in-Err-TooLarge-clause-too_large c = λ n is.
    let vars = c.in-Err-TooLarge.vars in
    let too = c.least.ensures.only_then vars (c.in-Err-TooLarge.is ∙ ap Err c.in-Err-TooLarge.field-0-is) in
    let same : vars ≡ n = cc in
    subst (λ (m : ℕ). AreTooMany (meaning_of Least).vars c.args.over.now.part.now c.args.over.now.faulty.now m) same too
