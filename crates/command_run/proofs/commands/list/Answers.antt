use Rattle.std.proofs.Common.{ℕ, subst}
use Rattle.blocking_lists.specs.Outcomes.{OutcomeHolds}
use Rattle.enumeration_journal.specs.Kinds.{HasLists}
use Rattle.cert_writer.specs.Listing.{ListShows}
use Rattle.command_run.specs.Sought.{request}
use Rattle.command_run.proofs.Over.{asked_there}
use Rattle.command_run.proofs.commands.list.Goals as goal

pub list_all-requires-clause-kind : goal.list_all-requires-clause-kind
list_all-requires-clause-kind c = λ e. subst HasLists e c.requires.all

pub returns-clause-found : goal.returns-clause-found
returns-clause-found c =
    let s = c.args.over.now.search.now in
    let over = c.requires.over in
    let fits = over.fits in
    let found = c.in_ok-found.found in
    let there = asked_there c.args.over.now (λ f b. ListShows c.args.sought f.sets b s.budget found) over (record {
      lists = c.requires.all;
      left = c.list_all.new.budget;
      holds = subst (λ (units : ℕ). OutcomeHolds c.args.sought c.args.over.now.part.now.sets c.args.over.now.faulty.now units c.list_all.new.budget found) c.units_of-units.ensures.units c.in_ok-found.ensures.outcome;
      numbers = c.in_ok-found.ensures.numbers;
      few_words = c.in_ok-found.ensures.few_words;
    }) in
    (there, (c.what_is_listed_is_found.ensures.found c.args.sought (request s) found c.len.ensures.system c.len.ensures.sorted fits.long fits.bytes fits.header fits.few there).accepted)
