use Rattle.std.proofs.Common.{sym, ◌∙◌}
use Rattle.cert_writer.specs.Listing.{ListShows}
use Rattle.command_run.proofs.Over.{there_asked}
use Rattle.command_run.proofs.commands.write_sets.Goals as goal

pub write_list-requires-clause-found : goal.write_list-requires-clause-found
write_list-requires-clause-found g c =
    let over = c.args.over.now in
    let budget = over.search.now.budget in
    c.what_is_listed_is_found.ensures.written c.args.sought over.part.now over.faulty.now budget c.args.found.now (sym c.len.ensures.names ∙ c.len.ensures.sets) (there_asked over (λ f b. ListShows c.args.sought f.sets b budget c.args.found.now) c.requires.over c.requires.found.0)
