use Rattle.std.proofs.Common.{sym, ◌∙◌}
use Rattle.node_json.specs.Groups.{tables_of}
use Rattle.cert_writer.specs.Grouping.{GroupsShow}
use Rattle.command_run.proofs.Over.{there_asked}
use Rattle.command_run.proofs.commands.OrgBlockingFoundFound.write.Goals as goal

pub write_groups-requires-clause-found : goal.write_groups-requires-clause-found
write_groups-requires-clause-found g c =
    let over = c.args.over.now in
    let budget = over.search.now.budget in
    let x = c.args.self.now in
    c.what_is_grouped_is_found.ensures.written over.part.now over.faulty.now x.groups budget x.outcome (sym c.len.ensures.names ∙ c.len.ensures.sets) (there_asked over (λ f b. GroupsShow f.sets b (tables_of x.groups) budget x.outcome) c.requires.over c.requires.found.0.shows)
