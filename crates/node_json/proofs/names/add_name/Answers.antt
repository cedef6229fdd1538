use Rattle.std.proofs.Common.{ap, not, ◌∙◌}
use Rattle.node_json.proofs.NameSets.{contains-names, more_names}
use Rattle.node_json.proofs.names.add_name.Goals as goal

pub returns-clause-new : goal.returns-clause-new
returns-clause-new c = c.in_ok-insert.ensures.added ∙ ap not (contains-names c.args.name c.args.names.now.keys)

pub returns-clause-added : goal.returns-clause-added
returns-clause-added c = more_names c.args.names.now.keys _ c.args.name c.in_ok-insert.ensures.keys
