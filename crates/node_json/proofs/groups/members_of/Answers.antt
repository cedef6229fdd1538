use Rattle.std.proofs.Common.{◌≡◌, None, Option, [], unwrap_or, sym, ap, ◌∙◌}
use Rattle.fbas_model.specs.Nodes.{Table}
use Rattle.fbas_model.proofs.Marks.{marks-none}
use Rattle.node_json.specs.Groups.{cut_by_name}
use Rattle.node_json.specs.Organisations.{members_under}
use Rattle.node_json.proofs.groups.members_of.Goals as goal

pub returns-in-None : goal.returns-in-None
returns-in-None c =
    let none : members_under c.args.orgs.now c.args.id.now ≡ None = sym c.in-None.ensures.value in
    marks-none c.args.kept.now c.new.result (c.new.ensures.size ∙ c.len.ensures) c.new.ensures.empty
    ∙ ap (λ (o : Option Table). cut_by_name c.args.names.now c.args.kept.now (unwrap_or o [])) (sym none)
