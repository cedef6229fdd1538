use Rattle.std.proofs.Common.{List, ap}
use Rattle.fbas_model.specs.Nodes.{Table}
use Rattle.reach_kinds.specs.declared.places.Reached.TheVariants.{OrgBlocking}
use Rattle.reach_kinds.proofs.group_steps.group_whole.Goals as goal

pub returns : goal.returns
returns c = ap (λ (sets : List Table). OrgBlocking c.args.over.groups sets) (c.ordered.ensures c.requires.0 c.requires.1)
