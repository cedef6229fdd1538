use Rattle.std.proofs.Common.{List, length, slice_get, Some, ap, ◌∙◌}
use Rattle.std.specs.Prelude.{◌-◌}
use Rattle.fbas_model.specs.Nodes.{Table}
use Rattle.reach_kinds.proofs.Falling.{last_at}
use Rattle.reach_kinds.proofs.list_steps.last_of.Goals as goal

pub returns-in-Some : goal.returns-in-Some
returns-in-Some c = ap Some c.copy.ensures ∙ c.in-Some.ensures.value ∙ ap (λ (ss : List Table). slice_get ss (length ss - 1)) c.as_slice.ensures ∙ last_at c.args.sets.now
