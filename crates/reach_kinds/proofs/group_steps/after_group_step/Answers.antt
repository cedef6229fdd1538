use Rattle.std.proofs.Common.{ap}
use Rattle.reach_kinds.specs.declared.places.Reached.{Reached}
use Rattle.reach_kinds.specs.declared.places.ReachPlace.TheVariants.{AtEnd}
use Rattle.reach_kinds.specs.declared.places.ReachState.{ReachState}
use Rattle.reach_kinds.specs.declared.places.ReachState.TheVariants.{Going}
use Rattle.reach_kinds.proofs.group_steps.after_group_step.Goals as goal

pub returns-in-Refuted : goal.returns-in-Refuted
returns-in-Refuted c = rw c.in-Refuted.is (ap {B = ReachState} (λ (r : Reached). Going (AtEnd r)) c.group_whole.ensures)
