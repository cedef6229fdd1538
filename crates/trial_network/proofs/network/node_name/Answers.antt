use Rattle.std.proofs.Common.{◌∙◌, refl}
use Rattle.std.proofs.lemmas.Result.{IfOk-weaker}
use Rattle.trial_network.specs.Trial.{node_name}
use Rattle.trial_network.proofs.network.node_name.Goals as goal

pub returns : goal.returns
unfolding node_name
returns c = IfOk-weaker c.from_slice.result _ _ (λ name items. items ∙ rw (c.digit.ensures, c.digit-2.ensures, c.digit-3.ensures) refl) c.from_slice.ensures.items
