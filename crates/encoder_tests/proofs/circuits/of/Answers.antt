use Rattle.fbas_model.proofs.Lists.{below_lists}
use Rattle.encoder_tests.proofs.circuits.of.Goals as goal

pub returns : goal.returns
returns c =
    below_lists 3 c.in_ok-validators.validators.items c.args.inner.items (rw c.in_ok-validators.ensures.items c.requires.nodes) c.requires.inner
