use Rattle.std.proofs.Common.{◌≡◌, true}
use Rattle.fbas_model.proofs.Lists.{below_lists}
use Rattle.fbas_tests.proofs.plain.with_inner.Goals as goal

pub returns : goal.returns
returns g c =
    let met : c.are_below.result ≡ true = cc in
    below_lists c.args.n c.in_ok-validators.validators.items c.args.inner.items (rw c.in_ok-validators.ensures.items (c.are_below.ensures.0 met)) c.requires
