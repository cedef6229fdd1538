-- The limit as a number: another number in the code is another promise, and is refused here.
use Rattle.std.proofs.Common.{◌≡◌, refl}
use Rattle.trial_network.specs.declared.configuration.TheConstants.{MOST_ORGANISATIONS}

organisations : MOST_ORGANISATIONS ≡ 100
organisations = refl
