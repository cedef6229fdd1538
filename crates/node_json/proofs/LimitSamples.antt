-- The limit as a number: another number in the code is another promise, and is refused here.
use Rattle.std.proofs.Common.{◌≡◌, refl}
use Rattle.node_json.specs.declared.tree.TheConstants.{MOST_NESTED}

most_nested : MOST_NESTED ≡ 127
most_nested = refl
