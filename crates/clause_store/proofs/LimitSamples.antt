-- The limit as a number: another number in the code is another promise, and is refused here.
use Rattle.std.proofs.Common.{◌≡◌, refl}
use Rattle.clause_store.specs.declared.guess.TheConstants.{MOST_ENTRIES}

most_entries : MOST_ENTRIES ≡ 1152921504606846976
most_entries = refl
