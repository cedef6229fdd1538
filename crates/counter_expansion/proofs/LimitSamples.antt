-- The limit as a number: another number in the code is another promise, and is refused here.
use Rattle.std.proofs.Common.{◌≡◌, refl}
use Rattle.counter_expansion.specs.declared.kinds.TheConstants.{END_OF_VARIABLES}

end_of_variables : END_OF_VARIABLES ≡ 2147483648
end_of_variables = refl
