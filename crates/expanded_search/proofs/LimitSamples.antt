-- The limits as numbers: another number in the code is another promise, and is refused here.
use Rattle.std.proofs.Common.{◌≡◌, refl}
use Rattle.expanded_search.specs.declared.hints.TheConstants.{END_OF_IDS}
use Rattle.expanded_search.specs.declared.searching.TheConstants.{END_OF_WRITTEN_IDS}

end_of_ids : END_OF_IDS ≡ 4611686018427387904
end_of_ids = refl

end_of_written_ids : END_OF_WRITTEN_IDS ≡ 2305843009213693952
end_of_written_ids = refl
