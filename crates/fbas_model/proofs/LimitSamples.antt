-- The limits as numbers: another number in the code is another promise, and is refused here.
use Rattle.std.proofs.Common.{◌≡◌, refl}
use Rattle.fbas_model.specs.declared.TheConstants.{MOST_NODES, MOST_KEY_BYTES, MOST_ENTRIES, MOST_LEVELS, MOST_ORGS}

most_nodes : MOST_NODES ≡ 16384
most_nodes = refl

most_key_bytes : MOST_KEY_BYTES ≡ 128
most_key_bytes = refl

most_entries : MOST_ENTRIES ≡ 1000000
most_entries = refl

most_levels : MOST_LEVELS ≡ 32
most_levels = refl

most_orgs : MOST_ORGS ≡ 4096
most_orgs = refl
