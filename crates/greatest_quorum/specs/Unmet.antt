-- The nodes by which availability fails, by counting.
use Rattle.std.specs.Prelude.{ℕ, ◌&&◌, not, length, Bool, None, slice_index_or}
use Rattle.fbas_model.specs.Nodes.{Table, members, ◌∖◌}
use Rattle.fbas_model.specs.Fbas.{Fbas, all_nodes}
use Rattle.fbas_model.specs.Counting.{is_satisfied_if_any, is_inhabited}
use Rattle.fbas_model.specs.Restriction.{table_from}

-- whether v is outside the set, and its quorum set is not satisfied by the nodes outside it
abbrev pub is_unmet : Fbas → Table → ℕ → Bool
is_unmet f s v = not (members s v) && not (is_satisfied_if_any (all_nodes f ∖ members s) (slice_index_or f v None))

-- the nodes outside the set that have no slice outside it
unfoldable pub unmet_of : Fbas → Table → Table
unmet_of f s = table_from 0 (length f) (is_unmet f s)

-- whether no node is unmet: whether there is availability despite the set
abbrev pub is_available : Fbas → Table → Bool
is_available f s = not (is_inhabited (unmet_of f s))
