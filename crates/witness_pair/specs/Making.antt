-- The pair of two sets by computing, with tables in place of sets.
use Rattle.std.specs.Prelude.{ℕ, ◌+◌, [], ◌∷◌, true, false, ◌&&◌, nat_lt, Option, Some, None, unwrap_or, Result, Ok, Err, if◌then◌else◌}
use Rattle.fbas_model.specs.Nodes.{Table}
use Rattle.fbas_model.specs.Fbas.{Fbas}
use Rattle.fbas_model.specs.Counting.{is_quorum}
use Rattle.witness_pair.specs.declared.Pair.{Pair}
use Rattle.witness_pair.specs.declared.Side.TheVariants.{First, Second}
use Rattle.witness_pair.specs.declared.PairFault.{PairFault}
use Rattle.witness_pair.specs.declared.PairFault.TheVariants.{NotQuorum, Overlap}

-- the nodes of both
abbrev pub shared : Table → Table → Table
shared (u ∷ us) (w ∷ ws) = (u && w) ∷ shared us ws
shared us ws = []

-- the least node of a table whose first place is that of the node v
abbrev pub least_from : ℕ → Table → Option ℕ
least_from v [] = None
least_from v (true ∷ ms) = Some v
least_from v (false ∷ ms) = least_from (v + 1) ms

abbrev pub least : Table → Option ℕ
least u = least_from 0 u

-- the set with the least node comes first
abbrev pub pair_of : Table → Table → Pair
pair_of u w = if nat_lt (unwrap_or (least w) 0) (unwrap_or (least u) 0)
    then record { first = w; second = u } else record { first = u; second = w }

-- the pair, where no node is shared
abbrev pub pair_unless : Option ℕ → Pair → Result Pair PairFault
pair_unless None p = Ok p
pair_unless (Some v) p = Err (Overlap v)

-- what is made of u and w once b is deleted
abbrev pub made : Fbas → Table → Table → Table → Result Pair PairFault
made f b u w = if is_quorum f b u
    then (if is_quorum f b w then pair_unless (least (shared u w)) (pair_of u w) else Err (NotQuorum Second))
    else Err (NotQuorum First)
