-- Whether a set is of a kind, and with no node to spare, by computing: by trying all sets of nodes.
use Rattle.std.specs.Prelude.{[], ◌∷◌, length, Bool, true, false, not, ◌&&◌, ◌||◌}
use Rattle.fbas_model.specs.Nodes.{Table}
use Rattle.fbas_model.specs.Fbas.{Fbas}
use Rattle.fbas_model.specs.Counting.{is_quorum}
use Rattle.greatest_quorum.specs.Greatest.{some_set}
use Rattle.enumeration_journal.specs.declared.kinds.Listed.{Listed}
use Rattle.enumeration_journal.specs.declared.kinds.Listed.TheVariants.{Quorum, Blocking, Smaller}

-- each node of the one is in the other
abbrev pub is_within : Table → Table → Bool
is_within [] t = true
is_within (m ∷ s) [] = not m && is_within s []
is_within (m ∷ s) (n ∷ t) = (not m || n) && is_within s t

-- they share a node
abbrev pub is_meeting : Table → Table → Bool
is_meeting [] t = false
is_meeting (m ∷ s) [] = false
is_meeting (m ∷ s) (n ∷ t) = (m && n) || is_meeting s t

-- s has no node of b, and no quorum lies outside it once b is deleted
abbrev pub is_blocking : Fbas → Table → Table → Bool
is_blocking f b s = not (is_meeting s b) && not (some_set (length f) (λ u. is_quorum f b u && not (is_meeting s u)))

abbrev pub is_kind : Listed → Fbas → Table → Table → Bool
is_kind Quorum f b u = is_quorum f b u
is_kind Blocking f b s = is_blocking f b s
is_kind Smaller f b u = false

-- no proper subset is of the kind
abbrev pub is_minimal : Listed → Fbas → Table → Table → Bool
is_minimal which f b s = not (some_set (length f) (λ t. is_within t s && (not (is_within s t) && is_kind which f b t)))
