-- The sets of a list that have no proper subset there.
use Rattle.std.specs.Prelude.{◌&&◌, Bool, true, false, not, List, [], ◌∷◌, filter, Contains}
use Rattle.std.specs.List.{list_any}
use Rattle.fbas_model.specs.Nodes.{Table, members, ◌⊆◌}
use Rattle.enumeration_journal.specs.Tests.{is_within}

-- one of the sets, and each of them that lies in it is it
abbrev pub IsMinimalAmong : List Table → Table → Type 0
IsMinimalAmong sets s = Contains sets s × ((t : Table) → Contains sets t → members t ⊆ members s → members s ⊆ members t)

-- ---- by computing

-- t is a proper subset of s
abbrev pub is_proper_part : Table → Table → Bool
is_proper_part s t = is_within t s && not (is_within s t)

-- some set of the list is
abbrev pub has_proper_part : List Table → Table → Bool
has_proper_part sets s = list_any (is_proper_part s) sets

abbrev pub minimal_among : List Table → List Table
minimal_among sets = filter (λ s. not (has_proper_part sets s)) sets

-- the set, or none
abbrev pub kept_if : Bool → Table → List Table
kept_if true s = s ∷ []
kept_if false s = []
