-- The ids that RAT hints name.
use Rattle.std.specs.Prelude.{ℕ, suc, ◌==◌, Bool, false, List, [], ◌∷◌, ℤ, pos, negsuc, Option, Some, None}

-- the id that a RAT hint names, if it is one
abbrev pub group_id : ℤ → Option ℕ
group_id (pos id) = None
group_id (negsuc n) = Some (suc n)

-- whether the hint is a RAT hint for this id
abbrev pub names : ℤ → ℕ → Bool
names (pos k) id = false
names (negsuc n) id = suc n == id

-- the ids of the RAT hints
abbrev pub ids_in : List ℤ → List ℕ
ids_in [] = []
ids_in (pos id ∷ hints) = ids_in hints
ids_in (negsuc n ∷ hints) = suc n ∷ ids_in hints
