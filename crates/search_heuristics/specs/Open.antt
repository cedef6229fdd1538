-- Variables that have no value yet.
use Rattle.std.specs.Prelude.{ℕ, suc, zero, ◌+◌, ◌||◌, List, if◌then◌else◌}
use Rattle.lrat_model.specs.Literal.{Literal, Plus, Minus, has}

-- how many of the first n variables have no value
abbrev pub open_count : List Literal → ℕ → ℕ
open_count trues zero = 0
open_count trues (suc n) = (if has trues (Plus (suc n)) || has trues (Minus (suc n)) then 0 else 1) + open_count trues n
