-- The counter of three names, and the most names of which there is one.
use Rattle.std.proofs.Common.{◌≡◌, [], ◌∷◌, refl}
use Rattle.lrat_model.specs.Literal.{Plus, Minus}
use Rattle.clause_encoder.specs.NameCounter.{counter_vars, counter_of}

of_three : counter_of 3 ≡ (Minus 1 ∷ Plus 4 ∷ [])
    ∷ (Minus 4 ∷ Plus 5 ∷ []) ∷ (Minus 2 ∷ Plus 5 ∷ []) ∷ (Minus 2 ∷ Minus 4 ∷ Plus 6 ∷ [])
    ∷ (Minus 5 ∷ Plus 7 ∷ []) ∷ (Minus 3 ∷ Plus 7 ∷ []) ∷ (Minus 6 ∷ Plus 8 ∷ []) ∷ (Minus 3 ∷ Minus 5 ∷ Plus 8 ∷ []) ∷ (Minus 3 ∷ Minus 6 ∷ Plus 9 ∷ []) ∷ []
of_three = refl

variables_of_three : counter_vars 3 ≡ 9
variables_of_three = refl

too_many : counter_vars 2827 ≡ 4000205
too_many = refl

still_few : counter_vars 2826 ≡ 3997377
still_few = refl
