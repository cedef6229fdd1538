-- The bytes of a word, from some place on.
use Rattle.std.proofs.Common.{◌≡◌, ℕ, ◌+◌, ◌-◌, ◌≤◌, List, ◌∷◌, length, drop, ◌∙◌, ap, arith, slice_set, length-drop}
use Rattle.std.proofs.lemmas.List.{drop-set}

-- fewer bytes than all: the place before is there
pub room : (bytes : List ℕ) (at : ℕ) → length bytes ≡ 21 → length (drop at bytes) ≤ 20 → at ≤ 21 → 1 ≤ at
room bytes at l h b = omega (arith, length-drop at bytes)

pub minus_set : (bytes digits : List ℕ) (at : ℕ) → length bytes ≡ 21 → 1 ≤ at → at ≤ 21 → drop at bytes ≡ digits → drop (at - 1) (slice_set bytes (at - 1) 45) ≡ 45 ∷ digits
minus_set bytes digits at l one b e =
    let back : at - 1 + 1 ≡ at = omega arith in
    drop-set bytes (at - 1) 45 (omega arith) ∙ ap (λ (ds : List ℕ). 45 ∷ ds) (ap (λ k. drop k bytes) back ∙ e)
