-- How many variables a counter has, in closed form.
use Rattle.std.proofs.Common.{◌≡◌, ℕ, zero, suc, ◌+◌, ◌-◌, ◌*◌, ◌≤◌, ap, ◌∙◌, arith}
use Rattle.threshold_circuit.specs.Gates.{before_row}

rising_rows : (k i : ℕ) → i ≤ k → 2 * before_row k (suc i) ≡ i * (i + 1)
rising_rows k zero high = omega arith
rising_rows k (suc i) high = omega (arith, rising_rows k i (omega arith))

level_rows : (k m : ℕ) → before_row k (suc (k + m)) ≡ before_row k (suc k) + m * k
level_rows k zero = let at : k + 0 ≡ k = omega arith in rw at (omega arith)
level_rows k (suc m) =
    let at : k + suc m ≡ suc (k + m) = omega arith in
    rw at (omega (arith, level_rows k m))

-- k (k + 1) / 2 and k more for each input past the first k
pub counter_size : (k n : ℕ) → k ≤ n → 2 * before_row k (suc n) ≡ k * (k + 1) + 2 * ((n - k) * k)
counter_size k n low =
    let at : n ≡ k + (n - k) = omega arith in
    let whole : before_row k (suc n) ≡ before_row k (suc k) + (n - k) * k = ap (λ m. before_row k (suc m)) at ∙ level_rows k (n - k) in
    omega (arith, whole, rising_rows k k (omega arith))
