-- What is cut off a piece.
use Rattle.std.proofs.Common.{◌≡◌, ℕ, ◌+◌, ◌-◌, ◌<◌, ◌≤◌, List, ◌∷◌, ◌++◌, get_or, take, drop, slice_range, length-take, sym, ap, ◌∙◌, arith, suc, take-append-drop, Some, None}
use Rattle.std.proofs.lemmas.Bool.{eqb-true, eq-eqb}
use Rattle.std.proofs.Math.Seq.{drop-cons, take-take, drop-drop, get_or-take}
use Rattle.std.proofs.lemmas.List.{drop-take}
use Rattle.memchr.specs.Find.{IsFirstByte, is_byte}
use Rattle.cert_lines.specs.Parts.{IsFeedless}

module _ (xs : List ℕ) (at end place : ℕ) (within : at + place + 1 ≤ end) where
  pub part_is : slice_range xs at (at + place) ≡ take place (slice_range xs at end)
  part_is =
      let one : at + place - at ≡ place = omega arith in
      ap (λ (n : ℕ). take n (drop at xs)) one ∙ sym (take-take place (end - at) (drop at xs) (omega (arith, within)))

  pub rest_is : slice_range xs (at + place + 1) end ≡ drop (place + 1) (slice_range xs at end)
  rest_is =
      let whole : place + 1 + (end - (at + place + 1)) ≡ end - at = omega (arith, within) in
      let start : at + (place + 1) ≡ at + place + 1 = omega arith in
      sym (ap (λ (n : ℕ). drop (place + 1) (take n (drop at xs))) (sym whole)
      ∙ drop-take (place + 1) (end - (at + place + 1)) (drop at xs)
      ∙ ap (take (end - (at + place + 1))) (drop-drop (place + 1) at xs ∙ ap (λ (n : ℕ). drop n xs) start))

module _ (hay : List ℕ) where
  -- what is before and after the first line feed
  pub feed_at : (n : ℕ) → IsFirstByte (is_byte 10) hay (Some n) → hay ≡ take n hay ++ 10 ∷ drop (n + 1) hay
  feed_at n h =
      let one : suc n ≡ n + 1 = omega arith in
      sym (take-append-drop n hay)
      ∙ ap (λ (ys : List ℕ). take n hay ++ ys)
      (drop-cons hay n 0 h.0.high ∙ ap (λ (k : ℕ). get_or hay n 0 ∷ drop k hay) one ∙ ap (λ (b : ℕ). b ∷ drop (n + 1) hay) (eqb-true (get_or hay n 0) 10 h.1))

  pub feedless_before : (n : ℕ) → IsFirstByte (is_byte 10) hay (Some n) → IsFeedless (take n hay)
  feedless_before n h k within is =
      let low : k < n = omega (arith, within, length-take n hay) in
      h.0.before k (omega arith) low (eq-eqb (get_or hay k 0) 10 (sym (get_or-take n hay k 0 low) ∙ is))

  pub feedless_all : IsFirstByte (is_byte 10) hay None → IsFeedless hay
  feedless_all h k within is = h k (omega arith) within (eq-eqb (get_or hay k 0) 10 is)
