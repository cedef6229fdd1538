-- Bytes that are read piece by piece and are the front of a text.
use Rattle.std.proofs.Common.{◌≡◌, ℕ, ◌+◌, ◌-◌, Bool, true, List, ◌++◌, length, take, drop, sym, ap, ◌∙◌, subst, arith}
use Rattle.std.proofs.Math.Seq.{take-add}
use Rattle.std.proofs.KnownBytes.{Consumes-trans}
use Rattle.std.proofs.lemmas.Bool.Decides.{Decides-eqb}
use Rattle.std.proofs.lemmas.List.{take_all, length-drop}
use Rattle.std.proofs.lemmas.Slice.Eq.{slice_eq-Decides}
use Rattle.std.specs.Cmp.Lexicographic.{pointwise}
use Rattle.std.specs.Prelude.{◌==◌, Option}
use Rattle.std.specs.Io.KnownBytes.{Consumes}

-- a piece more is read, and is what comes next in the text
pub text_more : (a b d : Option (List ℕ)) (text piece : List ℕ) (at count : ℕ) (same : Bool) (read : List ℕ)
    → read ≡ text → Consumes a b (take at text) → Consumes b d piece
    → same ≡ true → same ≡ pointwise ◌==◌ piece (take count (take (length read - at) (drop at read)))
    → Consumes a d (take (at + count) text)
text_more a b d text piece at count same read is before now is_same compared_read =
    let compared : same ≡ pointwise ◌==◌ piece (take count (take (length text - at) (drop at text))) = subst (λ (xs : List ℕ). same ≡ pointwise ◌==◌ piece (take count (take (length xs - at) (drop at xs)))) is compared_read in
    let rest : take (length text - at) (drop at text) ≡ drop at text = take_all (length text - at) (drop at text) (omega (arith, length-drop at text)) in
    let next : piece ≡ take count (take (length text - at) (drop at text)) = (slice_eq-Decides Decides-eqb piece (take count (take (length text - at) (drop at text))) same compared).0 is_same in
    subst (λ (bs : List ℕ). Consumes a d bs) (ap (λ (bs : List ℕ). take at text ++ bs) (next ∙ ap (λ (bs : List ℕ). take count bs) rest) ∙ sym (take-add at count text)) (Consumes-trans a b d (take at text) piece before now)
