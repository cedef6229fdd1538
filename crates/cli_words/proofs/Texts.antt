-- A text to which the texts of the elements of a list are added, one after another.
use Rattle.std.proofs.Common.{◌≡◌, ℕ, ◌+◌, List, ◌++◌, drop, sym, ◌∙◌, ap}
use Rattle.std.proofs.lemmas.List.{append_assoc}

-- one more element: what is there and what is still to come is the same as before
pub text_more : {X : Type 0} (texts : List X → List ℕ) (xs : List X) (i : ℕ) (before now one whole : List ℕ) → now ≡ before ++ one → texts (drop i xs) ≡ one ++ texts (drop (i + 1) xs) → before ++ texts (drop i xs) ≡ whole → now ++ texts (drop (i + 1) xs) ≡ whole
text_more texts xs i before now one whole added first was =
    let rest : List ℕ = texts (drop (i + 1) xs) in
    ap (λ (t : List ℕ). t ++ rest) added ∙ (append_assoc before one rest ∙ (ap (λ (t : List ℕ). before ++ t) (sym first) ∙ was))
