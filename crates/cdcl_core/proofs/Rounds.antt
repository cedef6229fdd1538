-- Marks by rounds.
use Rattle.std.proofs.Common.{◌≡◌, ℕ, ◌<◌, ◌≤◌, Bool, true, false, List, length, map, set, get_or, ap, ◌∙◌, arith, refl, ◌+◌, ⊎_elim, get_or-set_same, get_or-set_other}
use Rattle.std.specs.Prelude.{◌==◌, All}
use Rattle.std.proofs.lemmas.Bool.{eq-eqb, ne_eqb, cases_eq, cases_lt}
use Rattle.std.proofs.lemmas.List.{map-set, get_or-map, get_or_default, length-map}
use Rattle.std.proofs.Math.ListN.{get_or-eq_default}

-- whether each has the round
abbrev pub of_round : List ℕ → ℕ → List Bool
of_round rounds round = map (λ r. r == round) rounds

-- none has a later round
pub none_later : (rounds : List ℕ) (round : ℕ) → All (λ r. r < round) rounds → (x : ℕ) → get_or (of_round rounds round) x false ≡ false
none_later rounds round all x =
    ⊎_elim
    (λ less. get_or-map (λ r. r == round) rounds x 0 false less ∙ ne_eqb (get_or rounds x 0) round (λ e. absurd (omega (arith, e, all x 0 less))))
    (λ more. get_or-eq_default (of_round rounds round) false (omega (arith, more, length-map rounds (λ r. r == round))))
    (cases_lt x (length rounds))

pub set_round : (rounds : List ℕ) (round x : ℕ) → of_round (set rounds x round) round ≡ set (of_round rounds round) x true
set_round rounds round x = map-set (λ r. r == round) rounds x round ∙ ap (λ b. set (of_round rounds round) x b) (eq-eqb round round refl)

pub zero_up_to : (rounds : List ℕ) (n : ℕ) → length rounds ≤ n → ((k : ℕ) → k < n → get_or rounds k 0 ≡ 0) → All (λ r. r < 1) rounds
zero_up_to rounds n long each i d within = omega (arith, get_or_default rounds i d 0 within, each i (omega (arith, within, long)))

pub zero_more : (rounds : List ℕ) (n x v : ℕ) → x ≡ n → n < length rounds → v ≡ 0 → ((k : ℕ) → k < n → get_or rounds k 0 ≡ 0) → (k : ℕ) → k < n + 1 → get_or (set rounds x v) k 0 ≡ 0
zero_more rounds n x v at within none each k less =
    ⊎_elim
    (λ e. ap (λ j. get_or (set rounds x v) j 0) e ∙ get_or-set_same rounds x v 0 (omega (arith, at, within)) ∙ none)
    (λ other. get_or-set_other rounds x k v 0 other ∙ each k (⊎_elim (λ small. small) (λ big. absurd (other (omega (arith, big, less, at)))) (cases_lt k n)))
    (cases_eq k x)
