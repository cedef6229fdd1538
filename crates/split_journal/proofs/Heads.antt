-- That no node of a quorum lies: what the clauses say, and when they are true.
use Rattle.std.proofs.Common.{◌≡◌, ℕ, ◌⊎◌, inl, inr, Bool, true, false, not, ◌||◌, List, [], ◌∷◌, refl, ap, sym, ◌∙◌}
use Rattle.std.proofs.lemmas.Bool.{and_parts, and_from, or_left, or_right, or_cases, false≢true}
use Rattle.fbas_model.specs.Nodes.{Table, members}
use Rattle.lrat_model.specs.Literal.{Literal, Plus, Minus, clause_true, formula_true}
use Rattle.clause_encoder.proofs.Bools.{true_parts, true_both}
use Rattle.clause_encoder.proofs.Members.{Each, each_of, each_member}
use Rattle.split_journal.specs.Formula.{groups_with, not_lying, none_lying, lying, or_head, present}
use Rattle.enumeration_journal.proofs.ClauseTruth.{true_where, where_true}
use Rattle.enumeration_journal.proofs.Places.{from_zero}
use Rattle.split_journal.proofs.Left.{holding}

-- ---- no two

pub pair_true : (a b : Bool) → (a ≡ true → b ≡ true → ⊥) → (not a || (not b || false)) ≡ true
pair_true true true h = absurd (h refl refl)
pair_true true false h = refl
pair_true false b h = refl

pub pair_apart : (a b : Bool) → (not a || (not b || false)) ≡ true → a ≡ true → b ≡ true → ⊥
pair_apart true true h x y = false≢true h
pair_apart true false h x y = false≢true y
pair_apart false b h x y = false≢true x

-- ---- no member of a quorum lies

not_lying_true : (v : ℕ → Bool) (h : ℕ) (lies : ℕ → ℕ) (us : List ℕ) → Each (λ i. v h ≡ true → v (lies i) ≡ true → ⊥) us → formula_true v (not_lying h lies us) ≡ true
not_lying_true v h lies [] all = refl
not_lying_true v h lies (i ∷ us) all = and_from (clause_true v (Minus h ∷ Minus (lies i) ∷ [])) (formula_true v (not_lying h lies us)) (pair_true (v h) (v (lies i)) all.0) (not_lying_true v h lies us all.1)

not_lying_says : (v : ℕ → Bool) (h : ℕ) (lies : ℕ → ℕ) (us : List ℕ) → formula_true v (not_lying h lies us) ≡ true → Each (λ i. v h ≡ true → v (lies i) ≡ true → ⊥) us
not_lying_says v h lies [] sat = tt
not_lying_says v h lies (i ∷ us) sat =
    let parts = and_parts (clause_true v (Minus h ∷ Minus (lies i) ∷ [])) (formula_true v (not_lying h lies us)) sat in
    (pair_apart (v h) (v (lies i)) parts.0, not_lying_says v h lies us parts.1)

-- a node that is a head is in no group that lies
abbrev pub LiesNot : (ℕ → Bool) → (ℕ → ℕ) → (ℕ → ℕ) → List Table → ℕ → Type 0
LiesNot v h lies groups n = (i : ℕ) → members (holding groups n) i ≡ true → v (h n) ≡ true → v (lies i) ≡ true → ⊥

pub none_lying_true : (v : ℕ → Bool) (h : ℕ → ℕ) (lies : ℕ → ℕ) (groups : List Table) (ns : List ℕ) → Each (LiesNot v h lies groups) ns → formula_true v (none_lying h lies groups ns) ≡ true
none_lying_true v h lies groups [] all = refl
none_lying_true v h lies groups (n ∷ ns) all =
    true_both v (not_lying (h n) lies (groups_with groups n)) (none_lying h lies groups ns)
    (not_lying_true v (h n) lies (groups_with groups n) (each_of (λ i. v (h n) ≡ true → v (lies i) ≡ true → ⊥) (holding groups n) all.0))
    (none_lying_true v h lies groups ns all.1)

pub none_lying_says : (v : ℕ → Bool) (h : ℕ → ℕ) (lies : ℕ → ℕ) (groups : List Table) (ns : List ℕ) → formula_true v (none_lying h lies groups ns) ≡ true → Each (LiesNot v h lies groups) ns
none_lying_says v h lies groups [] sat = tt
none_lying_says v h lies groups (n ∷ ns) sat =
    let parts = true_parts v (not_lying (h n) lies (groups_with groups n)) (none_lying h lies groups ns) sat in
    (each_member (λ i. v (h n) ≡ true → v (lies i) ≡ true → ⊥) (holding groups n) (not_lying_says v (h n) lies (groups_with groups n) parts.0), none_lying_says v h lies groups ns parts.1)

-- ---- what is present

-- a node that is present is of the quorum, or in a group that lies
abbrev pub IsPresent : (ℕ → Bool) → (ℕ → ℕ) → (ℕ → ℕ) → Table → (ℕ → ℕ) → List Table → ℕ → Type 0
IsPresent v l h able lies groups n = v (l n) ≡ true → ((members able n ≡ true) × (v (h n) ≡ true)) ⊎ ((i : ℕ) × (members (holding groups n) i ≡ true) × (v (lies i) ≡ true))

then_true : (x y : Bool) → (x ≡ true → y ≡ true) → (not x || y) ≡ true
then_true false y h = refl
then_true true y h = h refl

then_says : (x y : Bool) → (not x || y) ≡ true → x ≡ true → y ≡ true
then_says false y h on = absurd (false≢true on)
then_says true y h on = h

head_true : (v : ℕ → Bool) (able : Bool) (h : ℕ) (rest : List Literal) → able ≡ true → v h ≡ true → clause_true v (or_head able h rest) ≡ true
head_true v true h rest is on = or_left (v h) (clause_true v rest) on
head_true v false h rest is on = absurd (false≢true is)

rest_true : (v : ℕ → Bool) (able : Bool) (h : ℕ) (rest : List Literal) → clause_true v rest ≡ true → clause_true v (or_head able h rest) ≡ true
rest_true v true h rest on = or_right (v h) (clause_true v rest) on
rest_true v false h rest on = on

head_or : (v : ℕ → Bool) (able : Bool) (h : ℕ) (rest : List Literal) → clause_true v (or_head able h rest) ≡ true → ((able ≡ true) × (v h ≡ true)) ⊎ (clause_true v rest ≡ true)
head_or v true h rest holds = elim (or_cases (v h) (clause_true v rest) holds) [ inl on ↦ inl (refl, on) | inr other ↦ inr other ]
head_or v false h rest holds = inr holds

pub present_true : (v : ℕ → Bool) (l h : ℕ → ℕ) (able : Table) (lies : ℕ → ℕ) (groups : List Table) (ns : List ℕ) → Each (IsPresent v l h able lies groups) ns → formula_true v (present l h able lies groups ns) ≡ true
present_true v l h able lies groups [] all = refl
present_true v l h able lies groups (n ∷ ns) all =
    and_from (clause_true v (Minus (l n) ∷ or_head (members able n) (h n) (lying lies groups n))) (formula_true v (present l h able lies groups ns)) (then_true (v (l n)) (clause_true v (or_head (members able n) (h n) (lying lies groups n))) (λ on. elim (all.0 on) [
      | inl head ↦ head_true v (members able n) (h n) (lying lies groups n) head.0 head.1
      | inr other ↦ rest_true v (members able n) (h n) (lying lies groups n) (true_where v (λ i. Plus (lies i)) 0 (holding groups n) other.0 other.1 (ap (λ (i : ℕ). v (lies i)) (from_zero other.0) ∙ other.2))
    ])) (present_true v l h able lies groups ns all.1)

pub present_says : (v : ℕ → Bool) (l h : ℕ → ℕ) (able : Table) (lies : ℕ → ℕ) (groups : List Table) (ns : List ℕ) → formula_true v (present l h able lies groups ns) ≡ true → Each (IsPresent v l h able lies groups) ns
present_says v l h able lies groups [] sat = tt
present_says v l h able lies groups (n ∷ ns) sat =
    let parts = and_parts (clause_true v (Minus (l n) ∷ or_head (members able n) (h n) (lying lies groups n))) (formula_true v (present l h able lies groups ns)) sat in (
      λ on. elim (head_or v (members able n) (h n) (lying lies groups n) (then_says (v (l n)) (clause_true v (or_head (members able n) (h n) (lying lies groups n))) parts.0 on)) [
        | inl head ↦ inl head
        | inr some ↦ let w = where_true v (λ i. Plus (lies i)) 0 (holding groups n) some in inr (w.0, w.1, ap (λ (i : ℕ). v (lies i)) (sym (from_zero w.0)) ∙ w.2)
      ],
      present_says v l h able lies groups ns parts.1,
    )
