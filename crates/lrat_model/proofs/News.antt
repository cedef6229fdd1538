-- A useful lemma is new.
use Rattle.std.proofs.Common.{◌≡◌, ℕ, true, false, not, List, [], ◌∷◌, ⊎_elim, inl, inr, refl, sym, ap, ◌∙◌, subst, map, Some, ◌+◌, pos}
use Rattle.std.proofs.lemmas.Bool.{false≢true, true≢false, not_from_false}
use Rattle.lrat_model.specs.Literal.{Literal, negated, same, has, IsSubset}
use Rattle.lrat_model.specs.Clauses.{Held, clause_at}
use Rattle.lrat_model.specs.Propagation.{not_false, status_of, and_then, propagate}
use Rattle.lrat_model.specs.Lemmas.{Settles, IsUseful, IsNew, others}
use Rattle.lrat_model.specs.declared.step.ClauseStatus.TheVariants.{Falsified, Forces}
use Rattle.lrat_model.proofs.Literals.{same-true, has-cons, has-first, has-rest, has-filter, has-filter_from, list_all-has}
use Rattle.lrat_model.proofs.Statuses.{status_of-forces, take_hint-status}

pub has-map_negated : (ls : List Literal) (m : Literal) → has ls m ≡ true → has (map negated ls) (negated m) ≡ true
has-map_negated [] m h = absurd (false≢true h)
has-map_negated (l ∷ ls) m h =
    ⊎_elim (λ is. subst (λ k. has (map negated (l ∷ ls)) (negated k) ≡ true) (sym is) (has-first (negated l) (map negated ls)))
    (λ there. has-rest (negated l) (negated m) (map negated ls) (has-map_negated ls m there)) (has-cons l m ls h)

-- of a subset of a clause, where the others' negations are true, l alone is not false
only_left : (clause other : List Literal) (l : Literal) → IsSubset other clause → (m : Literal) → has (not_false (map negated (others l clause)) other) m ≡ true → m ≡ l
only_left clause other l subset m h =
    let start : List Literal = map negated (others l clause) in
    let parts : (has other m ≡ true) × (not (has start (negated m)) ≡ true) = has-filter (λ k. not (has start (negated k))) other m h in
    let inside : has clause m ≡ true = list_all-has (has clause) other subset m parts.0 in
    elim (same l m) as (λ b. same l m ≡ b → m ≡ l) [
      | true ↦ λ is. sym (same-true l m is)
      | false ↦ λ isnt.
          let other_one : has (others l clause) m ≡ true = has-filter_from (λ k. not (same l k)) clause m inside (not_from_false (same l m) isnt) in
          absurd (true≢false (sym parts.1 ∙ ap not (has-map_negated (others l clause) m other_one)))
    ] refl

settles_by : (held : Held) (start : List Literal) (l : Literal) (id : ℕ) (other : List Literal) → clause_at held id ≡ Some other → (ls : List Literal) → not_false start other ≡ ls → ((m : Literal) → has ls m ≡ true → m ≡ l) → Settles held start l (pos id ∷ [])
settles_by held start l id other at [] is only =
    inl (ap (λ e. and_then e (λ now. propagate held now (1 + 1) [])) (take_hint-status held start 1 id other Falsified at (ap status_of is)))
settles_by held start l id other at (x ∷ xs) is only =
    let first : has (x ∷ xs) l ≡ true = subst (λ k. has (x ∷ xs) k ≡ true) (only x (has-first x xs)) (has-first x xs) in
    inr (
      l ∷ start,
      ap (λ e. and_then e (λ now. propagate held now (1 + 1) [])) (take_hint-status held start 1 id other (Forces l) at (ap status_of is ∙ status_of-forces l (x ∷ xs) first only)),
      has-first l start,
    )

pub useful_is_new : (held : Held) (clause : List Literal) → IsUseful held clause → IsNew held clause
useful_is_new held clause useful id other at subset =
    let start : List Literal = map negated (others useful.0 clause) in
    useful.2 (pos id ∷ []) (settles_by held start useful.0 id other at (not_false start other) refl (only_left clause other useful.0 subset))
