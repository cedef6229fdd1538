-- RAT hints that are kept, one more.
use Rattle.std.proofs.Common.{◌≡◌, ℕ, ◌<◌, ◌≤◌, ◌+◌, Bool, true, false, ◌||◌, List, [], ◌∷◌, ◌++◌, length, refl, sym, ap, ◌∙◌, subst, arith, cond, Some, ℤ, ⊎_elim, length-append}
use Rattle.std.specs.Prelude.{◌==◌}
use Rattle.std.proofs.lemmas.Bool.{eqb-true, or_cases}
use Rattle.lrat_model.specs.Literal.{Literal, same, has}
use Rattle.lrat_model.specs.Clauses.{Held, has_id}
use Rattle.rat_candidates.specs.Groups.{group_id, ids_in}
use Rattle.rat_candidates.specs.Occurrences.{times, occurrences, occurrences_in}
use Rattle.rat_candidates.specs.Rising.{IdsRise}
use Rattle.rat_candidates.specs.Kept.{Kept, IsHighest, NamesToo, IsCandidate, HasRoom}
use Rattle.rat_candidates.proofs.OccurrenceLaws.{some-all, in-one_more, has-one_more}
use Rattle.rat_candidates.proofs.NamedLaws.{one_id, ids_in-append}

-- where a literal stands
times-some : (l : Literal) (clause : List Literal) → has clause l ≡ true → 0 < times l clause
times-some l [] there = absurd cc
times-some l (m ∷ ms) there =
    elim (same l m) as (λ b. (b || has ms l) ≡ true → 0 < cond b 1 0 + times l ms) [
      | true ↦ λ _. omega arith
      | false ↦ λ rest. omega (arith, times-some l ms rest)
    ] there

-- the ids of a hint more
pub ids_more : (hints : List ℤ) (hint : ℤ) (id : ℕ) → Some id ≡ group_id hint → ids_in (hints ++ hint ∷ []) ≡ ids_in hints ++ id ∷ []
ids_more hints hint id names = ids_in-append hints (hint ∷ []) ∙ ap (λ xs. ids_in hints ++ xs) (one_id hint id names)

pub highest_more : (hints : List ℤ) (hint : ℤ) (id old new : ℕ) → Some id ≡ group_id hint → old ≤ new → id ≤ new → IsHighest hints old → IsHighest (hints ++ hint ∷ []) new
highest_more hints hint id old new names up here highest = λ k there.
    ⊎_elim (λ was. (let low : k ≤ old = highest k was in omega (arith, low, up)))
    (λ last. (let is : id ≡ k = eqb-true id k last in omega (arith, is, here)))
    (or_cases (has_id ids k) (id == k) (sym (ap (λ xs. has_id xs k) (ids_more hints hint id names) ∙ has-one_more ids id k) ∙ there)) where
      ids : List ℕ
      ids = ids_in hints

-- what is kept where the id was named before and where it was not
abbrev pub kept_with : List ℤ → ℤ → ℕ → List ℤ
kept_with hints hint id = cond (has_id (ids_in hints) id) hints (hints ++ hint ∷ [])

pub kept_names : (hints : List ℤ) (hint : ℤ) (id : ℕ) → Some id ≡ group_id hint → NamesToo hints id (kept_with hints hint id)
kept_names hints hint id names k =
    elim (has_id ids id) as (λ b. has_id ids id ≡ b → has_id (ids_in (cond b hints (hints ++ hint ∷ []))) k ≡ (has_id ids k || (id == k))) [
      | true ↦ λ was. known was
      | false ↦ λ _. ap (λ xs. has_id xs k) (ids_more hints hint id names) ∙ has-one_more ids id k
    ] refl where
      ids : List ℕ
      ids = ids_in hints

      either : (b c : Bool) → (c ≡ true → b ≡ true) → b ≡ (b || c)
      either true c sub = refl
      either false true sub = sub refl
      either false false sub = refl

      known : has_id ids id ≡ true → has_id ids k ≡ (has_id ids k || (id == k))
      known was = either (has_id ids k) (id == k) (λ is. subst (λ j. has_id ids j ≡ true) (eqb-true id k is) was)

module _ (held : Held) (l : Literal) (kept : Kept) (id : ℕ) (up : IdsRise held) (candidate : IsCandidate held l id) (fits : HasRoom held l kept) where
  -- the literal stands in the clauses named more often, where the id was not
  more_times : has_id (ids_in kept.hints) id ≡ false → length kept.hints + 1 ≤ occurrences_in l (ids_in kept.hints ++ id ∷ []) held
  more_times fresh = omega (arith, fits.few, in-one_more l (ids_in kept.hints) id candidate.0 held up candidate.1 fresh, times-some l candidate.0 candidate.2)

  pub is_room : has_id (ids_in kept.hints) id ≡ false → length kept.hints < kept.room
  is_room fresh = omega (arith, more_times fresh, some-all l (ids_in kept.hints ++ id ∷ []) held, fits.room)

  pub room_after : (hint : ℤ) (new : Kept) → Some id ≡ group_id hint → kept.room ≤ new.room → new.hints ≡ kept_with kept.hints hint id → HasRoom held l new
  room_after hint new names more is = record {
    room = omega (arith, fits.room, more);
    few = subst (λ hints. length hints ≤ occurrences_in l (ids_in hints) held) (sym is) (few_after hint names);
  } where
    few_after : (hint : ℤ) → Some id ≡ group_id hint → length (kept_with kept.hints hint id) ≤ occurrences_in l (ids_in (kept_with kept.hints hint id)) held
    few_after hint names =
        elim (has_id (ids_in kept.hints) id) as (λ b. has_id (ids_in kept.hints) id ≡ b → length (cond b kept.hints (kept.hints ++ hint ∷ [])) ≤ occurrences_in l (ids_in (cond b kept.hints (kept.hints ++ hint ∷ []))) held) [
          | true ↦ λ _. fits.few
          | false ↦ λ fresh. subst (λ xs. length (kept.hints ++ hint ∷ []) ≤ occurrences_in l xs held) (sym (ids_more kept.hints hint id names)) (omega (arith, more_times fresh, length-append kept.hints (hint ∷ [])))
        ] refl
