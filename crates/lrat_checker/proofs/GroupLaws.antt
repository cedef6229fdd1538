-- The groups of hints, one hint after another.
use Rattle.std.proofs.Common.{◌≡◌, ℕ, suc, ◌+◌, ◌-◌, ◌<◌, Bool, true, false, List, [], ◌∷◌, ◌++◌, refl, sym, ap, ◌∙◌, arith, cond, Option, Some, None, ℤ, pos, negsuc, length, get_or, take, drop, append_assoc}
use Rattle.std.specs.Prelude.{is_some}
use Rattle.std.specs.Option.{option_or}
use Rattle.std.proofs.lemmas.List.{drop_more, take_more, append-nil, take_all, length-drop}
use Rattle.lrat_model.specs.Literal.{Literal, negated, same, has}
use Rattle.lrat_model.specs.Clauses.{Held, clause_at}
use Rattle.lrat_model.specs.Propagation.{Stops}
use Rattle.lrat_model.specs.Steps.{outcome_fault}
use Rattle.lrat_model.specs.Alike.{Alike}
use Rattle.lrat_model.specs.Rat.{Group, first_hints, groups_of, made_false, group_outcome, named_outcome, take_group, groups_fault, ids_of}
use Rattle.lrat_model.specs.declared.step.StepFault.{StepFault}
use Rattle.lrat_model.specs.declared.step.StepFault.TheVariants.{RatStep}
use Rattle.rat_candidates.specs.Groups.{group_id, ids_in}
use Rattle.lrat_checker.specs.Groups.{first_place}

-- ---- a hint

-- the groups where the hint at their front names this, and these hints follow it
abbrev pub with_group : Option ℕ → ℕ → List ℤ → List Group
with_group None place rest = groups_of (place + 1) rest
with_group (Some id) place rest = record { place = place; id = id; hints = first_hints rest } ∷ groups_of (place + 1) rest

groups-cons : (place : ℕ) (hint : ℤ) (rest : List ℤ) → groups_of place (hint ∷ rest) ≡ with_group (group_id hint) place rest
groups-cons place (pos id) rest = refl
groups-cons place (negsuc n) rest = refl

pub groups-at : (hints : List ℤ) (i : ℕ) → i < length hints → groups_of (i + 1) (drop i hints) ≡ with_group (group_id (get_or hints i (pos 0))) (i + 1) (drop (i + 1) hints)
groups-at hints i within = ap (groups_of (i + 1)) (drop_more hints i (pos 0) within) ∙ groups-cons (i + 1) (get_or hints i (pos 0)) (drop (i + 1) hints)

-- the hints before the groups, where the first hint names this
abbrev pub before_group : Option ℕ → ℤ → List ℤ → List ℤ
before_group None hint rest = hint ∷ first_hints rest
before_group (Some id) hint rest = []

first-cons : (hint : ℤ) (rest : List ℤ) → first_hints (hint ∷ rest) ≡ before_group (group_id hint) hint rest
first-cons (pos id) rest = refl
first-cons (negsuc n) rest = refl

pub first-at : (hints : List ℤ) (i : ℕ) → i < length hints → first_hints (drop i hints) ≡ before_group (group_id (get_or hints i (pos 0))) (get_or hints i (pos 0)) (drop (i + 1) hints)
first-at hints i within = ap first_hints (drop_more hints i (pos 0) within) ∙ first-cons (get_or hints i (pos 0)) (drop (i + 1) hints)

-- whether the hint at a place names a group, as its group was asked for
pub is_named : (hints : List ℤ) (i : ℕ) (group : Option ℕ) (there value : Bool) → group ≡ group_id (get_or hints i (pos 0)) → there ≡ is_some group → there ≡ value → is_some (group_id (get_or hints i (pos 0))) ≡ value
is_named hints i group there value is some says = sym (some ∙ ap is_some is) ∙ says

-- ---- the hints before the groups

module _ (hints : List ℤ) (i : ℕ) (within : i < length hints) (so_far : take i hints ++ first_hints (drop i hints) ≡ first_hints hints) where
  pub first_ends : is_some (group_id (get_or hints i (pos 0))) ≡ true → take i hints ≡ first_hints hints
  first_ends is =
      sym (append-nil (take i hints))
      ∙ ap (λ more. take i hints ++ more) (sym (first-at hints i within ∙ ended (group_id (get_or hints i (pos 0))) is)) ∙ so_far where
        ended : (o : Option ℕ) → is_some o ≡ true → before_group o (get_or hints i (pos 0)) (drop (i + 1) hints) ≡ []
        ended None is_there = cc
        ended (Some id) is_there = refl

  pub first_goes_on : is_some (group_id (get_or hints i (pos 0))) ≡ false → take (i + 1) hints ++ first_hints (drop (i + 1) hints) ≡ first_hints hints
  first_goes_on is =
      let hint : ℤ = get_or hints i (pos 0) in
      ap (λ xs. xs ++ first_hints (drop (i + 1) hints)) (take_more hints i (pos 0) within)
      ∙ append_assoc (take i hints) (hint ∷ []) (first_hints (drop (i + 1) hints))
      ∙ ap (λ more. take i hints ++ more) (sym (first-at hints i within ∙ goes_on (group_id hint) is)) ∙ so_far where
        goes_on : (o : Option ℕ) → is_some o ≡ false → before_group o (get_or hints i (pos 0)) (drop (i + 1) hints) ≡ get_or hints i (pos 0) ∷ first_hints (drop (i + 1) hints)
        goes_on None is_there = refl
        goes_on (Some id) is_there = cc

-- ---- the first place

module _ (hints : List ℤ) (i : ℕ) (within : i < length hints) (so_far : first_place (groups_of (i + 1) (drop i hints)) ≡ first_place (groups_of 1 hints)) where
  pub place_here : is_some (group_id (get_or hints i (pos 0))) ≡ true → Some (i + 1) ≡ first_place (groups_of 1 hints)
  place_here is = sym (ap first_place (groups-at hints i within) ∙ here (group_id (get_or hints i (pos 0))) is) ∙ so_far where
    here : (o : Option ℕ) → is_some o ≡ true → first_place (with_group o (i + 1) (drop (i + 1) hints)) ≡ Some (i + 1)
    here None is_there = cc
    here (Some id) is_there = refl

  pub place_later : is_some (group_id (get_or hints i (pos 0))) ≡ false → first_place (groups_of (i + 1 + 1) (drop (i + 1) hints)) ≡ first_place (groups_of 1 hints)
  place_later is = sym (ap first_place (groups-at hints i within) ∙ later (group_id (get_or hints i (pos 0))) is) ∙ so_far where
    later : (o : Option ℕ) → is_some o ≡ false → first_place (with_group o (i + 1) (drop (i + 1) hints)) ≡ first_place (groups_of (i + 1 + 1) (drop (i + 1) hints))
    later None is_there = refl
    later (Some id) is_there = cc

-- ---- which ids are named

pub ids_in-groups : (place : ℕ) (hints : List ℤ) → ids_of (groups_of place hints) ≡ ids_in hints
ids_in-groups place [] = refl
ids_in-groups place (pos id ∷ hints) = ids_in-groups (place + 1) hints
ids_in-groups place (negsuc n ∷ hints) = ap (λ ids. suc n ∷ ids) (ids_in-groups (place + 1) hints)

pub ids_in-append : (xs ys : List ℤ) → ids_in (xs ++ ys) ≡ ids_in xs ++ ids_in ys
ids_in-append [] ys = refl
ids_in-append (pos id ∷ xs) ys = ids_in-append xs ys
ids_in-append (negsuc n ∷ xs) ys = ap (λ ids. suc n ∷ ids) (ids_in-append xs ys)

-- ---- the literals of a clause made false

module _ (left_out : Literal) (trues now new clause : List Literal) (i : ℕ) (l : Literal) (within : i < length clause) (here : l ≡ get_or clause i l) (alike : Alike now new)
    (so_far : made_false left_out now (drop i clause) ≡ made_false left_out trues clause) where
  made-at : made_false left_out now (drop i clause) ≡ cond (same left_out l) (made_false left_out now (drop (i + 1) clause)) (cond (has now l) None (made_false left_out (negated l ∷ now) (drop (i + 1) clause)))
  made-at = ap (made_false left_out now) (drop_more clause i l within ∙ ap (λ k. k ∷ drop (i + 1) clause) (sym here))

  pub made_passed : same left_out l ≡ true → made_false left_out now (drop (i + 1) clause) ≡ made_false left_out trues clause
  made_passed is = sym (made-at ∙ ap (λ b. cond b (made_false left_out now (drop (i + 1) clause)) (cond (has now l) None (made_false left_out (negated l ∷ now) (drop (i + 1) clause)))) is) ∙ so_far

  made_other : same left_out l ≡ false → cond (has new l) None (made_false left_out (negated l ∷ now) (drop (i + 1) clause)) ≡ made_false left_out trues clause
  made_other is =
      sym (made-at ∙ ap (λ b. cond b (made_false left_out now (drop (i + 1) clause)) (cond (has now l) None (made_false left_out (negated l ∷ now) (drop (i + 1) clause)))) is
      ∙ ap (λ b. cond b None (made_false left_out (negated l ∷ now) (drop (i + 1) clause))) (alike l)) ∙ so_far

  pub made_none : same left_out l ≡ false → has new l ≡ true → made_false left_out trues clause ≡ None
  made_none is there = sym (sym (ap (λ b. cond b None (made_false left_out (negated l ∷ now) (drop (i + 1) clause))) there) ∙ made_other is)

  pub made_more : same left_out l ≡ false → has new l ≡ false → made_false left_out (negated l ∷ now) (drop (i + 1) clause) ≡ made_false left_out trues clause
  made_more is absent = sym (ap (λ b. cond b None (made_false left_out (negated l ∷ now) (drop (i + 1) clause))) absent) ∙ made_other is

-- ---- the groups

module _ (held : Held) (trues : List Literal) (pivot : Literal) (hints : List ℤ) (i : ℕ) (within : i < length hints)
    (so_far : groups_fault held trues pivot (groups_of (i + 1) (drop i hints)) ≡ groups_fault held trues pivot (groups_of 1 hints)) where
  pub groups_passed : None ≡ group_id (get_or hints i (pos 0)) → groups_fault held trues pivot (groups_of (i + 1 + 1) (drop (i + 1) hints)) ≡ groups_fault held trues pivot (groups_of 1 hints)
  groups_passed is =
      sym (ap (groups_fault held trues pivot) (groups-at hints i within ∙ ap (λ o. with_group o (i + 1) (drop (i + 1) hints)) (sym is))) ∙ so_far

  module _ (id : ℕ) (is : Some id ≡ group_id (get_or hints i (pos 0))) (fault : Option StepFault)
      (took : fault ≡ outcome_fault (take_group held trues pivot (record { place = i + 1; id = id; hints = first_hints (drop (i + 1) hints) }))) where
    group-at : option_or fault (groups_fault held trues pivot (groups_of (i + 1 + 1) (drop (i + 1) hints))) ≡ groups_fault held trues pivot (groups_of 1 hints)
    group-at =
        ap (λ o. option_or o (groups_fault held trues pivot (groups_of (i + 1 + 1) (drop (i + 1) hints)))) took
        ∙ sym (ap (groups_fault held trues pivot) (groups-at hints i within ∙ ap (λ o. with_group o (i + 1) (drop (i + 1) hints)) (sym is))) ∙ so_far

    pub group_stops : is_some fault ≡ true → fault ≡ groups_fault held trues pivot (groups_of 1 hints)
    group_stops there = first_one fault (groups_fault held trues pivot (groups_of (i + 1 + 1) (drop (i + 1) hints))) there ∙ group-at where
      first_one : (o p : Option StepFault) → is_some o ≡ true → o ≡ option_or o p
      first_one None p is_there = cc
      first_one (Some f) p is_there = refl

    pub group_goes_on : is_some fault ≡ false → groups_fault held trues pivot (groups_of (i + 1 + 1) (drop (i + 1) hints)) ≡ groups_fault held trues pivot (groups_of 1 hints)
    group_goes_on absent = second_one fault (groups_fault held trues pivot (groups_of (i + 1 + 1) (drop (i + 1) hints))) absent ∙ group-at where
      second_one : (o p : Option StepFault) → is_some o ≡ false → p ≡ option_or o p
      second_one None p is_absent = refl
      second_one (Some f) p is_absent = cc

-- what is left of the hints, as a slice
pub rest_whole : (hints : List ℤ) (k : ℕ) → take (length hints - k) (drop k hints) ≡ drop k hints
rest_whole hints k = take_all (length hints - k) (drop k hints) (omega (arith, length-drop k hints))

-- ---- a group that is opened

module _ (held : Held) (trues : List Literal) (pivot : Literal) (place id : ℕ) (clause : List Literal) (hints : List ℤ) (found : Some clause ≡ clause_at held id) where
  named : take_group held trues pivot (record { place = place; id = id; hints = hints }) ≡ named_outcome held trues pivot (record { place = place; id = id; hints = hints }) (Some clause)
  named = ap (named_outcome held trues pivot (record { place = place; id = id; hints = hints })) (sym found)

  pub opens_without : has clause (negated pivot) ≡ false → take_group held trues pivot (record { place = place; id = id; hints = hints }) ≡ Stops (RatStep place)
  opens_without absent = named ∙ ap (λ b. cond b (group_outcome held (record { place = place; id = id; hints = hints }) (made_false (negated pivot) trues clause)) (Stops (RatStep place))) absent

  pub opens_with : (made : Option (List Literal)) → has clause (negated pivot) ≡ true → made_false (negated pivot) trues clause ≡ made → take_group held trues pivot (record { place = place; id = id; hints = hints }) ≡ group_outcome held (record { place = place; id = id; hints = hints }) made
  opens_with made there is =
      named ∙ ap (λ b. cond b (group_outcome held (record { place = place; id = id; hints = hints }) (made_false (negated pivot) trues clause)) (Stops (RatStep place))) there
      ∙ ap (group_outcome held (record { place = place; id = id; hints = hints })) is
