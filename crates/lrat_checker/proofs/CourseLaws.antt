-- An open addition, one hint later.
use Rattle.std.proofs.Common.{◌≡◌, ℕ, suc, ◌+◌, ◌≤◌, true, false, List, [], ◌∷◌, ◌++◌, length, take, refl, sym, ap, ◌∙◌, subst, arith, ⊎_elim, Option, Some, None, ℤ, pos, negsuc, Ok, Err, cond}
use Rattle.std.specs.Option.{option_or}
use Rattle.std.specs.Prelude.{slice_get, is_some, ◌==◌, ◌||◌, ◌&&◌, not}
use Rattle.std.proofs.lemmas.List.{append-nil, take-append-le}
use Rattle.std.proofs.Math.Bool as bool
use Rattle.lrat_model.specs.Literal.{Literal, negated, has}
use Rattle.lrat_model.specs.Clauses.{Held, has_id}
use Rattle.lrat_model.specs.Propagation.{Outcome, Conflict, Stops, Leaves, take_hint, and_then, propagate}
use Rattle.lrat_model.specs.Steps.{outcome_fault}
use Rattle.lrat_model.specs.Rat.{Group, first_hints, groups_of, take_group, groups_fault, ids_of, first_without, missing_fault, pivot_fault, rest_fault}
use Rattle.lrat_model.specs.declared.step.Rule.{Rule}
use Rattle.lrat_model.specs.declared.step.Rule.TheVariants.{Rup, Rat}
use Rattle.lrat_model.specs.declared.step.StepFault.{StepFault}
use Rattle.lrat_model.specs.declared.step.StepFault.TheVariants.{NoConflict, RatStep}
use Rattle.rat_candidates.specs.Groups.{group_id, ids_in}
use Rattle.rat_candidates.specs.Kept.{NamesToo}
use Rattle.lrat_checker.specs.declared.hint.Hinting.{Hinting}
use Rattle.lrat_checker.specs.declared.hint.Hinting.TheVariants as hinting
use Rattle.lrat_checker.specs.declared.opened.Opened.{Opened}
use Rattle.lrat_checker.specs.declared.opened.Course.{Course}
use Rattle.lrat_checker.specs.declared.opened.Course.TheVariants as course
use Rattle.lrat_checker.specs.Hints.{Took}
use Rattle.lrat_checker.specs.Extends.{Extends}
use Rattle.lrat_checker.specs.Groups.{Opens}
use Rattle.lrat_checker.specs.Adding.{group_rest, left_out, more_groups, unit_fault, fault_from, fault_after, has_met, HasPlace, GoesOn, StopsAt}
use Rattle.lrat_checker.specs.Courses.{unless_done, led, adding_of, Suits, IsUnitHint, onward, is_over, Ends, IsUndone, missing_of}
use Rattle.lrat_checker.proofs.AddingLaws.{alike_fault, unit_alike}

-- what was true first stays so where literals are made true after it
pub taken_grown : (old new : List Literal) (n : ℕ) → n ≤ length old → Extends old new → take n new ≡ take n old
taken_grown old new n within grows = ap (take n) grows.1 ∙ take-append-le n old grows.0 within

pub taken_whole : (old new : List Literal) (n : ℕ) → n ≡ length old → Extends old new → take n new ≡ old
taken_whole old new n is grows = taken_grown old new n (omega (arith, is)) grows ∙ whole old n is where
  whole : (xs : List Literal) (n : ℕ) → n ≡ length xs → take n xs ≡ xs
  whole xs n is = subst (λ k. take k xs ≡ xs) (sym is) (all xs) where
    all : (xs : List Literal) → take (length xs) xs ≡ xs
    all [] = refl
    all (x ∷ xs) = ap (λ ys. x ∷ ys) (all xs)

or_assoc : (a b c : Option StepFault) → option_or (option_or a b) c ≡ option_or a (option_or b c)
or_assoc None b c = refl
or_assoc (Some f) b c = refl

-- a RAT hint is none of unit propagation, but under Rup
no_group : (hint : ℤ) (rule : Rule) → rule ≡ Rat → IsUnitHint rule hint → group_id hint ≡ None
no_group hint rule is unit = ⊎_elim (λ rup. absurd (differ (sym rup ∙ is))) (λ none. none) unit where
  differ : Rup ≡ Rat → ⊥
  differ e = cc

-- ---- a hint of unit propagation

abbrev unit_then : Rule → Held → List Literal → ℕ → List ℤ → Outcome → Option StepFault
unit_then rule held lits place hints Conflict = None
unit_then rule held lits place hints (Stops fault) = Some fault
unit_then rule held lits place hints (Leaves left) = unit_fault rule held lits left place hints

unit_step : (rule : Rule) (held : Held) (lits trues : List Literal) (place : ℕ) (hint : ℤ) (hints : List ℤ) → IsUnitHint rule hint → unit_fault rule held lits trues place (hint ∷ hints) ≡ unit_then rule held lits (place + 1) hints (take_hint held trues place hint)
unit_step Rup held lits trues place hint hints unit = then_so (take_hint held trues place hint) where
  then_so : (e : Outcome) → outcome_fault (and_then e (λ now. propagate held now (place + 1) hints)) ≡ unit_then Rup held lits (place + 1) hints e
  then_so Conflict = refl
  then_so (Stops fault) = refl
  then_so (Leaves left) = refl
unit_step Rat held lits trues place (pos id) hints unit = then_so (take_hint held trues place (pos id)) where
  then_so : (e : Outcome) → rest_fault held lits (groups_of (place + 1) hints) (and_then e (λ now. propagate held now (place + 1) (first_hints hints))) ≡ unit_then Rat held lits (place + 1) hints e
  then_so Conflict = refl
  then_so (Stops fault) = refl
  then_so (Leaves left) = refl
unit_step Rat held lits trues place (negsuc n) hints unit = (let none : group_id (negsuc n) ≡ None = no_group (negsuc n) Rat refl unit in absurd cc)

-- the rest of a group that is not done
abbrev group_then : Held → ℕ → List ℤ → Outcome → Option StepFault
group_then held place hints Conflict = None
group_then held place hints (Stops fault) = Some fault
group_then held place hints (Leaves left) = outcome_fault (propagate held left place (first_hints hints))

group_step : (held : Held) (trues : List Literal) (place : ℕ) (hint : ℤ) (hints : List ℤ) → group_id hint ≡ None → outcome_fault (propagate held trues place (first_hints (hint ∷ hints))) ≡ group_then held (place + 1) hints (take_hint held trues place hint)
group_step held trues place (pos id) hints none = then_so (take_hint held trues place (pos id)) where
  then_so : (e : Outcome) → outcome_fault (and_then e (λ now. propagate held now (place + 1) (first_hints hints))) ≡ group_then held (place + 1) hints e
  then_so Conflict = refl
  then_so (Stops fault) = refl
  then_so (Leaves left) = refl
group_step held trues place (negsuc n) hints none = absurd cc

groups_pass : (place : ℕ) (hint : ℤ) (hints : List ℤ) → group_id hint ≡ None → groups_of place (hint ∷ hints) ≡ groups_of (place + 1) hints
groups_pass place (pos id) hints none = refl
groups_pass place (negsuc n) hints none = absurd cc

-- the hints of a group that is done, or after a conflict
pub over_goes_on : (rule : Rule) (held : Held) (lits trues : List Literal) (groups : List ℤ) (c : Course) (place : ℕ) (hint : ℤ) → is_over c ≡ true → IsUnitHint rule hint → Suits rule trues groups c
    → (hints : List ℤ) → fault_from rule held lits place (led trues groups c) (hint ∷ hints) ≡ fault_from rule held lits (place + 1) (led trues groups c) hints
over_goes_on rule held lits trues groups course.Propagates place hint over unit suits hints = absurd cc
over_goes_on rule held lits trues groups course.Met place hint over unit suits hints = refl
over_goes_on rule held lits trues groups (course.InGroup before true) place hint over unit suits hints =
    ap (more_groups held (take before trues) lits (ids_in groups)) (groups_pass place hint hints (no_group hint rule suits.0 unit))
over_goes_on rule held lits trues groups (course.InGroup before false) place hint over unit suits hints = absurd cc

module _ (rule : Rule) (held : Held) (lits trues new : List Literal) (groups : List ℤ) (place : ℕ) (hint : ℤ) (unit : IsUnitHint rule hint) where
  pub unit_goes_on : (c : Course) (h : Hinting) → is_over c ≡ false → Suits rule trues groups c → Took (take_hint held trues place hint) (Ok h) new → Extends trues new
      → (hints : List ℤ) → fault_from rule held lits place (led trues groups c) (hint ∷ hints) ≡ fault_from rule held lits (place + 1) (led new groups (onward c h)) hints
  unit_goes_on course.Propagates hinting.More over suits took grows hints =
      unit_step rule held lits trues place hint hints unit ∙ ap (unit_then rule held lits (place + 1) hints) took.1 ∙ unit_alike rule held lits took.0 new (place + 1) hints took.2
  unit_goes_on course.Propagates hinting.Conflict over suits took grows hints = unit_step rule held lits trues place hint hints unit ∙ ap (unit_then rule held lits (place + 1) hints) took
  unit_goes_on course.Met h over suits took grows hints = absurd cc
  unit_goes_on (course.InGroup before true) h over suits took grows hints = absurd cc
  unit_goes_on (course.InGroup before false) hinting.More over suits took grows hints =
      let none : group_id hint ≡ None = no_group hint rule suits.0 unit in
      ap (λ o. option_or o (more_groups held (take before trues) lits (ids_in groups) (groups_of place (hint ∷ hints))))
      (group_step held trues place hint hints none ∙ ap (group_then held (place + 1) hints) took.1 ∙ alike_fault held took.0 new (place + 1) (first_hints hints) took.2)
      ∙ ap (λ gs. option_or (outcome_fault (propagate held new (place + 1) (first_hints hints))) (more_groups held (take before trues) lits (ids_in groups) gs)) (groups_pass place hint hints none)
      ∙ ap (λ before_it. option_or (outcome_fault (propagate held new (place + 1) (first_hints hints))) (more_groups held before_it lits (ids_in groups) (groups_of (place + 1) hints))) (sym (taken_grown trues new before suits.1 grows))
  unit_goes_on (course.InGroup before false) hinting.Conflict over suits took grows hints =
      let none : group_id hint ≡ None = no_group hint rule suits.0 unit in
      ap (λ o. option_or o (more_groups held (take before trues) lits (ids_in groups) (groups_of place (hint ∷ hints))))
      (group_step held trues place hint hints none ∙ ap (group_then held (place + 1) hints) took)
      ∙ ap (more_groups held (take before trues) lits (ids_in groups)) (groups_pass place hint hints none)
      ∙ ap (λ before_it. more_groups held before_it lits (ids_in groups) (groups_of (place + 1) hints)) (sym (taken_grown trues new before suits.1 grows))

  pub unit_stops : (c : Course) (fault : StepFault) → is_over c ≡ false → Suits rule trues groups c → take_hint held trues place hint ≡ Stops fault
      → (hints : List ℤ) → fault_from rule held lits place (led trues groups c) (hint ∷ hints) ≡ Some fault
  unit_stops course.Propagates fault over suits took hints = unit_step rule held lits trues place hint hints unit ∙ ap (unit_then rule held lits (place + 1) hints) took
  unit_stops course.Met fault over suits took hints = absurd cc
  unit_stops (course.InGroup before true) fault over suits took hints = absurd cc
  unit_stops (course.InGroup before false) fault over suits took hints =
      ap (λ o. option_or o (more_groups held (take before trues) lits (ids_in groups) (groups_of place (hint ∷ hints))))
      (group_step held trues place hint hints (no_group hint rule suits.0 unit) ∙ ap (group_then held (place + 1) hints) took)

pub suits_onward : (rule : Rule) (trues new : List Literal) (groups : List ℤ) (c : Course) (h : Hinting) → length trues ≤ length new → Suits rule trues groups c → Suits rule new groups (onward c h)
suits_onward rule trues new groups course.Propagates hinting.More more suits = suits
suits_onward rule trues new groups course.Propagates hinting.Conflict more suits = tt
suits_onward rule trues new groups course.Met hinting.More more suits = tt
suits_onward rule trues new groups course.Met hinting.Conflict more suits = tt
suits_onward rule trues new groups (course.InGroup before is_done) hinting.More more suits = (suits.0, omega (arith, suits.1, more))
suits_onward rule trues new groups (course.InGroup before is_done) hinting.Conflict more suits = (suits.0, omega (arith, suits.1, more))

-- ---- a hint that begins a group

-- an id counts as named however often it was
pub without_alike : (held : Held) (l : Literal) (xs ys : List ℕ) → ((k : ℕ) → has_id xs k ≡ has_id ys k) → first_without held l xs ≡ first_without held l ys
without_alike [] l xs ys alike = refl
without_alike (e ∷ held) l xs ys alike =
    ap (λ b. cond (has e.1 l && not b) (Some e.0) (first_without held l xs)) (alike e.0)
    ∙ ap (λ o. cond (has e.1 l && not (has_id ys e.0)) (Some e.0) o) (without_alike held l xs ys alike)

has_id-append : (xs ys : List ℕ) (k : ℕ) → has_id (xs ++ ys) k ≡ (has_id xs k || has_id ys k)
has_id-append [] ys k = refl
has_id-append (x ∷ xs) ys k = ap (λ b. (x == k) || b) (has_id-append xs ys k) ∙ sym (bool.or_assoc (x == k) (has_id xs k) (has_id ys k))

ids_alike : (groups later : List ℤ) (id : ℕ) (more : List ℕ) → NamesToo groups id later → (k : ℕ) → has_id (ids_in groups ++ (id ∷ more)) k ≡ has_id (ids_in later ++ more) k
ids_alike groups later id more named k =
    has_id-append (ids_in groups) (id ∷ more) k ∙ sym (bool.or_assoc (has_id (ids_in groups) k) (id == k) (has_id more k))
    ∙ ap (λ b. b || has_id more k) (sym (named k)) ∙ sym (has_id-append (ids_in later) more k)

missing_left : (g : Group) (groups : List Group) (o : Option ℕ) → missing_fault (g ∷ groups) o ≡ left_out o
missing_left g groups None = refl
missing_left g groups (Some id) = refl

-- before the first group
pub ends_units : (trues : List Literal) (groups : List ℤ) → groups ≡ [] → Ends trues groups course.Propagates trues
ends_units trues groups none held lits place n hints =
    subst (λ (gs : List ℤ). fault_from Rat held lits place (led trues gs course.Propagates) (negsuc n ∷ hints) ≡ more_groups held trues lits (ids_in gs) (groups_of place (negsuc n ∷ hints))) (sym none) (first_group lits) where
      first_group : (lits : List Literal) → pivot_fault held trues lits (record { place = place; id = suc n; hints = first_hints hints } ∷ groups_of (place + 1) hints) ≡ more_groups held trues lits [] (record { place = place; id = suc n; hints = first_hints hints } ∷ groups_of (place + 1) hints)
      first_group [] = refl
      first_group (pivot ∷ rest) =
          ap (option_or (groups_fault held trues pivot (record { place = place; id = suc n; hints = first_hints hints } ∷ groups_of (place + 1) hints)))
          (missing_left (record { place = place; id = suc n; hints = first_hints hints }) (groups_of (place + 1) hints) (first_without held (negated pivot) (suc n ∷ ids_of (groups_of (place + 1) hints))))

-- after a group that is done
pub ends_group : (trues : List Literal) (groups : List ℤ) (before : ℕ) → Ends trues groups (course.InGroup before true) (take before trues)
ends_group trues groups before held lits place n hints = refl

-- in a group that is not
pub undone_group : (trues : List Literal) (groups : List ℤ) (before : ℕ) → IsUndone trues groups (course.InGroup before false) NoConflict
undone_group trues groups before held lits place n hints = refl

module _ (held : Held) (before new rest : List Literal) (pivot : Literal) (groups : List ℤ) (place n : ℕ) where
  pub group_stops_at : (fault : StepFault) → Opens held before pivot place (suc n) (Err fault) new → (hints : List ℤ) → more_groups held before (pivot ∷ rest) (ids_in groups) (groups_of place (negsuc n ∷ hints)) ≡ Some fault
  group_stops_at fault opens hints =
      ap (λ e. option_or (option_or (outcome_fault e) (groups_fault held before pivot (groups_of (place + 1) hints))) (left_out (first_without held (negated pivot) (ids_in groups ++ (suc n ∷ ids_of (groups_of (place + 1) hints)))))) (opens (first_hints hints))

  group_rest_so : (h : Hinting) → Opens held before pivot place (suc n) (Ok h) new → (hints : List ℤ) → outcome_fault (take_group held before pivot (record { place = place; id = suc n; hints = hints })) ≡ outcome_fault (group_rest held (unless_done (has_met h) new) (place + 1) hints)
  group_rest_so hinting.More opens hints = ap outcome_fault (opens.2 hints) ∙ alike_fault held opens.0 new (place + 1) hints opens.1
  group_rest_so hinting.Conflict opens hints = ap outcome_fault (opens hints)

  pub group_opens : (later : List ℤ) (h : Hinting) (count : ℕ) → NamesToo groups (suc n) later → Opens held before pivot place (suc n) (Ok h) new → Extends before new → count ≡ length before
      → (hints : List ℤ) → more_groups held before (pivot ∷ rest) (ids_in groups) (groups_of place (negsuc n ∷ hints)) ≡ fault_from Rat held (pivot ∷ rest) (place + 1) (led new later (course.InGroup count (has_met h))) hints
  group_opens later h count named opens grows is hints =
      let gs = groups_of (place + 1) hints in
      let same_ids : first_without held (negated pivot) (ids_in groups ++ (suc n ∷ ids_of gs)) ≡ first_without held (negated pivot) (ids_in later ++ ids_of gs) =
      without_alike held (negated pivot) (ids_in groups ++ (suc n ∷ ids_of gs)) (ids_in later ++ ids_of gs) (ids_alike groups later (suc n) (ids_of gs) named) in
      or_assoc (outcome_fault (take_group held before pivot (record { place = place; id = suc n; hints = first_hints hints }))) (groups_fault held before pivot gs) (left_out (first_without held (negated pivot) (ids_in groups ++ (suc n ∷ ids_of gs))))
      ∙ ap (λ o. option_or o (option_or (groups_fault held before pivot gs) (left_out (first_without held (negated pivot) (ids_in groups ++ (suc n ∷ ids_of gs)))))) (group_rest_so h opens (first_hints hints))
      ∙ ap (λ o. option_or (outcome_fault (group_rest held (unless_done (has_met h) new) (place + 1) (first_hints hints))) (option_or (groups_fault held before pivot gs) (left_out o))) same_ids
      ∙ ap (λ base. option_or (outcome_fault (group_rest held (unless_done (has_met h) new) (place + 1) (first_hints hints))) (more_groups held base (pivot ∷ rest) (ids_in later) gs)) (sym (taken_whole before new count is grows))

-- ---- the end

pub none_left_out : (held : Held) (before lits : List Literal) (ids : List ℕ) → more_groups held before lits ids [] ≡ left_out (missing_of held ids lits)
none_left_out held before [] ids = refl
none_left_out held before (pivot ∷ rest) ids = ap (λ xs. left_out (first_without held (negated pivot) xs)) (append-nil ids)

-- ---- the addition

module _ (held : Held) (lits trues new : List Literal) (groups : List ℤ) (o next : Opened) (hint : ℤ) (same_id : next.id ≡ o.id) (up : next.hints ≤ o.hints + 1) (count : HasPlace o.hints → next.hints ≡ o.hints + 1) where
  pub passes_over : (rule : Rule) → is_over o.course ≡ true → next.course ≡ o.course → IsUnitHint rule hint → Suits rule trues groups o.course → GoesOn rule held hint (Some (adding_of lits trues groups o)) (Some (adding_of lits trues groups next))
  passes_over rule over course_is unit suits =
      (same_id, refl, up, λ small hints. rw (count small, course_is) (over_goes_on rule held lits trues groups o.course (o.hints + 1) hint over unit suits hints))

  pub goes_on : (rule : Rule) (h : Hinting) → is_over o.course ≡ false → next.course ≡ onward o.course h → Took (take_hint held trues next.hints hint) (Ok h) new → Extends trues new → IsUnitHint rule hint → Suits rule trues groups o.course
      → GoesOn rule held hint (Some (adding_of lits trues groups o)) (Some (adding_of lits new groups next))
  goes_on rule h over course_is took grows unit suits = (
    same_id,
    refl,
    up,
    λ small hints. rw (count small, course_is)
        (unit_goes_on rule held lits trues new groups (o.hints + 1) hint unit o.course h over suits (subst (λ (k : ℕ). Took (take_hint held trues k hint) (Ok h) new) (count small) took) grows hints),
  )

pub halts : (rule : Rule) (held : Held) (lits trues : List Literal) (groups : List ℤ) (o : Opened) (hint : ℤ) (fault : StepFault) (place : ℕ) → (HasPlace o.hints → place ≡ o.hints + 1) → is_over o.course ≡ false → take_hint held trues place hint ≡ Stops fault → IsUnitHint rule hint → Suits rule trues groups o.course
    → StopsAt rule held hint (Some (adding_of lits trues groups o)) fault
halts rule held lits trues groups o hint fault place count over took unit suits small hints =
    unit_stops rule held lits trues trues groups (o.hints + 1) hint unit o.course fault over suits (subst (λ (k : ℕ). take_hint held trues k hint ≡ Stops fault) (count small) took) hints

-- a RAT hint is a negative one
pub as_group : (hint : ℤ) (id : ℕ) → Some id ≡ group_id hint → (n : ℕ) × (hint ≡ negsuc n) × (id ≡ suc n)
as_group (pos k) id is = absurd cc
as_group (negsuc n) id is = (n, refl, cc)

module _ (held : Held) (trues before : List Literal) (groups : List ℤ) (o : Opened) (hint : ℤ) (id : ℕ) (names : Some id ≡ group_id hint) where
  pub undone_halts : (lits : List Literal) (fault : StepFault) → IsUndone trues groups o.course fault → StopsAt Rat held hint (Some (adding_of lits trues groups o)) fault
  undone_halts lits fault undone small hints =
      let is = as_group hint id names in
      subst (λ (h : ℤ). fault_from Rat held lits (o.hints + 1) (led trues groups o.course) (h ∷ hints) ≡ Some fault) (sym is.1) (undone held lits (o.hints + 1) is.0 hints)

  module _ (ends : Ends trues groups o.course before) (place : ℕ) (count : HasPlace o.hints → place ≡ o.hints + 1) where
    pub empty_halts : StopsAt Rat held hint (Some (adding_of [] trues groups o)) (RatStep place)
    empty_halts small hints =
        let is = as_group hint id names in
        subst (λ (h : ℤ). fault_from Rat held [] (o.hints + 1) (led trues groups o.course) (h ∷ hints) ≡ Some (RatStep place)) (sym is.1)
        (ends held [] (o.hints + 1) is.0 hints ∙ ap (λ k. Some (RatStep k)) (sym (count small)))

    pub group_halts : (pivot : Literal) (rest new : List Literal) (fault : StepFault) → Opens held before pivot place id (Err fault) new → StopsAt Rat held hint (Some (adding_of (pivot ∷ rest) trues groups o)) fault
    group_halts pivot rest new fault opens small hints =
        let is = as_group hint id names in
        let so : Opens held before pivot (o.hints + 1) (suc is.0) (Err fault) new =
        subst (λ (k : ℕ). Opens held before pivot k (suc is.0) (Err fault) new) (count small) (subst (λ (k : ℕ). Opens held before pivot place k (Err fault) new) is.2 opens) in
        subst (λ (h : ℤ). fault_from Rat held (pivot ∷ rest) (o.hints + 1) (led trues groups o.course) (h ∷ hints) ≡ Some fault) (sym is.1)
        (ends held (pivot ∷ rest) (o.hints + 1) is.0 hints ∙ group_stops_at held before new rest pivot groups (o.hints + 1) is.0 fault so hints)

    pub group_goes : (pivot : Literal) (rest new : List Literal) (later : List ℤ) (h : Hinting) (held_before : ℕ) → place ≤ o.hints + 1 → held_before ≡ length before → NamesToo groups id later
        → Opens held before pivot place id (Ok h) new → Extends before new
        → GoesOn Rat held hint (Some (adding_of (pivot ∷ rest) trues groups o)) (Some (adding_of (pivot ∷ rest) new later (record { id = o.id; hints = place; course = course.InGroup held_before (has_met h) })))
    group_goes pivot rest new later h held_before up count_is named opens grows =
        let is = as_group hint id names in
        let too : NamesToo groups (suc is.0) later = subst (λ (k : ℕ). NamesToo groups k later) is.2 named in (
          refl,
          refl,
          up,
          λ small hints.
              let so : Opens held before pivot (o.hints + 1) (suc is.0) (Ok h) new =
              subst (λ (k : ℕ). Opens held before pivot k (suc is.0) (Ok h) new) (count small) (subst (λ (k : ℕ). Opens held before pivot place k (Ok h) new) is.2 opens) in
              rw (count small, is.1) (ends held (pivot ∷ rest) (o.hints + 1) is.0 hints ∙ group_opens held before new rest pivot groups (o.hints + 1) is.0 later h held_before too so grows count_is hints),
        )

-- the first literal, if there is one
pub first_of : (lits : List Literal) (pivot : Literal) → Some pivot ≡ slice_get lits 0 → (rest : List Literal) × (lits ≡ pivot ∷ rest)
first_of [] pivot is = absurd cc
first_of (l ∷ rest) pivot is = (rest, cc)

-- the fault of a lemma's groups, where one of them has a fault
pub groups_stop : (held : Held) (trues lits : List Literal) (pivot : Literal) (groups : List Group) (o : Option StepFault) → Some pivot ≡ slice_get lits 0 → o ≡ groups_fault held trues pivot groups → is_some o ≡ true → o ≡ pivot_fault held trues lits groups
groups_stop held trues lits pivot groups None first is there = cc
groups_stop held trues lits pivot groups (Some fault) first is there =
    let so = first_of lits pivot first in
    ap (λ o. option_or o (missing_fault groups (first_without held (negated pivot) (ids_of groups)))) is
    ∙ sym (ap (λ ls. pivot_fault held trues ls groups) so.1)

-- the fault of an addition that ends, where these are its literals and RAT hints
pub ended_fault : (rule : Rule) (held : Held) (trues lits ls : List Literal) (groups gs : List ℤ) (o : Opened) (r : Option StepFault) → ls ≡ lits → gs ≡ groups → Suits rule trues groups o.course
    → ((t : List Literal) (place : ℕ) → Suits rule t gs o.course → r ≡ fault_from rule held ls place (led t gs o.course) []) → fault_after rule held (adding_of lits trues groups o) [] ≡ r
ended_fault rule held trues lits ls groups gs o r same_lits same_groups suits told =
    let so : Suits rule trues gs o.course = subst (λ (xs : List ℤ). Suits rule trues xs o.course) (sym same_groups) suits in
    sym (
    told trues (o.hints + 1) so ∙ ap (λ (xs : List Literal). fault_from rule held xs (o.hints + 1) (led trues gs o.course) []) same_lits
    ∙ ap (λ (xs : List ℤ). fault_from rule held lits (o.hints + 1) (led trues xs o.course) []) same_groups
    )
