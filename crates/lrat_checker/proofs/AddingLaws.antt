-- The fault of a lemma, where lists of true literals have the same literals.
use Rattle.std.proofs.Common.{◌≡◌, ℕ, ◌+◌, ◌<◌, true, false, ◌||◌, cond, List, [], ◌∷◌, map, refl, sym, ap, ◌∙◌, subst, arith, inl, inr, Option, Some, None, ℤ, leb}
use Rattle.std.specs.Option.{option_or}
use Rattle.std.proofs.lemmas.Bool.{cases_Bool, leb-true}
use Rattle.lrat_model.specs.Literal.{Literal, negated, same, has}
use Rattle.lrat_model.specs.Clauses.{Held, clause_at}
use Rattle.lrat_model.specs.Propagation.{Outcome, Conflict, Stops, Leaves, propagate}
use Rattle.lrat_model.specs.Steps.{Database, literal_fault, outcome_fault}
use Rattle.lrat_model.specs.Rat.{Group, first_hints, groups_of, made_false, group_outcome, named_outcome, take_group, groups_fault, ids_of, first_without, missing_fault, pivot_fault, rest_fault}
use Rattle.lrat_model.specs.Rules.{hints_fault, addition_fault_by}
use Rattle.lrat_model.specs.Alike.{Alike}
use Rattle.lrat_model.specs.declared.step.Rule.{Rule}
use Rattle.lrat_model.specs.declared.step.Rule.TheVariants.{Rup, Rat}
use Rattle.lrat_model.specs.declared.step.StepFault.TheVariants.{RatStep}
use Rattle.lrat_model.proofs.AlikeLaws.{AreAlike, propagate-alike}
use Rattle.lrat_checker.specs.Adding.{unit_fault}
use Rattle.lrat_checker.specs.declared.opened.Opened.{Opened}
use Rattle.lrat_checker.specs.Courses.{adding}

same_fault : (xs ys : Outcome) → AreAlike xs ys → outcome_fault xs ≡ outcome_fault ys
same_fault Conflict ys is = sym (ap outcome_fault is)
same_fault (Stops fault) ys is = sym (ap outcome_fault is)
same_fault (Leaves trues) ys is = sym (ap outcome_fault is.1)

-- lists with the same literals lead to the same fault
pub alike_fault : (held : Held) (xs ys : List Literal) (place : ℕ) (hints : List ℤ) → Alike xs ys → outcome_fault (propagate held xs place hints) ≡ outcome_fault (propagate held ys place hints)
alike_fault held xs ys place hints alike = same_fault (propagate held xs place hints) (propagate held ys place hints) (propagate-alike held xs ys alike place hints)

-- ---- groups

abbrev IsSameMade : Option (List Literal) → Option (List Literal) → Type 0
IsSameMade None o = o ≡ None
IsSameMade (Some xs) o = (ys : List Literal) × (o ≡ Some ys) × Alike xs ys

made_alike : (l : Literal) (xs ys ms : List Literal) → Alike xs ys → IsSameMade (made_false l xs ms) (made_false l ys ms)
made_alike l xs ys [] alike = (ys, refl, alike)
made_alike l xs ys (m ∷ ms) alike =
    elim (same l m) as (λ b. IsSameMade (cond b (made_false l xs ms) (cond (has xs m) None (made_false l (negated m ∷ xs) ms))) (cond b (made_false l ys ms) (cond (has ys m) None (made_false l (negated m ∷ ys) ms)))) [
      | true ↦ made_alike l xs ys ms alike
      | false ↦ subst (λ b. IsSameMade (cond (has xs m) None (made_false l (negated m ∷ xs) ms)) (cond b None (made_false l (negated m ∷ ys) ms))) (alike m)
          (elim (has xs m) as (λ b. IsSameMade (cond b None (made_false l (negated m ∷ xs) ms)) (cond b None (made_false l (negated m ∷ ys) ms))) [
            | true ↦ refl
            | false ↦ made_alike l (negated m ∷ xs) (negated m ∷ ys) ms (λ k. ap (λ b. same k (negated m) || b) (alike k))
          ])
    ]

group_alike : (held : Held) (g : Group) (a b : Option (List Literal)) → IsSameMade a b → outcome_fault (group_outcome held g a) ≡ outcome_fault (group_outcome held g b)
group_alike held g None b is = sym (ap (λ o. outcome_fault (group_outcome held g o)) is)
group_alike held g (Some xs) b is = alike_fault held xs is.0 (g.place + 1) g.hints is.2 ∙ sym (ap (λ o. outcome_fault (group_outcome held g o)) is.1)

named_alike : (held : Held) (xs ys : List Literal) (pivot : Literal) (g : Group) (found : Option (List Literal)) → Alike xs ys → outcome_fault (named_outcome held xs pivot g found) ≡ outcome_fault (named_outcome held ys pivot g found)
named_alike held xs ys pivot g None alike = refl
named_alike held xs ys pivot g (Some clause) alike =
    elim (has clause (negated pivot)) as (λ b. outcome_fault (cond b (group_outcome held g (made_false (negated pivot) xs clause)) (Stops (RatStep g.place))) ≡ outcome_fault (cond b (group_outcome held g (made_false (negated pivot) ys clause)) (Stops (RatStep g.place)))) [
      | true ↦ group_alike held g (made_false (negated pivot) xs clause) (made_false (negated pivot) ys clause) (made_alike (negated pivot) xs ys clause alike)
      | false ↦ refl
    ]

groups_alike : (held : Held) (xs ys : List Literal) (pivot : Literal) (groups : List Group) → Alike xs ys → groups_fault held xs pivot groups ≡ groups_fault held ys pivot groups
groups_alike held xs ys pivot [] alike = refl
groups_alike held xs ys pivot (g ∷ groups) alike =
    ap (λ o. option_or o (groups_fault held xs pivot groups)) (named_alike held xs ys pivot g (clause_at held g.id) alike)
    ∙ ap (option_or (outcome_fault (take_group held ys pivot g))) (groups_alike held xs ys pivot groups alike)

pivot_alike : (held : Held) (xs ys lits : List Literal) (groups : List Group) → Alike xs ys → pivot_fault held xs lits groups ≡ pivot_fault held ys lits groups
pivot_alike held xs ys [] [] alike = refl
pivot_alike held xs ys [] (g ∷ groups) alike = refl
pivot_alike held xs ys (pivot ∷ rest) groups alike = ap (λ o. option_or o (missing_fault groups (first_without held (negated pivot) (ids_of groups)))) (groups_alike held xs ys pivot groups alike)

rest_alike : (held : Held) (lits : List Literal) (groups : List Group) (e f : Outcome) → AreAlike e f → rest_fault held lits groups e ≡ rest_fault held lits groups f
rest_alike held lits groups Conflict f is = sym (ap (rest_fault held lits groups) is)
rest_alike held lits groups (Stops fault) f is = sym (ap (rest_fault held lits groups) is)
rest_alike held lits groups (Leaves xs) f is = pivot_alike held xs is.0 lits groups is.2 ∙ sym (ap (rest_fault held lits groups) is.1)

-- ---- a lemma

pub unit_alike : (rule : Rule) (held : Held) (lits xs ys : List Literal) (place : ℕ) (hints : List ℤ) → Alike xs ys → unit_fault rule held lits xs place hints ≡ unit_fault rule held lits ys place hints
unit_alike Rup held lits xs ys place hints alike = alike_fault held xs ys place hints alike
unit_alike Rat held lits xs ys place hints alike =
    rest_alike held lits (groups_of place hints) (propagate held xs place (first_hints hints)) (propagate held ys place (first_hints hints)) (propagate-alike held xs ys alike place (first_hints hints))

begun_hints : (rule : Rule) (held : Held) (lits : List Literal) (hints : List ℤ) → unit_fault rule held lits (map negated lits) 1 hints ≡ hints_fault rule held lits hints
begun_hints Rup held lits hints = refl
begun_hints Rat held lits hints = refl

-- where id and literals have no fault, that of the addition is that of its hints
pub begun_fault : (rule : Rule) (vars : ℕ) (database : Database) (id : ℕ) (lits trues : List Literal) (hints : List ℤ) → database.last < id → literal_fault vars [] lits ≡ None → Alike (map negated lits) trues → unit_fault rule database.held lits trues 1 hints ≡ addition_fault_by rule vars database id lits hints
begun_fault rule vars database id lits trues hints above none alike = elim (cases_Bool (leb id database.last)) [
  | inl e ↦ let le = leb-true id database.last e in absurd (omega (arith, above))
  | inr e ↦ rw (e, none) (sym (unit_alike rule database.held lits (map negated lits) trues 1 hints alike) ∙ begun_hints rule database.held lits hints)
]

-- no addition is open where none is shown
pub not_opened : (lits trues : List Literal) (groups : List ℤ) (o : Option Opened) → adding lits trues groups o ≡ None → o ≡ None
not_opened lits trues groups None is = refl
not_opened lits trues groups (Some o) is = cc
