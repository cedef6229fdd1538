-- What the definition answers for RAT steps on the formula of three nodes that each need two of the three.
use Rattle.std.specs.Prelude.{◌≡◌, refl, List, [], ◌∷◌, Some, None, pos, negsuc}
use Rattle.lrat_model.specs.Literal.{Literal, Plus, Minus}
use Rattle.lrat_model.specs.Steps.{Addition, Database}
use Rattle.lrat_model.specs.Runs.{formula_database}
use Rattle.lrat_model.specs.Rules.{step_fault_by}
use Rattle.lrat_model.specs.declared.step.Rule.TheVariants.{Rup, Rat}
use Rattle.lrat_model.specs.declared.step.StepFault.TheVariants.{RatStep, RatMissing, NoConflict, NoSuchClause}

-- 53 clauses over 36 variables
clauses : List (List Literal)
clauses =
    (Plus 1 ∷ Plus 2 ∷ Plus 3 ∷ []) ∷
    (Plus 4 ∷ Plus 5 ∷ Plus 6 ∷ []) ∷
    (Minus 1 ∷ Minus 4 ∷ []) ∷
    (Minus 2 ∷ Minus 5 ∷ []) ∷
    (Minus 3 ∷ Minus 6 ∷ []) ∷
    (Minus 7 ∷ Plus 1 ∷ []) ∷
    (Minus 8 ∷ Plus 7 ∷ Plus 2 ∷ []) ∷
    (Minus 9 ∷ Plus 2 ∷ []) ∷
    (Minus 9 ∷ Plus 7 ∷ []) ∷
    (Minus 10 ∷ Plus 8 ∷ Plus 3 ∷ []) ∷
    (Minus 11 ∷ Plus 9 ∷ Plus 3 ∷ []) ∷
    (Minus 11 ∷ Plus 9 ∷ Plus 8 ∷ []) ∷
    (Minus 1 ∷ Plus 11 ∷ []) ∷
    (Minus 12 ∷ Plus 1 ∷ []) ∷
    (Minus 13 ∷ Plus 12 ∷ Plus 2 ∷ []) ∷
    (Minus 14 ∷ Plus 2 ∷ []) ∷
    (Minus 14 ∷ Plus 12 ∷ []) ∷
    (Minus 15 ∷ Plus 13 ∷ Plus 3 ∷ []) ∷
    (Minus 16 ∷ Plus 14 ∷ Plus 3 ∷ []) ∷
    (Minus 16 ∷ Plus 14 ∷ Plus 13 ∷ []) ∷
    (Minus 2 ∷ Plus 16 ∷ []) ∷
    (Minus 17 ∷ Plus 1 ∷ []) ∷
    (Minus 18 ∷ Plus 17 ∷ Plus 2 ∷ []) ∷
    (Minus 19 ∷ Plus 2 ∷ []) ∷
    (Minus 19 ∷ Plus 17 ∷ []) ∷
    (Minus 20 ∷ Plus 18 ∷ Plus 3 ∷ []) ∷
    (Minus 21 ∷ Plus 19 ∷ Plus 3 ∷ []) ∷
    (Minus 21 ∷ Plus 19 ∷ Plus 18 ∷ []) ∷
    (Minus 3 ∷ Plus 21 ∷ []) ∷
    (Minus 22 ∷ Plus 4 ∷ []) ∷
    (Minus 23 ∷ Plus 22 ∷ Plus 5 ∷ []) ∷
    (Minus 24 ∷ Plus 5 ∷ []) ∷
    (Minus 24 ∷ Plus 22 ∷ []) ∷
    (Minus 25 ∷ Plus 23 ∷ Plus 6 ∷ []) ∷
    (Minus 26 ∷ Plus 24 ∷ Plus 6 ∷ []) ∷
    (Minus 26 ∷ Plus 24 ∷ Plus 23 ∷ []) ∷
    (Minus 4 ∷ Plus 26 ∷ []) ∷
    (Minus 27 ∷ Plus 4 ∷ []) ∷
    (Minus 28 ∷ Plus 27 ∷ Plus 5 ∷ []) ∷
    (Minus 29 ∷ Plus 5 ∷ []) ∷
    (Minus 29 ∷ Plus 27 ∷ []) ∷
    (Minus 30 ∷ Plus 28 ∷ Plus 6 ∷ []) ∷
    (Minus 31 ∷ Plus 29 ∷ Plus 6 ∷ []) ∷
    (Minus 31 ∷ Plus 29 ∷ Plus 28 ∷ []) ∷
    (Minus 5 ∷ Plus 31 ∷ []) ∷
    (Minus 32 ∷ Plus 4 ∷ []) ∷
    (Minus 33 ∷ Plus 32 ∷ Plus 5 ∷ []) ∷
    (Minus 34 ∷ Plus 5 ∷ []) ∷
    (Minus 34 ∷ Plus 32 ∷ []) ∷
    (Minus 35 ∷ Plus 33 ∷ Plus 6 ∷ []) ∷
    (Minus 36 ∷ Plus 34 ∷ Plus 6 ∷ []) ∷
    (Minus 36 ∷ Plus 34 ∷ Plus 33 ∷ []) ∷
    (Minus 6 ∷ Plus 36 ∷ []) ∷
    []

two_of_three : Database
two_of_three = formula_database clauses

-- the other literal of clause 6, `-7 1`, is true already
satisfied_at_once : step_fault_by Rat 36 two_of_three (Addition 54 (Plus 7 ∷ Minus 1 ∷ []) (negsuc 5 ∷ [])) ≡ None
unfolding two_of_three clauses
satisfied_at_once = refl

-- clause 4, `-2 -5`, has no -7
no_pivot : step_fault_by Rat 36 two_of_three (Addition 54 (Plus 7 ∷ Minus 1 ∷ []) (negsuc 3 ∷ [])) ≡ Some (RatStep 1)
unfolding two_of_three clauses
no_pivot = refl

-- both clauses with -9 have a group
both_named : step_fault_by Rat 36 two_of_three (Addition 54 (Plus 9 ∷ Minus 2 ∷ Minus 7 ∷ []) (negsuc 7 ∷ negsuc 8 ∷ [])) ≡ None
unfolding two_of_three clauses
both_named = refl

-- clause 9 has none
one_missing : step_fault_by Rat 36 two_of_three (Addition 54 (Plus 9 ∷ Minus 2 ∷ Minus 7 ∷ []) (negsuc 7 ∷ [])) ≡ Some (RatMissing 9)
unfolding two_of_three clauses
one_missing = refl

-- without RAT hints the first of them is refused
not_under_rup : step_fault_by Rup 36 two_of_three (Addition 54 (Plus 7 ∷ Minus 1 ∷ []) (negsuc 5 ∷ [])) ≡ Some (RatStep 1)
unfolding two_of_three clauses
not_under_rup = refl

-- clause 13 has 11, and without any group this is no `RatMissing`
no_group : step_fault_by Rat 36 two_of_three (Addition 54 (Minus 11 ∷ Plus 9 ∷ []) []) ≡ Some NoConflict
unfolding two_of_three clauses
no_group = refl

-- no clause has 10
no_group_needed : step_fault_by Rat 36 two_of_three (Addition 54 (Minus 10 ∷ []) []) ≡ None
unfolding two_of_three clauses
no_group_needed = refl

-- a conflict before the first group ends the step, whatever comes after it
conflict_first : step_fault_by Rat 36 two_of_three (Addition 54 (Minus 7 ∷ Plus 1 ∷ []) (pos 6 ∷ negsuc 98 ∷ [])) ≡ None
unfolding two_of_three clauses
conflict_first = refl

-- in the group of 6 only 1 is made false, and no hint leads to a conflict
group_undone : step_fault_by Rat 36 two_of_three (Addition 54 (Plus 7 ∷ []) (negsuc 5 ∷ [])) ≡ Some NoConflict
unfolding two_of_three clauses
group_undone = refl

-- they are skipped even where no clause is held
hints_of_a_done_group : step_fault_by Rat 36 two_of_three (Addition 54 (Plus 7 ∷ Minus 1 ∷ []) (negsuc 5 ∷ pos 99 ∷ pos 100 ∷ [])) ≡ None
unfolding two_of_three clauses
hints_of_a_done_group = refl

-- it has no pivot
empty_lemma : step_fault_by Rat 36 two_of_three (Addition 54 [] (negsuc 5 ∷ [])) ≡ Some (RatStep 1)
unfolding two_of_three clauses
empty_lemma = refl

-- the clause of a group is to be held
unheld_group : step_fault_by Rat 36 two_of_three (Addition 54 (Plus 7 ∷ Minus 1 ∷ []) (negsuc 59 ∷ [])) ≡ Some (NoSuchClause 60)
unfolding two_of_three clauses
unheld_group = refl

-- a group's end is judged before the next group begins
group_before_next_fault : step_fault_by Rat 36 two_of_three (Addition 54 (Plus 7 ∷ []) (negsuc 5 ∷ negsuc 59 ∷ [])) ≡ Some NoConflict
unfolding two_of_three clauses
group_before_next_fault = refl

-- a second group for one clause is taken
second_group : step_fault_by Rat 36 two_of_three (Addition 54 (Plus 7 ∷ Minus 1 ∷ []) (negsuc 5 ∷ negsuc 5 ∷ [])) ≡ None
unfolding two_of_three clauses
second_group = refl
