-- The faults of a deletion, one id after another.
use Rattle.std.proofs.Common.{◌≡◌, ℕ, ◌<◌, ◌+◌, Bool, true, false, not, ◌&&◌, ◌||◌, cond, List, [], ◌∷◌, ◌++◌, length, get_or, take, drop, refl, sym, ap, ◌∙◌, Option, Some, None}
use Rattle.std.specs.Prelude.{is_some, is_none}
use Rattle.std.proofs.lemmas.List.{take_more, drop_more}
use Rattle.lrat_model.specs.Literal.{Literal}
use Rattle.lrat_model.specs.Clauses.{clause_at, has_id}
use Rattle.lrat_model.specs.Steps.{deletion_fault}
use Rattle.lrat_model.specs.declared.step.StepFault.TheVariants.{NoSuchClause}
use Rattle.clause_store.specs.declared.index.Entry.{Entry}
use Rattle.clause_store.specs.Entries.{is_held_in, marked}
use Rattle.clause_store.specs.Shown.{held_in}
use Rattle.clause_store.proofs.EntryLaws.{held-marked}
use Rattle.clause_store.proofs.ArenaLaws.{is_some-clause_at}

-- the test for a fault, by what is there
test_is : (found : Option (List Literal)) (came : Bool) → (is_none found || came) ≡ not (is_some found && not came)
test_is None true = refl
test_is None false = refl
test_is (Some clause) true = refl
test_is (Some clause) false = refl

module _ (arena : List Literal) (start now : List Entry) (ids : List ℕ) (i : ℕ) (within : i < length ids) (so_far : now ≡ marked start (take i ids) false) where
  fault_test : (is_none (clause_at (held_in arena start) (get_or ids i 0)) || has_id (take i ids) (get_or ids i 0)) ≡ not (is_held_in now (get_or ids i 0))
  fault_test =
      let id = get_or ids i 0 in
      test_is (clause_at (held_in arena start) id) (has_id (take i ids) id)
      ∙ ap (λ b. not (b && not (has_id (take i ids) id))) (is_some-clause_at arena start id)
      ∙ ap not (sym (held-marked start (take i ids) id))
      ∙ ap (λ es. not (is_held_in es id)) (sym so_far)

  -- the fault at this id, or after it
  fault_at : deletion_fault (held_in arena start) (take i ids) (drop i ids) ≡ cond (not (is_held_in now (get_or ids i 0))) (Some (NoSuchClause (get_or ids i 0))) (deletion_fault (held_in arena start) (take i ids ++ get_or ids i 0 ∷ []) (drop (i + 1) ids))
  fault_at =
      let id = get_or ids i 0 in
      ap (deletion_fault (held_in arena start) (take i ids)) (drop_more ids i 0 within)
      ∙ ap (λ b. cond b (Some (NoSuchClause id)) (deletion_fault (held_in arena start) (take i ids ++ id ∷ []) (drop (i + 1) ids))) fault_test

  pub fault_here : is_held_in now (get_or ids i 0) ≡ false → deletion_fault (held_in arena start) (take i ids) (drop i ids) ≡ Some (NoSuchClause (get_or ids i 0))
  fault_here off = fault_at ∙ ap (λ b. cond (not b) (Some (NoSuchClause (get_or ids i 0))) (deletion_fault (held_in arena start) (take i ids ++ get_or ids i 0 ∷ []) (drop (i + 1) ids))) off

  pub fault_later : is_held_in now (get_or ids i 0) ≡ true → deletion_fault (held_in arena start) (take (i + 1) ids) (drop (i + 1) ids) ≡ deletion_fault (held_in arena start) (take i ids) (drop i ids)
  fault_later on =
      ap (λ ks. deletion_fault (held_in arena start) ks (drop (i + 1) ids)) (take_more ids i 0 within)
      ∙ sym (fault_at ∙ ap (λ b. cond (not b) (Some (NoSuchClause (get_or ids i 0))) (deletion_fault (held_in arena start) (take i ids ++ get_or ids i 0 ∷ []) (drop (i + 1) ids))) on)
