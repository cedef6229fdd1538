-- Steps over other clauses, with their lemmas under other ids.
use Rattle.std.specs.Prelude.{◌≡◌, ℕ, ◌+◌, ◌≤◌, List, [], ◌∷◌}
use Rattle.lrat_model.specs.Steps.{ProofStep, Addition, Deletion}

-- the id is as far past the one base as the new one is past the other
abbrev pub IsMoved : ℕ → ℕ → ℕ → ℕ → Type 0
IsMoved from to id new = (past : ℕ) × (1 ≤ past) × (id ≡ from + past) × (new ≡ to + past)

abbrev pub AreMoved : ℕ → ℕ → List ℕ → List ℕ → Type 0
AreMoved from to [] [] = Unit {0}
AreMoved from to [] (new ∷ news) = ⊥
AreMoved from to (id ∷ ids) [] = ⊥
AreMoved from to (id ∷ ids) (new ∷ news) = IsMoved from to id new × AreMoved from to ids news

-- the same lemma with other hints, or the deletion of the same lemmas
abbrev pub IsMovedStep : ℕ → ℕ → ProofStep → ProofStep → Type 0
IsMovedStep from to (Addition id lits hints) (Addition new news more) = IsMoved from to id new × (news ≡ lits)
IsMovedStep from to (Addition id lits hints) (Deletion new news) = ⊥
IsMovedStep from to (Deletion id ids) (Addition new news more) = ⊥
IsMovedStep from to (Deletion id ids) (Deletion new news) = AreMoved from to ids news

-- step by step
abbrev pub AreMovedSteps : ℕ → ℕ → List ProofStep → List ProofStep → Type 0
AreMovedSteps from to [] [] = Unit {0}
AreMovedSteps from to [] (new ∷ news) = ⊥
AreMovedSteps from to (step ∷ steps) [] = ⊥
AreMovedSteps from to (step ∷ steps) (new ∷ news) = IsMovedStep from to step new × AreMovedSteps from to steps news
