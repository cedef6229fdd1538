-- The worked journal of three nodes that each need two of the three.
use Rattle.std.proofs.Common.{◌≡◌, [], ◌∷◌, refl, Some, pos}
use Rattle.lrat_model.specs.Literal.{Minus}
use Rattle.lrat_model.specs.Steps.{Addition}
use Rattle.enumeration_journal.specs.Journals.{SetLine, StepLine}
use Rattle.enumeration_journal.specs.declared.kinds.Listed.TheVariants.{Smaller, Blocking}
use Rattle.enumeration_journal.proofs.ListSamples.{ab, ac, bc, abc}
use Rattle.least_journal.specs.Least.{clause_in, answer_of}

-- fewer than two
quorum_of_two : clause_in abc Smaller ab ≡ Minus 8 ∷ []
quorum_of_two = refl

worked : answer_of (SetLine Smaller 10 ab ∷ SetLine Blocking 11 ab ∷ SetLine Blocking 12 ac ∷ SetLine Blocking 13 bc
    ∷ StepLine (Addition 14 (Minus 2 ∷ []) (pos 3 ∷ pos 10 ∷ pos 8 ∷ pos 7 ∷ pos 4 ∷ pos 1 ∷ pos 12 ∷ [])) ∷ StepLine (Addition 15 [] (pos 14 ∷ pos 11 ∷ pos 13 ∷ pos 1 ∷ pos 2 ∷ pos 10 ∷ pos 8 ∷ [])) ∷ []) ≡ Some ab
worked = refl
