-- By hand: the split formulas of three nodes that each need two, of two that need one without a quorum set, and of the three nodes
-- where one is deleted and two are one group; what the three nodes' list is.
use Rattle.std.proofs.Common.{◌≡◌, ◌&&◌, ◌||◌, [], ◌∷◌, true, false, Some, None, refl, pos}
use Rattle.fbas_model.specs.Nodes.{Table, members}
use Rattle.fbas_model.specs.Trees.{quorum_set, none, node}
use Rattle.fbas_model.specs.Fbas.{Fbas}
use Rattle.lrat_model.specs.Literal.{Plus, Minus}
use Rattle.clause_encoder.specs.declared.version.Version.TheVariants.{Two, Three}
use Rattle.lrat_model.specs.Steps.{Addition}
use Rattle.enumeration_journal.specs.Journals.{SetLine, StepLine, sets_in}
use Rattle.enumeration_journal.specs.Order.{ordered}
use Rattle.enumeration_journal.specs.declared.kinds.Listed.TheVariants.{Smaller}
use Rattle.split_journal.specs.Minimal.{minimal_among}
use Rattle.split_journal.specs.Nodes.{alone, is_split_by}
use Rattle.split_journal.specs.Rules.{least_split_answer}
use Rattle.split_journal.specs.Formula.{left_of, split_clauses, split_vars}

three : Fbas
three = Some (quorum_set 2 (node 0 (node 1 (node 2 none)))) ∷ Some (quorum_set 2 (node 0 (node 1 (node 2 none)))) ∷ Some (quorum_set 2 (node 0 (node 1 (node 2 none)))) ∷ []

nobody : Table
nobody = false ∷ false ∷ false ∷ []

variables_of_three : split_vars Three three nobody 3 (left_of three (members nobody)) ≡ 25
unfolding three nobody
variables_of_three = refl

of_three : split_clauses Three three nobody 3 (left_of three (members nobody)) (alone 3) ≡ (Plus 4 ∷ Plus 5 ∷ Plus 6 ∷ []) ∷ (Plus 7 ∷ Plus 8 ∷ Plus 9 ∷ []) ∷ (Minus 4 ∷ Minus 7 ∷ []) ∷ (Minus 5 ∷ Minus 8 ∷ []) ∷ (Minus 6 ∷ Minus 9 ∷ []) ∷ (Minus 16 ∷ Plus 10 ∷ []) ∷ (Minus 17 ∷ Plus 16 ∷ Plus 11 ∷ []) ∷ (Minus 18 ∷ Plus 11 ∷ []) ∷ (Minus 18 ∷ Plus 16 ∷ []) ∷ (Minus 19 ∷ Plus 17 ∷ Plus 12 ∷ []) ∷ (Minus 20 ∷ Plus 18 ∷ Plus 12 ∷ []) ∷ (Minus 20 ∷ Plus 18 ∷ Plus 17 ∷ []) ∷ (Minus 4 ∷ Plus 20 ∷ []) ∷ (Minus 5 ∷ Plus 20 ∷ []) ∷ (Minus 6 ∷ Plus 20 ∷ []) ∷ (Minus 21 ∷ Plus 13 ∷ []) ∷ (Minus 22 ∷ Plus 21 ∷ Plus 14 ∷ []) ∷ (Minus 23 ∷ Plus 14 ∷ []) ∷ (Minus 23 ∷ Plus 21 ∷ []) ∷ (Minus 24 ∷ Plus 22 ∷ Plus 15 ∷ []) ∷ (Minus 25 ∷ Plus 23 ∷ Plus 15 ∷ []) ∷ (Minus 25 ∷ Plus 23 ∷ Plus 22 ∷ []) ∷ (Minus 7 ∷ Plus 25 ∷ []) ∷ (Minus 8 ∷ Plus 25 ∷ []) ∷ (Minus 9 ∷ Plus 25 ∷ []) ∷ (Minus 4 ∷ Minus 1 ∷ []) ∷ (Minus 5 ∷ Minus 2 ∷ []) ∷ (Minus 6 ∷ Minus 3 ∷ []) ∷ (Minus 7 ∷ Minus 1 ∷ []) ∷ (Minus 8 ∷ Minus 2 ∷ []) ∷ (Minus 9 ∷ Minus 3 ∷ []) ∷ (Minus 10 ∷ Plus 4 ∷ Plus 1 ∷ []) ∷ (Minus 11 ∷ Plus 5 ∷ Plus 2 ∷ []) ∷ (Minus 12 ∷ Plus 6 ∷ Plus 3 ∷ []) ∷ (Minus 13 ∷ Plus 7 ∷ Plus 1 ∷ []) ∷ (Minus 14 ∷ Plus 8 ∷ Plus 2 ∷ []) ∷ (Minus 15 ∷ Plus 9 ∷ Plus 3 ∷ []) ∷ []
unfolding three nobody split_clauses
of_three = refl

around : Fbas
around = Some (quorum_set 1 (node 1 none)) ∷ None ∷ Some (quorum_set 1 (node 1 none)) ∷ []

around_one : split_clauses Two around nobody 3 (left_of around (members nobody)) (alone 3) ≡ (Plus 4 ∷ Plus 5 ∷ []) ∷ (Plus 6 ∷ Plus 7 ∷ []) ∷ (Minus 4 ∷ Minus 6 ∷ []) ∷ (Minus 5 ∷ Minus 7 ∷ []) ∷ (Minus 14 ∷ Plus 9 ∷ []) ∷ (Minus 4 ∷ Plus 14 ∷ []) ∷ (Minus 5 ∷ Plus 14 ∷ []) ∷ (Minus 15 ∷ Plus 12 ∷ []) ∷ (Minus 6 ∷ Plus 15 ∷ []) ∷ (Minus 7 ∷ Plus 15 ∷ []) ∷ (Minus 4 ∷ Minus 1 ∷ []) ∷ (Minus 5 ∷ Minus 3 ∷ []) ∷ (Minus 6 ∷ Minus 1 ∷ []) ∷ (Minus 7 ∷ Minus 3 ∷ []) ∷ (Minus 8 ∷ Plus 4 ∷ Plus 1 ∷ []) ∷ (Minus 9 ∷ Plus 2 ∷ []) ∷ (Minus 10 ∷ Plus 5 ∷ Plus 3 ∷ []) ∷ (Minus 11 ∷ Plus 6 ∷ Plus 1 ∷ []) ∷ (Minus 12 ∷ Plus 2 ∷ []) ∷ (Minus 13 ∷ Plus 7 ∷ Plus 3 ∷ []) ∷ []
unfolding around nobody split_clauses
around_one = refl

first : Table
first = true ∷ false ∷ false ∷ []

without_first : split_clauses Two three first 2 (left_of three (members first)) ((false ∷ false ∷ true ∷ []) ∷ (true ∷ true ∷ false ∷ []) ∷ []) ≡ (Plus 3 ∷ Plus 4 ∷ []) ∷ (Plus 5 ∷ Plus 6 ∷ []) ∷ (Minus 3 ∷ Minus 5 ∷ []) ∷ (Minus 4 ∷ Minus 6 ∷ []) ∷ (Minus 11 ∷ Plus 7 ∷ Plus 8 ∷ []) ∷ (Minus 3 ∷ Plus 11 ∷ []) ∷ (Minus 4 ∷ Plus 11 ∷ []) ∷ (Minus 12 ∷ Plus 9 ∷ Plus 10 ∷ []) ∷ (Minus 5 ∷ Plus 12 ∷ []) ∷ (Minus 6 ∷ Plus 12 ∷ []) ∷ (Minus 3 ∷ Minus 2 ∷ []) ∷ (Minus 4 ∷ Minus 1 ∷ []) ∷ (Minus 5 ∷ Minus 2 ∷ []) ∷ (Minus 6 ∷ Minus 1 ∷ []) ∷ (Minus 7 ∷ Plus 3 ∷ Plus 2 ∷ []) ∷ (Minus 8 ∷ Plus 4 ∷ Plus 1 ∷ []) ∷ (Minus 9 ∷ Plus 5 ∷ Plus 2 ∷ []) ∷ (Minus 10 ∷ Plus 6 ∷ Plus 1 ∷ []) ∷ []
unfolding three first split_clauses
without_first = refl

-- what a search lists for the three nodes: each shows that it splits by a quorum of another
second : Table
second = false ∷ true ∷ false ∷ []

third : Table
third = false ∷ false ∷ true ∷ []

evidence : (is_split_by three nobody third second && (is_split_by three nobody second first && is_split_by three nobody first third)) ≡ true
unfolding three nobody first second third
evidence = refl

no_fork : (is_split_by three nobody nobody first || is_split_by three nobody nobody (true ∷ true ∷ false ∷ [])) ≡ false
unfolding three nobody first
no_fork = refl

listed : ordered (minimal_among (sets_in Smaller (SetLine Smaller 43 third ∷ SetLine Smaller 44 second ∷ SetLine Smaller 45 first ∷ StepLine (Addition 46 [] (pos 43 ∷ pos 44 ∷ pos 41 ∷ pos 45 ∷ [])) ∷ []))) ≡ first ∷ second ∷ third ∷ []
unfolding first second third
listed = refl

-- what has a listed part is left out
larger_left_out : minimal_among ((true ∷ true ∷ false ∷ []) ∷ third ∷ first ∷ []) ≡ third ∷ first ∷ []
unfolding first third
larger_left_out = refl

last : least_split_answer (SetLine Smaller 61 second ∷ SetLine Smaller 62 nobody ∷ []) ≡ Some nobody
unfolding second nobody
last = refl
