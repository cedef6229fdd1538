-- The definitions on three nodes that each need two of the three.
use Rattle.std.proofs.Common.{◌≡◌, true, false, List, [], ◌∷◌, refl, Some, pos}
use Rattle.fbas_model.specs.Nodes.{Table, members}
use Rattle.fbas_model.specs.Trees.{quorum_set, node, none}
use Rattle.fbas_model.specs.Fbas.{Fbas}
use Rattle.lrat_model.specs.Literal.{Plus, Minus}
use Rattle.lrat_model.specs.Steps.{Addition}
use Rattle.greatest_quorum.specs.Greatest.{greatest_of}
use Rattle.enumeration_journal.specs.Tests.{is_blocking, is_minimal}
use Rattle.enumeration_journal.specs.Order.{ordered}
use Rattle.enumeration_journal.specs.Numbering.{clause_for}
use Rattle.enumeration_journal.specs.declared.kinds.Listed.TheVariants.{Quorum, Blocking}
use Rattle.enumeration_journal.specs.Journals.{JournalLine, SetLine, StepLine, list_of, sets_in, journal_units}

abbrev three : Fbas
three = Some (quorum_set 2 (node 0 (node 1 (node 2 none)))) ∷ Some (quorum_set 2 (node 0 (node 1 (node 2 none)))) ∷ Some (quorum_set 2 (node 0 (node 1 (node 2 none)))) ∷ []

abbrev nobody : Table
nobody = false ∷ false ∷ false ∷ []

abbrev a : Table
a = true ∷ false ∷ false ∷ []

abbrev pub ab : Table
ab = true ∷ true ∷ false ∷ []

abbrev pub ac : Table
ac = true ∷ false ∷ true ∷ []

abbrev pub bc : Table
bc = false ∷ true ∷ true ∷ []

abbrev pub abc : Table
abc = true ∷ true ∷ true ∷ []

clause_of_quorum : clause_for Blocking abc Quorum ac ≡ Plus 1 ∷ Plus 3 ∷ []
clause_of_quorum = refl

clause_of_block : clause_for Blocking abc Blocking bc ≡ Minus 2 ∷ Minus 3 ∷ []
clause_of_block = refl

all_three : greatest_of three nobody ≡ abc
unfolding greatest_of
all_three = refl

-- the worked journal
abbrev worked : List JournalLine
worked = SetLine Quorum 1 ab ∷ SetLine Quorum 2 ac ∷ SetLine Quorum 3 bc ∷ SetLine Blocking 4 ab ∷ SetLine Blocking 5 ac ∷ SetLine Blocking 6 bc
    ∷ StepLine (Addition 7 (Minus 1 ∷ []) (pos 4 ∷ pos 5 ∷ pos 3 ∷ [])) ∷ StepLine (Addition 8 [] (pos 7 ∷ pos 1 ∷ pos 2 ∷ pos 6 ∷ [])) ∷ []

worked_sets : sets_in Blocking worked ≡ ab ∷ ac ∷ bc ∷ []
worked_sets = refl

worked_units : journal_units (list_of Blocking three (members nobody) abc) worked ≡ 7
worked_units = refl

-- ---- the tests of sets

not_blocking : is_blocking three nobody a ≡ false
not_blocking = refl

blocking : is_blocking three nobody ab ≡ true
blocking = refl

not_minimal : is_minimal Blocking three nobody abc ≡ false
not_minimal = refl

minimal : is_minimal Blocking three nobody bc ≡ true
minimal = refl

quorum_of_all : is_minimal Quorum three nobody abc ≡ false
quorum_of_all = refl

quorum_of_two : is_minimal Quorum three nobody ac ≡ true
quorum_of_two = refl

-- with the signs turned
clause_of_sought_quorum : clause_for Quorum abc Quorum ac ≡ Minus 1 ∷ Minus 3 ∷ []
clause_of_sought_quorum = refl

-- without a quorum nobody blocks
nobody_blocks : is_blocking [] [] [] ≡ true
nobody_blocks = refl

in_order : ordered (bc ∷ ab ∷ ac ∷ ab ∷ []) ≡ ab ∷ ac ∷ bc ∷ []
in_order = refl
