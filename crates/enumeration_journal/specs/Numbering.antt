-- The variables of the nodes of the greatest quorum, and the clauses that sets of them stand for.
use Rattle.std.specs.Prelude.{ℕ, ◌+◌, ◌-◌, Bool, false, List, map, slice_index_or}
use Rattle.fbas_model.specs.Nodes.{Table, listed_from}
use Rattle.fbas_model.specs.Restriction.{rank, kept}
use Rattle.lrat_model.specs.Literal.{Literal}
use Rattle.enumeration_journal.specs.Kinds.{signed}
use Rattle.enumeration_journal.specs.declared.kinds.Listed.{Listed}

-- the variable of a node of g: i for its i-th node
abbrev pub variable_in : Table → ℕ → ℕ
variable_in g v = rank g v + 1

-- the clause of a set where sets of a kind are sought: of a sought set that a node is missing, of another that one is there
abbrev pub clause_for : Listed → Table → Listed → Table → List Literal
clause_for sought g which set = map (λ v. signed sought which (variable_in g v)) (listed_from 0 set)

-- the assignment of a set: the variables of its nodes are true
abbrev pub assignment_of : Table → Table → ℕ → Bool
assignment_of g s x = slice_index_or (kept g s) (x - 1) false
