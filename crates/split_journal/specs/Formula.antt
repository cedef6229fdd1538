-- The split formula: it is satisfiable, with the variables of some groups true and those of the others false, exactly where
-- these groups split. It is the intersection formula of the nodes that are left, but that each node has two variables on a side:
-- that it is of the quorum, and that it is present to others, which it also is if it lies.
use Rattle.std.specs.Prelude.{ℕ, ◌+◌, ◌-◌, ◌&&◌, Bool, true, false, nat_lt, if◌then◌else◌, List, [], ◌∷◌, ◌++◌, map, length, slice_get}
use Rattle.fbas_model.specs.Nodes.{Nodes, Table, members, size, listed_from, ◌∖◌}
use Rattle.fbas_model.specs.Fbas.{Fbas, all_nodes}
use Rattle.fbas_model.specs.Restriction.{rank, table_from}
use Rattle.lrat_model.specs.Literal.{Literal, Plus, Minus}
use Rattle.threshold_circuit.specs.Circuits.{Circuit}
use Rattle.threshold_circuit.specs.Value.{circuit_value}
use Rattle.clause_encoder.specs.declared.version.Version.{Version}
use Rattle.clause_encoder.specs.Formula.{Part, formula_over, circuit_if_any, circuit_at}
use Rattle.enumeration_journal.specs.Numbering.{variable_in}
use Rattle.group_journal.specs.Groups.{touching}

-- the nodes that are left
abbrev pub left_of : Fbas → Nodes → Table
left_of f b = table_from 0 (length f) (all_nodes f ∖ b)

-- whether the node has a slice if all that are left are present
abbrev pub is_able : Fbas → Table → Table → ℕ → Bool
is_able f b left v = circuit_value (members left) (circuit_if_any (members left) (members b) (slice_get f v))

-- those of them that have: no other is in any quorum, whoever lies
abbrev pub able_of : Fbas → Table → Table → Table
able_of f b left = table_from 0 (length f) (λ v. members left v && is_able f b left v)

-- ---- the variables: a group's is its number among those that have a member left; after `first` come those of the nodes

-- of the first quorum, of the second
abbrev pub head_a : ℕ → Table → ℕ → ℕ
head_a first able v = 1 + first + rank able v

abbrev pub head_b : ℕ → Table → ℕ → ℕ
head_b first able v = 1 + first + (size able + rank able v)

-- present to the first, to the second
abbrev pub leaf_a : ℕ → Table → Table → ℕ → ℕ
leaf_a first able left v = 1 + first + (size able + (size able + rank left v))

abbrev pub leaf_b : ℕ → Table → Table → ℕ → ℕ
leaf_b first able left v = 1 + first + (size able + (size able + (size left + rank left v)))

-- the first variable of the gates
abbrev pub first_gate : ℕ → Table → Table → ℕ
first_gate first able left = 1 + first + (size able + (size able + (size left + size left)))

-- a node stands for itself as it is present, and behind the n nodes stands for itself as it is of the quorum
abbrev pub by_number : {A : Type 0} → ℕ → (ℕ → A) → (ℕ → A) → ℕ → A
by_number n present of_quorum x = if nat_lt x n then present x else of_quorum (x - n)

abbrev pub variable_a : ℕ → ℕ → Table → Table → ℕ → ℕ
variable_a n first able left = by_number n (leaf_a first able left) (head_a first able)

abbrev pub variable_b : ℕ → ℕ → Table → Table → ℕ → ℕ
variable_b n first able left = by_number n (leaf_b first able left) (head_b first able)

abbrev pub circuit_behind : Version → Fbas → Table → Table → ℕ → Circuit
circuit_behind version f b left x = circuit_at version f b left (x - length f)

-- ---- the clauses

-- the groups that have the node
abbrev pub groups_with : List Table → ℕ → List ℕ
groups_with groups v = listed_from 0 (map (λ group. members group v) groups)

-- a node of a quorum is in no group that lies
abbrev pub not_lying : ℕ → (ℕ → ℕ) → List ℕ → List (List Literal)
not_lying head lies us = map (λ u. Minus head ∷ Minus (lies u) ∷ []) us

abbrev pub none_lying : (ℕ → ℕ) → (ℕ → ℕ) → List Table → List ℕ → List (List Literal)
none_lying head lies groups [] = []
none_lying head lies groups (v ∷ vs) = not_lying (head v) lies (groups_with groups v) ++ none_lying head lies groups vs

-- some group that has the node lies
abbrev pub lying : (ℕ → ℕ) → List Table → ℕ → List Literal
lying lies groups v = map (λ u. Plus (lies u)) (groups_with groups v)

-- before these, that it is of the quorum, if it can be
abbrev pub or_head : Bool → ℕ → List Literal → List Literal
or_head true head rest = Plus head ∷ rest
or_head false head rest = rest

-- a node that is present is of the quorum, or lies
abbrev pub present : (ℕ → ℕ) → (ℕ → ℕ) → Table → (ℕ → ℕ) → List Table → List ℕ → List (List Literal)
present seen head able lies groups vs = map (λ v. Minus (seen v) ∷ or_head (members able v) (head v) (lying lies groups v)) vs

-- the part that is the intersection formula
abbrev pub split_part : Version → Fbas → Table → ℕ → Table → Part
split_part version f b first left =
    formula_over version (variable_a (length f) first (able_of f b left) left) (variable_b (length f) first (able_of f b left) left) (first_gate first (able_of f b left) left) (circuit_behind version f b left) (listed_from (length f) (able_of f b left))

-- the clauses on who lies
abbrev pub on_lying : ℕ → Table → Table → List Table → List (List Literal)
on_lying first able left groups =
    none_lying (head_a first able) (variable_in (touching groups left)) groups (listed_from 0 able)
    ++ (none_lying (head_b first able) (variable_in (touching groups left)) groups (listed_from 0 able)
    ++ (present (leaf_a first able left) (head_a first able) able (variable_in (touching groups left)) groups (listed_from 0 left)
    ++ present (leaf_b first able left) (head_b first able) able (variable_in (touching groups left)) groups (listed_from 0 left)))

-- of a system, its faulty nodes, the nodes that are left and the groups: the nodes' variables come after `first`
unfoldable pub split_clauses : Version → Fbas → Table → ℕ → Table → List Table → List (List Literal)
split_clauses version f b first left groups = (split_part version f b first left).clauses ++ on_lying first (able_of f b left) left groups

abbrev pub split_vars : Version → Fbas → Table → ℕ → Table → ℕ
split_vars version f b first left = (split_part version f b first left).after.next - 1
