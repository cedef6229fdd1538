-- The nodes that are left, their circuits, and the groups that have a node.
use Rattle.std.proofs.Common.{◌≡◌, ℕ, zero, suc, ◌<◌, true, false, not, List, [], ◌∷◌, length, map, Option, Some, None, refl, sym, ap, ◌∙◌, inl, inr}
use Rattle.std.proofs.lemmas.Bool.{and_parts, and_from, or_cases, or_left, or_right, false≢true, lt-ltb, not_from_false}
use Rattle.fbas_model.specs.Nodes.{Nodes, Table, members, ◌∈◌, ◌⊆◌, ◌∖◌}
use Rattle.fbas_model.specs.Trees.{QuorumSet}
use Rattle.fbas_model.specs.Fbas.{Fbas, all_nodes}
use Rattle.fbas_model.specs.Counting.{is_satisfied}
use Rattle.fbas_model.proofs.Counting.{choice_satisfied, satisfied_choice}
use Rattle.fbas_model.proofs.Tables.{length-table_from}
use Rattle.greatest_quorum.proofs.GreatestLaws.{table_of}
use Rattle.threshold_circuit.specs.Circuits.{IsReduced}
use Rattle.threshold_circuit.proofs.Reduced.{simplified_reduced}
use Rattle.threshold_circuit.specs.Value.{circuit_value}
use Rattle.threshold_circuit.specs.Circuits.{Circuit}
use Rattle.threshold_circuit.proofs.OrderedLaws.{ordered_value, ordered_reduced}
use Rattle.clause_encoder.specs.declared.version.Version.{Version}
use Rattle.clause_encoder.specs.declared.version.Version.TheVariants.{One, Two, Three}
use Rattle.clause_encoder.specs.Formula.{circuit_if_any, in_version}
use Rattle.clause_encoder.proofs.QuorumLaws.{met_if_any}
use Rattle.enumeration_journal.proofs.TestLaws.{meeting_from}
use Rattle.group_journal.specs.Groups.{joined, touching}
use Rattle.split_journal.specs.Formula.{left_of}

-- the nodes that are left
pub record IsLeft (f : Fbas) (b left : Table) : Type 0 where
  pub places : length left ≡ length f
  pub is : members left ≡ (all_nodes f ∖ members b)

pub left_is : (f : Fbas) (b : Table) → IsLeft f b (left_of f (members b))
left_is f b = record {
  places = length-table_from 0 (length f) (all_nodes f ∖ members b);
  is = table_of f (all_nodes f ∖ members b) (λ v here. (and_parts (all_nodes f v) (not (members b v)) here).0);
}

pub left_from : (f : Fbas) (b left : Table) → IsLeft f b left → (v : ℕ) → v < length f → members b v ≡ false → v ∈ members left
left_from f b left is v low out = ap (λ (s : Nodes). s v) is.is ∙ and_from (all_nodes f v) (not (members b v)) (lt-ltb v (length f) low) (not_from_false (members b v) out)

pub left_parts : (f : Fbas) (b left : Table) → IsLeft f b left → (v : ℕ) → v ∈ members left → v ∈ (all_nodes f ∖ members b)
left_parts f b left is v here = sym (ap (λ (s : Nodes). s v) is.is) ∙ here

-- ---- circuits

plain_reduced : (left b : Nodes) (o : Option (Option QuorumSet)) → IsReduced left (circuit_if_any left b o)
plain_reduced left b None = tt
plain_reduced left b (Some None) = tt
plain_reduced left b (Some (Some q)) = simplified_reduced left b q

reduced_in : (version : Version) (left : Nodes) (c : Circuit) → IsReduced left c → IsReduced left (in_version version c)
reduced_in One left c is = is
reduced_in Two left c is = is
reduced_in Three left c is = ordered_reduced left c is

pub reduced : (version : Version) (left b : Nodes) (o : Option (Option QuorumSet)) → IsReduced left (in_version version (circuit_if_any left b o))
reduced version left b o = reduced_in version left (circuit_if_any left b o) (plain_reduced left b o)

-- the value does not depend on the version
pub value_in : (version : Version) (u : Nodes) (c : Circuit) → circuit_value u (in_version version c) ≡ circuit_value u c
value_in One u c = refl
value_in Two u c = refl
value_in Three u c = ordered_value u c

-- what is satisfied inside a set is inside a larger one
pub satisfied_more : (u w : Nodes) (q : QuorumSet) → u ⊆ w → is_satisfied u q ≡ true → is_satisfied w q ≡ true
satisfied_more u w q more met = let c = satisfied_choice u q met in choice_satisfied w c.1 (λ v here. more v (c.2 v here))

pub met_more : (u w : Nodes) (o : Option (Option QuorumSet)) → u ⊆ w → met_if_any o u ≡ true → met_if_any o w ≡ true
met_more u w None more met = absurd (false≢true met)
met_more u w (Some None) more met = absurd (false≢true met)
met_more u w (Some (Some q)) more met = satisfied_more u w q more met

-- ---- groups

-- the groups that have the node, as a table
abbrev pub holding : List Table → ℕ → Table
holding groups v = map (λ group. members group v) groups

-- a node of marked groups is in one of them
pub joined_from : (groups : List Table) (marks : Table) (v : ℕ) → v ∈ joined groups marks → (i : ℕ) × (members marks i ≡ true) × (members (holding groups v) i ≡ true)
joined_from [] marks v here = absurd (false≢true here)
joined_from (group ∷ groups) [] v here = absurd (false≢true here)
joined_from (group ∷ groups) (true ∷ marks) v here = elim (or_cases (members group v) (joined groups marks v) here) [
  | inl first ↦ (0, refl, first)
  | inr rest ↦ let r = joined_from groups marks v rest in (suc r.0, r.1, r.2)
]
joined_from (group ∷ groups) (false ∷ marks) v here = let r = joined_from groups marks v here in (suc r.0, r.1, r.2)

-- and the other way round
pub joined_by : (groups : List Table) (marks : Table) (v i : ℕ) → members marks i ≡ true → members (holding groups v) i ≡ true → v ∈ joined groups marks
joined_by [] marks v i marked has = absurd (false≢true has)
joined_by (group ∷ groups) [] v i marked has = absurd (false≢true marked)
joined_by (group ∷ groups) (true ∷ marks) v zero marked has = or_left (members group v) (joined groups marks v) has
joined_by (group ∷ groups) (false ∷ marks) v zero marked has = absurd (false≢true marked)
joined_by (group ∷ groups) (true ∷ marks) v (suc i) marked has = or_right (members group v) (joined groups marks v) (joined_by groups marks v i marked has)
joined_by (group ∷ groups) (false ∷ marks) v (suc i) marked has = joined_by groups marks v i marked has

-- a group that has a node of a set touches the set
pub holding_touches : (groups : List Table) (t : Table) (v i : ℕ) → v ∈ members t → members (holding groups v) i ≡ true → members (touching groups t) i ≡ true
holding_touches [] t v i there has = absurd (false≢true has)
holding_touches (group ∷ groups) t v zero there has = meeting_from group t v has there
holding_touches (group ∷ groups) t v (suc i) there has = holding_touches groups t v i there has

-- fewer marks join no more
pub joined_more : (groups : List Table) (s t : Table) → members s ⊆ members t → joined groups s ⊆ joined groups t
joined_more groups s t more v here = let r = joined_from groups s v here in joined_by groups t v r.0 (more r.0 r.1) r.2
