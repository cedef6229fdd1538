-- What the code decides of groups is what the tests compute.
use Rattle.std.proofs.Common.{◌≡◌, Bool, true, not, ◌&&◌, List, length, sym, ◌∙◌, subst, inl, inr}
use Rattle.std.specs.Prelude.{All}
use Rattle.std.proofs.lemmas.Bool.{and_parts, and_from, cases_Bool, both_ways, not_from_false, lt-ltb, ltb-true}
use Rattle.std.specs.Cmp.{both_ways as same_answer}
use Rattle.fbas_model.specs.Nodes.{Nodes, Table, members, ◌⊆◌, ◌∖◌}
use Rattle.fbas_model.specs.Fbas.{Fbas, MeetsQuorums, Blocks, all_nodes}
use Rattle.fbas_model.specs.Restriction.{table_from}
use Rattle.fbas_model.proofs.Tables.{length-table_from}
use Rattle.greatest_quorum.specs.Greatest.{some_set}
use Rattle.greatest_quorum.proofs.GreatestLaws.{table_of}
use Rattle.enumeration_journal.specs.Tests.{is_within, is_blocking}
use Rattle.enumeration_journal.proofs.Duality.{same_nodes}
use Rattle.enumeration_journal.proofs.TestLaws.{blocks_to, blocks_from, within_to, within_from, none_of, none_from, refutes}
use Rattle.group_journal.specs.Groups.{joined, GroupsBlock, IsLeastBlock}
use Rattle.group_journal.specs.Tests.{is_group_block, is_least_block}
use Rattle.group_journal.proofs.Thinning.{blocks_where_meets, meets_where_blocks}
use Rattle.group_journal.proofs.Touched.{joined_below}

module _ (f : Fbas) (b : Table) (groups : List Table) (same : length b ≡ length f) (sized : All (λ (group : Table). length group ≡ length f) groups) where
  left_nodes : Table → Nodes
  left_nodes marks = joined groups marks ∖ members b

  nodes_are : (marks : Table) → members (table_from 0 (length f) (left_nodes marks)) ≡ left_nodes marks
  unfolding left_nodes
  nodes_are marks = table_of f (left_nodes marks) (λ v here. lt-ltb v (length f) (joined_below (length f) groups marks sized v (and_parts (joined groups marks v) (not (members b v)) here).0))

  pub group_block_to : (marks : Table) → is_group_block f b groups marks ≡ true → GroupsBlock f (members b) groups marks
  unfolding left_nodes
  group_block_to marks h = subst (λ (s : Nodes). Blocks f (members b) s) (nodes_are marks) (blocks_to f b (table_from 0 (length f) (left_nodes marks)) same (length-table_from 0 (length f) (left_nodes marks)) h)

  pub group_block_from : (marks : Table) → GroupsBlock f (members b) groups marks → is_group_block f b groups marks ≡ true
  unfolding left_nodes
  group_block_from marks is = blocks_from f b (table_from 0 (length f) (left_nodes marks)) (subst (λ (s : Nodes). Blocks f (members b) s) (sym (nodes_are marks)) is)

  pub group_block_is : (marks : Table) (r : Bool) → (r ≡ true → MeetsQuorums f (members b) (joined groups marks)) → (MeetsQuorums f (members b) (joined groups marks) → r ≡ true) → r ≡ is_group_block f b groups marks
  group_block_is marks r there back = same_answer r (is_group_block f b groups marks)
      (λ h. group_block_from marks (blocks_where_meets f (members b) groups marks sized (there h)))
      (λ h. back (meets_where_blocks f (members b) groups marks (group_block_to marks h)))

  -- ---- with no group to spare

  pub least_from : (marks : Table) → ((other : Table) → length other ≡ length groups → members other ⊆ members marks → GroupsBlock f (members b) groups other → members marks ⊆ members other) → is_least_block f b groups marks ≡ true
  least_from marks least = none_from (length groups) (λ other. is_within other marks && (not (is_within marks other) && is_group_block f b groups other)) (λ other size h.
      let parts = and_parts (is_within other marks) (not (is_within marks other) && is_group_block f b groups other) h in
      let more = and_parts (not (is_within marks other)) (is_group_block f b groups other) parts.1 in
      refutes (is_within marks other) more.0 (within_from marks other (least other size (within_to other marks parts.0) (group_block_to other more.1))))

  pub least_to : (marks : Table) → is_least_block f b groups marks ≡ true → (other : Table) → length other ≡ length groups → members other ⊆ members marks → GroupsBlock f (members b) groups other → members marks ⊆ members other
  least_to marks h other size inside is = elim (cases_Bool (is_within marks other)) [
    | inl e ↦ within_to marks other e
    | inr e ↦
        let test : Table → Bool = λ t. is_within t marks && (not (is_within marks t) && is_group_block f b groups t) in
        absurd (both_ways (test other) (none_of (length groups) test h other size)
        (and_from (is_within other marks) (not (is_within marks other) && is_group_block f b groups other) (within_from other marks inside) (and_from (not (is_within marks other)) (is_group_block f b groups other) (not_from_false (is_within marks other) e) (group_block_from other is))))
  ]

  pub least_is : (marks left : Table) (r : Bool) → length marks ≡ length groups → length left ≡ length groups → members left ⊆ members marks → IsLeastBlock f (members b) groups left → (r ≡ true → left ≡ marks) → (left ≡ marks → r ≡ true) → r ≡ is_least_block f b groups marks
  least_is marks left r places size inside least there back = same_answer r (is_least_block f b groups marks)
      (λ h. least_from marks (subst (λ (t : Table). (other : Table) → length other ≡ length groups → members other ⊆ members t → GroupsBlock f (members b) groups other → members t ⊆ members other) (there h) least.least))
      (λ h. back (same_nodes left marks (size ∙ sym places) inside (least_to marks h left size inside least.blocks)))
