use Rattle.std.proofs.Common.{◌≡◌, ℕ, Bool, List, length, ◌∙◌, sym, ap, ap₂, subst}
use Rattle.std.specs.Prelude.{All}
use Rattle.std.proofs.lemmas.Result.{on_ok_weaker}
use Rattle.std.proofs.lemmas.List.{length-map}
use Rattle.fbas_model.specs.Nodes.{Nodes, Table, members, ◌∈◌, ◌⊆◌}
use Rattle.fbas_model.specs.Fbas.{Quorum, MeetsQuorums}
use Rattle.greatest_quorum.specs.Greatest.{greatest_of}
use Rattle.cdcl_core.specs.Solving.{assignment}
use Rattle.enumeration_journal.specs.declared.kinds.Listed.TheVariants as listed
use Rattle.enumeration_journal.proofs.Greatest.{counted_greatest}
use Rattle.node_json.specs.Groups as spec
use Rattle.node_json.specs.Groups.{tables_of}
use Rattle.blocking_lists.specs.Search.{IsListed, IsModelSet}
use Rattle.blocking_lists.proofs.Turns.{model_within}
use Rattle.group_journal.specs.Groups.{joined, touching, IsLeastBlock, GroupsBlockMinimally}
use Rattle.group_journal.specs.Rules.{group_clause}
use Rattle.group_journal.proofs.Thinning.{blocks_where_meets}
use Rattle.group_lists.proofs.Clauses.{apart_from_groups, touched_within, group_quorum_out, group_block_out}
use Rattle.group_lists.proofs.Listings.{group_listed}
use Rattle.group_lists.proofs.search.turn.Goals as goal

pub minimal_groups-requires-clause-blocks : goal.minimal_groups-requires-clause-blocks
minimal_groups-requires-clause-blocks c =
    let f = c.args.searched.now.system.now.sets in
    let n_is = c.mark_all.ensures.n ∙ c.in_ok-marked.ensures.n ∙ c.len-n.ensures.sets in
    let sized = subst (λ (n : ℕ). All (λ (g : Table). length g ≡ n) c.mark_all.new.self.groups) n_is c.nodes.ensures.sized in
    blocks_where_meets f (members c.args.searched.now.faulty.now) c.mark_all.new.self.groups c.mark_all.new.self.marks sized
    (subst (λ (s : Nodes). MeetsQuorums f (members c.args.searched.now.faulty.now) s) c.nodes.ensures.nodes (c.blocks-2.ensures.blocks.0 c.if-blocks.true))

pub add_quorum-requires-clause-within : goal.add_quorum-requires-clause-within
add_quorum-requires-clause-within c =
    let f = c.args.searched.now.system.now.sets in
    let b = c.args.searched.now.faulty.now in
    let gs = tables_of c.args.searched.now.groups.now in
    subst (λ (t : Table). members (touching gs c.minimal_quorum.new.q) ⊆ members t) (sym c.requires.ready.touched)
    (touched_within f (members b) (greatest_of f b) c.minimal_quorum.new.q gs (counted_greatest f b c.requires.ready.same_faulty) c.minimal_quorum.ensures.minimal.quorum)

pub returns-then-blocks : goal.returns-then-blocks
returns-then-blocks c = record {
  goes_on =
      let f = c.args.searched.now.system.now.sets in
      let b = c.args.searched.now.faulty.now in
      let gs = tables_of c.args.searched.now.groups.now in
      let a : ℕ → Bool = assignment c.args.solver.now in
      let tried = c.tried_units-tried.result in
      let s = c.marks.result.now in
      let old = c.args.solver.now in
      let touched = c.requires.ready.touched in
      let model : IsModelSet listed.Blocking (touching gs (greatest_of f b)) a tried = subst (λ (t : Table). IsModelSet listed.Blocking t a tried) touched c.tried_units-tried.ensures.model in
      let inside : members s ⊆ members tried = λ v here.
      subst (λ (t : Table). v ∈ members t) c.mark_all.ensures.marks (c.minimal_groups.ensures.within v (subst (λ (t : Table). v ∈ members t) c.marks.ensures here)) in
      let groups_are : c.minimal_groups.new.marked.groups ≡ gs = c.minimal_groups.ensures.groups ∙ c.mark_all.ensures.groups ∙ c.in_ok-marked.ensures.groups in
      let places : length s ≡ length gs =
      ap (λ (t : Table). length t) c.marks.ensures ∙ c.minimal_groups.ensures.places ∙ ap (λ (t : Table). length t) c.mark_all.ensures.marks
      ∙ c.tried_units-tried.ensures.same_n ∙ c.len.ensures.count ∙ sym (length-map c.args.searched.now.groups.now (λ (g : spec.Group). g.members)) in
      let least : IsLeastBlock f (members b) gs s =
      subst (λ (t : Table). IsLeastBlock f (members b) gs t) (sym c.marks.ensures)
      (subst (λ (ts : List Table). IsLeastBlock f (members b) ts c.minimal_groups.new.marked.marks) groups_are c.minimal_groups.ensures.least) in
      let right : GroupsBlockMinimally f (members b) (greatest_of f b) gs s = record {
        places = places;
        useful = λ v here. model_within listed.Blocking (touching gs (greatest_of f b)) a tried model v (inside v here);
        minimal = least;
      } in
      let out = group_block_out (greatest_of f b) tried s gs a model inside in
      on_ok_weaker c.add_block.result
      (λ done total left small is.
      group_listed f b gs total left small c.args.listed.now.items c.add_block.new.listed.items old c.add_block.new.solver listed.Blocking s is right a c.requires.solves out
      (subst (λ (t : Table). IsListed listed.Blocking (group_clause gs t listed.Blocking s) s c.args.listed.now.items c.add_block.new.listed.items old c.add_block.new.solver) touched done))
      c.add_block.ensures;
}

pub returns : goal.returns
returns c = record {
  goes_on =
      let f = c.args.searched.now.system.now.sets in
      let b = c.args.searched.now.faulty.now in
      let gs = tables_of c.args.searched.now.groups.now in
      let a : ℕ → Bool = assignment c.args.solver.now in
      let tried = c.tried_units-tried.result in
      let u = c.minimal_quorum.new.q in
      let old = c.args.solver.now in
      let touched = c.requires.ready.touched in
      let model : IsModelSet listed.Blocking (touching gs (greatest_of f b)) a tried = subst (λ (t : Table). IsModelSet listed.Blocking t a tried) touched c.tried_units-tried.ensures.model in
      let quorum : Quorum f (members b) (members u) = c.minimal_quorum.ensures.minimal.quorum in
      let nodes_are : members c.nodes.result.now ≡ joined gs tried =
      c.nodes.ensures.nodes ∙ ap₂ (λ (ts : List Table) (t : Table). joined ts t) (c.mark_all.ensures.groups ∙ c.in_ok-marked.ensures.groups) c.mark_all.ensures.marks in
      let apart : (v : ℕ) → v ∈ members u → v ∈ joined gs tried → ⊥ = λ v here there.
      apart_from_groups f (members b) (members c.nodes.result.now) (members c.blocks-2.new.scratch) (members c.lose_groups.new.q) (members u) c.blocks-2.ensures.greatest c.lose_groups.ensures.within c.minimal_quorum.ensures.within v here
      (subst (λ (s : Nodes). v ∈ s) (sym nodes_are) there) in
      let out = group_quorum_out f (members b) (greatest_of f b) tried u gs a (counted_greatest f b c.requires.ready.same_faulty) model quorum apart in
      let size : length u ≡ length f = c.minimal_quorum.ensures.same_n ∙ c.lose_groups.ensures.same_n ∙ c.blocks-2.ensures.same_n ∙ c.new-outside.ensures.size ∙ c.len-n.ensures.sets in
      on_ok_weaker c.add_quorum.result
      (λ done total left small is.
      group_listed f b gs total left small c.args.listed.now.items c.add_quorum.new.listed.items old c.add_quorum.new.solver listed.Quorum u is (size, quorum) a c.requires.solves out
      (subst (λ (t : Table). IsListed listed.Quorum (group_clause gs t listed.Quorum u) u c.args.listed.now.items c.add_quorum.new.listed.items old c.add_quorum.new.solver) touched done))
      c.add_quorum.ensures;
}
