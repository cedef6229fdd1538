use Rattle.std.proofs.Common.{◌≡◌, ℕ, ◌+◌, ◌≤◌, List, true, false, length, sym, subst, ap, ◌∙◌, arith}
use Rattle.std.specs.Prelude.{All}
use Rattle.std.proofs.lemmas.Bool.{both_ways}
use Rattle.fbas_model.specs.Nodes.{Nodes, Table, members}
use Rattle.fbas_model.specs.Fbas.{MeetsQuorums}
use Rattle.group_journal.specs.Groups.{joined}
use Rattle.group_journal.proofs.Thinning.{thinned_pass, thinned_take, thinned_keep}
use Rattle.group_journal.proofs.deciding.minimal_groups.Goals as goal
use Rattle.group_journal.proofs.deciding.minimal_groups.Goals.{then-has+then-not-blocks, then-has+else-not-blocks, else-has}

pub loop-at-preserved : goal.loop-at-preserved
loop-at-preserved c =
    let f = c.args.system.now.sets in
    let b = members c.args.faulty.now in
    let gs = c.args.marked.now.groups in
    let start = c.args.marked.now.marks in
    let at = c.loop-at.at in
    let so_far = c.loop-at.invariant in
    elim c.if-has.branch [
      | then-has+then-not-blocks w ↦
          let taken = w.unmark.new.self.marks in
          let nodes_are : members w.nodes.result.now ≡ joined gs taken = w.nodes.ensures.nodes ∙ ap (λ (x : List Table). joined x taken) (w.unmark.ensures.groups ∙ so_far.groups) in
          let stuck : (MeetsQuorums f b (joined gs taken) → ⊥) = λ meets. both_ways w.blocks-then-has.result w.if-not-blocks.true (w.blocks-then-has.ensures.blocks.1 (subst (λ (s : Nodes). MeetsQuorums f b s) (sym nodes_are) meets)) in
          rw (w.marked-is, w.scratch-is) (record {
            n = w.mark.ensures.n ∙ w.unmark.ensures.n ∙ so_far.n;
            groups = w.mark.ensures.groups ∙ w.unmark.ensures.groups ∙ so_far.groups;
            thinned = thinned_keep f b gs start c.loop-at.marked.marks taken w.mark.new.self.marks at so_far.thinned (sym c.has.ensures ∙ w.if-has.true) w.unmark.ensures.places w.unmark.ensures.unmarked w.mark.ensures.places w.mark.ensures.marked stuck;
            same_scratch = w.blocks-then-has.ensures.same_n ∙ so_far.same_scratch;
          })
      | then-has+else-not-blocks w ↦
          let taken = w.unmark.new.self.marks in
          let groups_are = w.unmark.ensures.groups ∙ so_far.groups in
          let nodes_are : members w.nodes.result.now ≡ joined gs taken = w.nodes.ensures.nodes ∙ ap (λ (x : List Table). joined x taken) groups_are in
          let meets : MeetsQuorums f b (joined gs taken) = subst (λ (s : Nodes). MeetsQuorums f b s) nodes_are (w.blocks-then-has.ensures.blocks.0 w.if-not-blocks.false) in
          let n_is = w.unmark.ensures.n ∙ so_far.n ∙ c.requires.n in
          let sized : All (λ (g : Table). length g ≡ length f) gs = subst (λ (xs : List Table). All (λ (g : Table). length g ≡ length f) xs) groups_are (subst (λ (n : ℕ). All (λ (g : Table). length g ≡ n) w.unmark.new.self.groups) n_is w.nodes.ensures.sized) in
          rw (w.marked-is, w.scratch-is) (record {
            n = w.unmark.ensures.n ∙ so_far.n;
            groups = groups_are;
            thinned = thinned_take f b gs start c.loop-at.marked.marks taken at sized so_far.thinned w.unmark.ensures.places w.unmark.ensures.unmarked meets;
            same_scratch = w.blocks-then-has.ensures.same_n ∙ so_far.same_scratch;
          })
      | else-has w ↦
          rw (w.marked-is, w.scratch-is) (record {
            n = so_far.n;
            groups = so_far.groups;
            thinned = thinned_pass f b gs start c.loop-at.marked.marks at so_far.thinned (sym c.has.ensures ∙ w.if-has.false);
            same_scratch = so_far.same_scratch;
          })
    ]
