use Rattle.std.proofs.Common.{◌≡◌, ℕ, true, length, sym, subst}
use Rattle.std.specs.Prelude.{All}
use Rattle.fbas_model.specs.Nodes.{Nodes, Table, members}
use Rattle.fbas_model.specs.Fbas.{MeetsQuorums}
use Rattle.group_journal.proofs.Decided.{group_block_is}
use Rattle.group_journal.proofs.Thinning.{blocks_where_meets}
use Rattle.group_journal.proofs.deciding.is_group_block.Goals as goal

pub returns-clause-blocks : goal.returns-clause-blocks
returns-clause-blocks c =
    let f = c.args.system.now.sets in
    let b = c.args.faulty.now in
    let sized = subst (λ (n : ℕ). All (λ (g : Table). length g ≡ n) c.args.marked.now.groups) c.requires.n c.nodes.ensures.sized in
    group_block_is f b c.args.marked.now.groups c.requires.same_faulty sized c.args.marked.now.marks c.blocks-2.result
    (λ yes. subst (λ (s : Nodes). MeetsQuorums f (members b) s) c.nodes.ensures.nodes (c.blocks-2.ensures.blocks.0 yes))
    (λ meets. c.blocks-2.ensures.blocks.1 (subst (λ (s : Nodes). MeetsQuorums f (members b) s) (sym c.nodes.ensures.nodes) meets))

pub returns-clause-is : goal.returns-clause-is
returns-clause-is c = λ yes.
    let f = c.args.system.now.sets in
    let b = c.args.faulty.now in
    let sized = subst (λ (n : ℕ). All (λ (g : Table). length g ≡ n) c.args.marked.now.groups) c.requires.n c.nodes.ensures.sized in
    blocks_where_meets f (members b) c.args.marked.now.groups c.args.marked.now.marks sized (subst (λ (s : Nodes). MeetsQuorums f (members b) s) c.nodes.ensures.nodes (c.blocks-2.ensures.blocks.0 yes))
