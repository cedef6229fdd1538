use Rattle.std.proofs.Common.{ℕ, ◌++◌, List, sym, ap, ◌∙◌, arith}
use Rattle.fbas_model.proofs.Listed.{iterated_below}
use Rattle.node_json.proofs.groups.node_groups.Goals as goal

pub node_group-requires-clause-node : goal.node_group-requires-clause-node
node_group-requires-clause-node c =
    let whole = ap (λ (vs : List ℕ). c.loop-v.yielded ++ vs) (sym c.in-Some.ensures.steps) ∙ c.loop-v.invariant.whole in
    omega (arith, iterated_below c.args.nodes.now c.loop-v.yielded c.next.new.self c.in-Some.v whole, c.requires.same_n)
