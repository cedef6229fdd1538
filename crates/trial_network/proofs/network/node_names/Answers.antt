use Rattle.std.proofs.Common.{◌≡◌, ◌+◌, map, ap, ◌∙◌, arith}
use Rattle.std.proofs.lemmas.Result.{IfOk-weaker}
use Rattle.trial_network.specs.Trial.{names_from}
use Rattle.trial_network.proofs.InOrder.{items_of_name, name_listed, all_names}
use Rattle.trial_network.proofs.network.node_names.Goals as goal

pub loop-at-preserved : goal.loop-at-preserved
loop-at-preserved c =
    let more : map items_of_name c.push.new.self.items ≡ names_from 0 (c.loop-at.at + 1) =
    rw c.in_ok-push.ensures.items (name_listed c.loop-at.list.items c.in_ok-node_name.field-0 c.loop-at.at c.loop-at.invariant.0 c.in_ok-node_name.ensures) in
    (more, omega (arith, c.loop-at-test.true), omega (arith, c.in_ok-push.ensures.len, c.loop-at.invariant.2))

pub returns : goal.returns
returns c =
    let all : c.loop-at.at ≡ c.args.nodes = omega (arith, c.loop-at-test.false, c.loop-at.invariant.1) in
    IfOk-weaker c.of.result _ _ (λ names are. all_names (map items_of_name c.loop-at.list.items) names c.args.nodes c.requires (c.loop-at.invariant.0 ∙ ap (names_from 0) all) are) c.of.ensures

pub of-requires : goal.of-requires
of-requires c = omega (arith, c.loop-at.invariant.1, c.loop-at.invariant.2, c.requires)
