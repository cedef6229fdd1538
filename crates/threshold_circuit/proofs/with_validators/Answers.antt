use Rattle.std.proofs.Common.{ℕ, List, [], ◌+◌, get_or, drop, ap, subst}
use Rattle.std.proofs.lemmas.List.{drop_all}
use Rattle.fbas_model.specs.Nodes.{members}
use Rattle.fbas_model.specs.Lists.{entries_of}
use Rattle.threshold_circuit.specs.Simplified.{validator_circuit, simplified_entries}
use Rattle.threshold_circuit.specs.Views.{inputs_view}
use Rattle.threshold_circuit.proofs.GatheredLaws.{StillGathers, gather_circuit, gathered_all}
use Rattle.threshold_circuit.proofs.SetLaws.{cut_node}
use Rattle.threshold_circuit.proofs.with_validators.Goals as goal

pub loop-node-preserved : goal.loop-node-preserved
loop-node-preserved c =
    let i = c.loop-node.node-index in
    let ws = c.args.validators.now in
    let g = members c.args.greatest.now in
    let f = members c.args.faulty.now in
    let all = simplified_entries g f (entries_of ws []) in
    let was = inputs_view c.loop-node.gathered.entries.items in
    let start = inputs_view c.args.gathered.entries.items in
    gather_circuit c.args.gathered.threshold c.loop-node.gathered.threshold c.in_ok-gathered.gathered.threshold
    start was (inputs_view c.in_ok-gathered.gathered.entries.items)
    all (simplified_entries g f (entries_of (drop (i + 1) ws) []))
    (validator_circuit g f (get_or ws i 0)) c.validator_circuit.result
    (subst (λ (ys : List ℕ). StillGathers c.args.gathered.threshold c.loop-node.gathered.threshold start was all (simplified_entries g f (entries_of ys []))) (cut_node i ws c.loop-node-test.true) c.loop-node.invariant)
    c.validator_circuit.ensures c.in_ok-gathered.ensures.threshold c.in_ok-gathered.ensures.entries

pub returns-clause-entries : goal.returns-clause-entries
returns-clause-entries c =
    let i = c.loop-node.node-index in
    let ws = c.args.validators.now in
    let g = members c.args.greatest.now in
    let f = members c.args.faulty.now in
    gathered_all c.args.gathered.threshold c.loop-node.gathered.threshold (inputs_view c.args.gathered.entries.items) (inputs_view c.loop-node.gathered.entries.items)
    (simplified_entries g f (entries_of ws [])) (simplified_entries g f (entries_of (drop i ws) []))
    c.loop-node.invariant (ap (λ (ys : List ℕ). simplified_entries g f (entries_of ys [])) (drop_all i ws c.loop-node-test.false))
