use Rattle.std.proofs.Common.{◌≡◌, arith}
use Rattle.threshold_circuit.specs.Circuits.{end_of_gate, input}
use Rattle.threshold_circuit.specs.Simplified.{always_count}
use Rattle.threshold_circuit.specs.Views.{circuit_view, inputs_view}
use Rattle.threshold_circuit.proofs.GatheredLaws.{always_one, always_kept, never_kept, other_kept}
use Rattle.threshold_circuit.proofs.gathered.Gathered.add.Goals as goal

pub returns-in-Always-clause-threshold : goal.returns-in-Always-clause-threshold
returns-in-Always-clause-threshold c =
    let one : always_count (input (circuit_view c.args.circuit) end_of_gate) ≡ 1 = always_one c.args.circuit c.in-Always.is in
    omega (arith, one)

pub returns-in-Always-clause-entries : goal.returns-in-Always-clause-entries
returns-in-Always-clause-entries c = always_kept (inputs_view c.args.self.entries.items) c.args.circuit c.in-Always.is

pub returns-in-Never-clause-entries : goal.returns-in-Never-clause-entries
returns-in-Never-clause-entries c = never_kept (inputs_view c.args.self.entries.items) c.args.circuit c.in-Never.is

pub returns-in_ok-push-in_default-clause-entries :
    goal.returns-in_ok-push-in_default-clause-entries
returns-in_ok-push-in_default-clause-entries c =
    other_kept c.args.self.entries.items c.push.new.self.items c.args.circuit c.in_ok-push-in_default.ensures.items c.in_default.not-Always c.in_default.not-Never
