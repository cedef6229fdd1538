use Rattle.std.proofs.Common.{◌≡◌, ◌<◌, List, Some, true, length, subst, arith}
use Rattle.std.specs.Prelude.{slice_get}
use Rattle.fbas_model.specs.Nodes.{members}
use Rattle.fbas_model.proofs.Sizes.{member_lt}
use Rattle.threshold_circuit.specs.declared.Circuit.{Circuit}
use Rattle.threshold_circuit.specs.contracts.CircuitPartialEq.TheImpl as own
use Rattle.clause_encoder.specs.Formula.{circuit_at}
use Rattle.clause_encoder.proofs.CircuitTables.{filled_none, filled_more}
use Rattle.clause_encoder.proofs.circuits.add_nodes.Goals as goal

pub loop-v-init : goal.loop-v-init
loop-v-init c = filled_none (length c.args.system.now.sets) (members c.args.greatest.now) (circuit_at c.args.version c.args.system.now.sets c.args.faulty.now c.args.greatest.now) _ _ c.requires.no_circuit c.requires.no_kind

pub loop-v-preserved : goal.loop-v-preserved
loop-v-preserved c =
    let f = circuit_at c.args.version c.args.system.now.sets c.args.faulty.now c.args.greatest.now in
    let circuit = c.in_ok-circuit.circuit in
    let kind = c.in_ok-kind.kind in
    let keys = c.in_ok-kind.ensures.keys in
    let low = subst (λ (ks : List Circuit). kind < length ks) keys c.in_ok-kind.ensures.within in
    let stored = subst (λ (ks : List Circuit). (k : Circuit) × (slice_get ks kind ≡ Some k) × (own.ghosts.eq circuit k ≡ true)) keys c.in_ok-kind.ensures.stored in
    filled_more (length c.args.system.now.sets) (members c.args.greatest.now) f c.loop-v.v c.loop-v.different.keys c.loop-v.kinds.items circuit kind c.loop-v.invariant low stored c.in_ok-circuit.ensures.circuit c.in_ok-circuit.ensures.writable _ _ keys c.in_ok-push.ensures.items

pub returns-clause-circuits : goal.returns-clause-circuits
returns-clause-circuits c v is =
    c.loop-v.invariant.circuits v (omega (arith, member_lt c.args.greatest.now v is, c.requires.greatest, c.len-v-end.ensures.sets, c.loop-v-test.false)) is
