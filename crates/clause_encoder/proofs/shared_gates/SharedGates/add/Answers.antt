use Rattle.std.proofs.Common.{◌≡◌, None, [], ◌∷◌, ◌++◌, ap, sym, ◌∙◌}
use Rattle.indexmap.specs.IndexMap.{get}
use Rattle.indexmap.proofs.CallerLemmas.{insert_entry-new}
use Rattle.threshold_circuit.specs.Circuits.{Circuit}
use Rattle.threshold_circuit.specs.Views.{circuit_view}
use Rattle.threshold_circuit.specs.contracts.CircuitPartialEq.TheImpl as own
use Rattle.clause_encoder.specs.declared.version.Version.{Version}
use Rattle.clause_encoder.specs.CircuitClauses.{variable_among}
use Rattle.clause_encoder.specs.SharedGates.{gates_in, gates_of}
use Rattle.clause_encoder.proofs.SharedGates.{among_is, gates_more}
use Rattle.clause_encoder.proofs.shared_gates.SharedGates.add.Goals as goal

pub returns-clause-gates : goal.returns-clause-gates
returns-clause-gates c =
    let key = c.in_ok-key.key in
    let map = c.args.self.now.gates in
    let gates = gates_in c.args.self.now in
    let none : get own.ghosts.eq map key ≡ None = among_is key map.entries ∙ (ap (variable_among gates) c.in_ok-key.ensures ∙ c.requires) in
    ap gates_of (c.in_ok-insert.ensures.entries ∙ insert_entry-new own.ghosts.eq map key c.args.variable none)
    ∙ gates_more map.entries key c.args.variable
    ∙ ap (λ (d : Circuit). gates ++ record { circuit = d; variable = c.args.variable } ∷ []) c.in_ok-key.ensures
