-- Gates that are known by the kinds of circuits: they stay known, and say what is written of a node.
use Rattle.std.proofs.Common.{◌≡◌, ℕ, ◌<◌, ◌≤◌, ◌==◌, Bool, true, false, if◌then◌else◌, List, Option, Some, None, [], ◌∷◌, ◌++◌, length, get_or, set, replicate, inl, inr, refl, ap, subst, sym, ◌∙◌, arith}
use Rattle.std.specs.Prelude.{IfSome}
use Rattle.std.proofs.lemmas.Bool.{eqb-true, eqb-false, cases_lt}
use Rattle.std.proofs.lemmas.List.{get_or-set_same, get_or-set_other, get_or-replicate, get_or_past, length-replicate}
use Rattle.lrat_model.specs.Literal.{Plus, Minus}
use Rattle.threshold_circuit.specs.Circuits.{Circuit, Inputs, always, never, leaf, at_least, end_of_gate, input}
use Rattle.threshold_circuit.specs.Same.{same_circuit}
use Rattle.clause_encoder.specs.declared.version.Version.{Version}
use Rattle.clause_encoder.specs.declared.version.Version.TheVariants.{One, Two, Three}
use Rattle.clause_encoder.specs.GateClauses.{gate_variable}
use Rattle.clause_encoder.specs.CircuitClauses.{Gate, Place, Written, variable_among, one_gate_more, gate_over, used_again, circuit_clauses, inputs_clauses}
use Rattle.clause_encoder.specs.Formula.{with_gate, node_clauses}
use Rattle.clause_encoder.specs.Known.{HasGate, AreKnown}
use Rattle.clause_encoder.specs.SharedGates.{AreLow, IsLow}
use Rattle.clause_encoder.specs.Written.{CircuitTable, circuit_of_kind}
use Rattle.clause_encoder.proofs.SharedGates.{again_by, among_holds}

-- ---- a gate that is used again is so from then on

among_more_by : (same : Bool) (y : ℕ) (rest rest' : Option ℕ) (x : ℕ) → (rest ≡ Some x → rest' ≡ Some x) → (if same then Some y else rest) ≡ Some x → (if same then Some y else rest') ≡ Some x
among_more_by true y rest rest' x go found = found
among_more_by false y rest rest' x go found = go found

among_more : (gates : List Gate) (g : Gate) (c : Circuit) (x : ℕ) → variable_among gates c ≡ Some x → variable_among (gates ++ g ∷ []) c ≡ Some x
among_more [] g c x found = absurd (cc)
among_more (h ∷ gates) g c x found =
    among_more_by (same_circuit c h.circuit) h.variable (variable_among gates c) (variable_among (gates ++ g ∷ []) c) x (among_more gates g c x) found

among_one_more : (version : Version) (gates : List Gate) (d : Circuit) (y : ℕ) (c : Circuit) (x : ℕ) → variable_among gates c ≡ Some x → variable_among (one_gate_more version gates d y) c ≡ Some x
among_one_more One gates d y c x found = found
among_one_more Two gates d y c x found = among_more gates (record { circuit = d; variable = y }) c x found
among_one_more Three gates d y c x found = among_more gates (record { circuit = d; variable = y }) c x found

mutual
  circuit_keeps : (version : Version) (p : ℕ → ℕ) (place : Place) (d c : Circuit) (x : ℕ) → variable_among place.gates c ≡ Some x → variable_among (circuit_clauses version p place d).after.gates c ≡ Some x
  circuit_keeps version p place always c x found = found
  circuit_keeps version p place never c x found = found
  circuit_keeps version p place (leaf v) c x found = found
  circuit_keeps version p place (at_least k inputs) c x found =
      let written = inputs_clauses version p place inputs in
      again_by (λ (w : Written). variable_among w.after.gates c ≡ Some x) place (variable_among place.gates (at_least k inputs)) (gate_over version k inputs written)
      (λ none. among_one_more version written.after.gates (at_least k inputs) (gate_variable written.after.next k (length written.variables)) c x (inputs_keep version p place inputs c x found))
      (λ y again. found)

  inputs_keep : (version : Version) (p : ℕ → ℕ) (place : Place) (inputs : Inputs) (c : Circuit) (x : ℕ) → variable_among place.gates c ≡ Some x → variable_among (inputs_clauses version p place inputs).after.gates c ≡ Some x
  inputs_keep version p place end_of_gate c x found = found
  inputs_keep version p place (input d others) c x found =
      inputs_keep version p (circuit_clauses version p place d).after others c x (circuit_keeps version p place d c x found)

-- ---- what is known

none_only : (R : Option ℕ → Type 0) → ((x : ℕ) → R (Some x) → ⊥) → (o : Option ℕ) → R o → o ≡ None
none_only R not None h = refl
none_only R not (Some x) h = absurd (not x h)

-- nothing is known
abbrev nothing : Option ℕ
nothing = None

none_in : (n k : ℕ) → get_or (replicate n nothing) k nothing ≡ nothing
none_in n k = elim (cases_lt k n) [
  | inl low ↦ get_or-replicate n k nothing nothing low
  | inr past ↦ get_or_past (replicate n nothing) k nothing (omega (arith, length-replicate n nothing, past))
]

-- a table that is made anew
pub fresh : (R : Option ℕ → Type 0) → ((x : ℕ) → R (Some x) → ⊥) → (n : ℕ) (known : List (Option ℕ)) → (((o : Option ℕ) → R o → o ≡ None) → known ≡ replicate n None) → known ≡ replicate n None
fresh R not n known is = is (none_only R not)

pub known_none : (gates : List Gate) (circuits : CircuitTable) (n : ℕ) (known : List (Option ℕ)) → known ≡ replicate n None → AreKnown gates circuits known
known_none gates circuits n known is k x at =
    let same : None ≡ Some x = sym (none_in n k) ∙ (ap (λ (ks : List (Option ℕ)). get_or ks k None) (sym is) ∙ at) in
    absurd (cc)

pub known_kept : (version : Version) (p : ℕ → ℕ) (place : Place) (d : Circuit) (gates : List Gate) (circuits : CircuitTable) (known : List (Option ℕ)) → gates ≡ (circuit_clauses version p place d).after.gates → AreKnown place.gates circuits known → AreKnown gates circuits known
known_kept version p place d gates circuits known is all k x at =
    let was = all k x at in
    record {
      gate = was.gate;
      among = ap (λ (gs : List Gate). variable_among gs (circuit_of_kind circuits k)) is ∙ circuit_keeps version p place d (circuit_of_kind circuits k) x was.among;
    }

known_by : (gates : List Gate) (circuits : CircuitTable) (known : List (Option ℕ)) (k : ℕ) (found : Option ℕ) (j x : ℕ) (same : Bool) → (j == k) ≡ same → k < length known → IfSome found (HasGate gates (circuit_of_kind circuits k)) → AreKnown gates circuits known → get_or (set known k found) j None ≡ Some x → HasGate gates (circuit_of_kind circuits j) x
known_by gates circuits known k found j x true e low is all at =
    let here : j ≡ k = eqb-true j k e in
    let same : found ≡ Some x = sym (get_or-set_same known k found None low) ∙ (ap (λ (i : ℕ). get_or (set known k found) i None) (sym here) ∙ at) in
    rw here (subst (λ (o : Option ℕ). IfSome o (HasGate gates (circuit_of_kind circuits k))) same is)
known_by gates circuits known k found j x false e low is all at =
    all j x (sym (get_or-set_other known k j found None (eqb-false j k e)) ∙ at)

pub known_more : (gates : List Gate) (circuits : CircuitTable) (known : List (Option ℕ)) (k : ℕ) (found : Option ℕ) → k < length known → IfSome found (HasGate gates (circuit_of_kind circuits k)) → AreKnown gates circuits known → AreKnown gates circuits (set known k found)
known_more gates circuits known k found low is all j x at = known_by gates circuits known k found j x (j == k) refl low is all at

-- ---- what is written where the gate is known

pub known_circuit : (version : Version) (p : ℕ → ℕ) (place : Place) (c : Circuit) (x : ℕ) → HasGate place.gates c x → (circuit_clauses version p place c).after ≡ place
known_circuit version p place always x is = absurd is.gate
known_circuit version p place never x is = absurd is.gate
known_circuit version p place (leaf v) x is = absurd is.gate
known_circuit version p place (at_least k inputs) x is =
    ap (λ (found : Option ℕ). (used_again found place (gate_over version k inputs (inputs_clauses version p place inputs))).after) is.among

pub known_node : (version : Version) (p : ℕ → ℕ) (place : Place) (v : ℕ) (c : Circuit) (x : ℕ) → HasGate place.gates c x → node_clauses version p place v c ≡ record { clauses = (Minus (p v) ∷ Plus x ∷ []) ∷ []; after = place }
known_node version p place v always x is = absurd is.gate
known_node version p place v never x is = absurd is.gate
known_node version p place v (leaf w) x is = absurd is.gate
known_node version p place v (at_least k inputs) x is =
    ap (λ (found : Option ℕ). with_gate (p v) (used_again found place (gate_over version k inputs (inputs_clauses version p place inputs)))) is.among

pub known_low : (next : ℕ) (gates : List Gate) (c : Circuit) (x : ℕ) → AreLow next gates → HasGate gates c x → (1 ≤ x) × (x < next)
known_low next gates c x low is = among_holds (IsLow next) gates c x low is.among
