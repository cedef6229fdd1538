-- What holds of each gate that is used again.
use Rattle.std.proofs.Common.{◌≡◌, ℕ, ◌<◌, Bool, true, false, if◌then◌else◌, List, [], ◌∷◌, ◌++◌, Option, Some, None, cond, refl, ap, subst, sym, ◌∙◌, arith}
use Rattle.std.proofs.lemmas.Bool.{false≢true}
use Rattle.threshold_circuit.specs.Circuits.{Circuit, all_inputs}
use Rattle.threshold_circuit.specs.Same.{same_circuit}
use Rattle.threshold_circuit.proofs.SameLaws.{same_is}
use Rattle.clause_encoder.specs.declared.version.Version.{Version}
use Rattle.clause_encoder.specs.declared.version.Version.TheVariants.{One, Two, Three}
use Rattle.clause_encoder.specs.CircuitClauses.{Gate, Place, Written, variable_among, one_gate_more, stands_for, used_again}
use Rattle.clause_encoder.specs.SharedGates.{EachGate, gates_of}
use Rattle.threshold_circuit.specs.declared.Circuit as Rust
use Rattle.threshold_circuit.specs.Views.{circuit_view}
use Rattle.threshold_circuit.specs.contracts.CircuitPartialEq.TheImpl as own
use Rattle.threshold_circuit.proofs.EqLaws.{eq_is}
use Rattle.std.specs.Map.{lookup}

each_gate_more : (P : Circuit → ℕ → Type 0) (gates : List Gate) (c : Circuit) (x : ℕ) → EachGate P gates → P c x → EachGate P (gates ++ record { circuit = c; variable = x } ∷ [])
each_gate_more P [] c x each new = (new, tt)
each_gate_more P (g ∷ gates) c x each new = (each.0, each_gate_more P gates c x each.1 new)

pub each_one_more : (version : Version) (P : Circuit → ℕ → Type 0) (gates : List Gate) (c : Circuit) (x : ℕ) → EachGate P gates → P c x → EachGate P (one_gate_more version gates c x)
each_one_more One P gates c x each new = each
each_one_more Two P gates c x each new = each_gate_more P gates c x each new
each_one_more Three P gates c x each new = each_gate_more P gates c x each new

pub each_gate_map : (P Q : Circuit → ℕ → Type 0) → ((c : Circuit) (x : ℕ) → P c x → Q c x) → (gates : List Gate) → EachGate P gates → EachGate Q gates
each_gate_map P Q go [] each = tt
each_gate_map P Q go (g ∷ gates) each = (go g.circuit g.variable each.0, each_gate_map P Q go gates each.1)

among_by : (P : Circuit → ℕ → Type 0) (c d : Circuit) (y : ℕ) (rest : Option ℕ) (x : ℕ) (same : Bool) → same_circuit c d ≡ same → P d y → (rest ≡ Some x → P c x) → (if same then Some y else rest) ≡ Some x → P c x
among_by P c d y rest x true is here there at =
    let variable : y ≡ x = cc in
    subst (P c) variable (subst (λ (e : Circuit). P e y) (sym (same_is c d is)) here)
among_by P c d y rest x false is here there at = there at

-- what holds of each gate holds of a circuit that is one of them
pub among_holds : (P : Circuit → ℕ → Type 0) (gates : List Gate) (c : Circuit) (x : ℕ) → EachGate P gates → variable_among gates c ≡ Some x → P c x
among_holds P [] c x each at = absurd (cc)
among_holds P (g ∷ gates) c x each at = among_by P c g.circuit g.variable (variable_among gates c) x (same_circuit c g.circuit) refl each.0 (among_holds P gates c x each.1) at

-- what holds of what is written, and of what stands there already
pub again_by : (Q : Written → Type 0) (place : Place) (found : Option ℕ) (written : Written) → (found ≡ None → Q written) → ((x : ℕ) → found ≡ Some x → Q (stands_for place x)) → Q (used_again found place written)
again_by Q place None written new known = new refl
again_by Q place (Some x) written new known = known x refl

-- ---- the map of the code

looked_by : (test same : Bool) (x : ℕ) (rest rest' : Option ℕ) → test ≡ same → rest ≡ rest' → cond test (Some x) rest ≡ (if same then Some x else rest')
looked_by true true x rest rest' at below = refl
looked_by true false x rest rest' at below = absurd (false≢true (sym at))
looked_by false true x rest rest' at below = absurd (false≢true at)
looked_by false false x rest rest' at below = below

pub among_is : (c : Rust.Circuit) (entries : List (Rust.Circuit × ℕ)) → lookup (own.ghosts.eq c) entries ≡ variable_among (gates_of entries) (circuit_view c)
among_is c [] = refl
among_is c (e ∷ entries) = looked_by (own.ghosts.eq c e.0) (same_circuit (circuit_view c) (circuit_view e.0)) e.1 _ _ (eq_is c e.0) (among_is c entries)

pub gates_more : (entries : List (Rust.Circuit × ℕ)) (c : Rust.Circuit) (x : ℕ) → gates_of (entries ++ (c, x) ∷ []) ≡ gates_of entries ++ record { circuit = circuit_view c; variable = x } ∷ []
gates_more [] c x = refl
gates_more (e ∷ entries) c x = ap (λ (gates : List Gate). record { circuit = circuit_view e.0; variable = e.1 } ∷ gates) (gates_more entries c x)

-- ---- a circuit that is none of the gates

-- another circuit
abbrev pub Differs : Circuit → Circuit → ℕ → Type 0
Differs c d x = same_circuit c d ≡ false

absent_by : (c d : Circuit) (y : ℕ) (rest : Option ℕ) (same : Bool) → same_circuit c d ≡ same → (if same then Some y else rest) ≡ None → (same_circuit c d ≡ false) × (rest ≡ None)
absent_by c d y rest true is none = absurd (cc)
absent_by c d y rest false is none = (is, none)

pub absent : (c : Circuit) (gates : List Gate) → variable_among gates c ≡ None → EachGate (Differs c) gates
absent c [] none = tt
absent c (g ∷ gates) none =
    let here = absent_by c g.circuit g.variable (variable_among gates c) (same_circuit c g.circuit) refl none in
    (here.0, absent c gates here.1)

pub absent_back : (c : Circuit) (gates : List Gate) → EachGate (Differs c) gates → variable_among gates c ≡ None
absent_back c [] each = refl
absent_back c (g ∷ gates) each = ap (λ (same : Bool). if same then Some g.variable else variable_among gates c) each.0 ∙ absent_back c gates each.1

differs_by : (c d : Circuit) (same : Bool) → same_circuit c d ≡ same → all_inputs d < all_inputs c → same_circuit c d ≡ false
differs_by c d true is low = let whole = ap all_inputs (same_is c d is) in absurd (omega (arith, whole, low))
differs_by c d false is low = is

-- a smaller circuit is another
pub smaller_differs : (c d : Circuit) → all_inputs d < all_inputs c → same_circuit c d ≡ false
smaller_differs c d low = differs_by c d (same_circuit c d) refl low
