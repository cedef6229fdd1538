use Rattle.std.proofs.Common.{◌≡◌, ℕ, ◌≤◌, List, [], ◌∷◌, ◌++◌, Vec, Global, refl, ap, subst, sym, ◌∙◌, arith}
use Rattle.fbas_model.specs.declared.TheConstants.{MOST_ENTRIES}
use Rattle.threshold_circuit.specs.Circuits as Circuits
use Rattle.threshold_circuit.specs.Circuits.{at_least, HasThresholds, all_inputs}
use Rattle.threshold_circuit.specs.declared.Circuit.{Circuit, Node}
use Rattle.threshold_circuit.specs.declared.Circuit.TheViews.{AtLeast}
use Rattle.threshold_circuit.specs.Views.{circuit_view, inputs_view}
use Rattle.threshold_circuit.proofs.ViewLaws.{circuit_view_at_least}
use Rattle.encoder_tests.proofs.circuits.vars.Goals as goal

abbrev three : List Circuit
three = Node 0 ∷ Node 1 ∷ Node 2 ∷ []

view : (t : ℕ) (v : Vec Circuit Global) → v.items ≡ three → circuit_view (AtLeast t v) ≡ at_least t (inputs_view three)
view t v e = circuit_view_at_least t v ∙ ap (λ (cs : List Circuit). at_least t (inputs_view cs)) e

pushed : (a b c d : List Circuit) → a ≡ [] → b ≡ a ++ Node 0 ∷ [] → c ≡ b ++ Node 1 ∷ [] → d ≡ c ++ Node 2 ∷ [] → d ≡ three
pushed a b c d e f g h = rw (h, g, f, e) refl

thresholds : (t : ℕ) (v : Vec Circuit Global) → v.items ≡ three → 1 ≤ t → t ≤ 3 → HasThresholds (circuit_view (AtLeast t v))
thresholds t v e low high = subst HasThresholds (sym (view t v e)) (low, omega arith, (tt, (tt, (tt, tt))))

few : (t : ℕ) (v : Vec Circuit Global) → v.items ≡ three → all_inputs (circuit_view (AtLeast t v)) ≤ MOST_ENTRIES
few t v e = subst (λ (c : Circuits.Circuit). all_inputs c ≤ MOST_ENTRIES) (sym (view t v e)) (omega arith)

pub gate_vars-requires-clause-thresholds : goal.gate_vars-requires-clause-thresholds
gate_vars-requires-clause-thresholds c =
    let items = pushed c.new-entries.result.items c.push.new.self.items c.push-2.new.self.items c.push-3.new.self.items c.new-entries.ensures.items c.in_ok-push.ensures.items c.in_ok-push-2.ensures.items c.in_ok-push-3.ensures.items in
    thresholds c.args.threshold c.push-3.new.self items c.requires.some c.requires.few

pub gate_vars-requires-clause-few : goal.gate_vars-requires-clause-few
gate_vars-requires-clause-few c =
    let items = pushed c.new-entries.result.items c.push.new.self.items c.push-2.new.self.items c.push-3.new.self.items c.new-entries.ensures.items c.in_ok-push.ensures.items c.in_ok-push-2.ensures.items c.in_ok-push-3.ensures.items in
    few c.args.threshold c.push-3.new.self items
