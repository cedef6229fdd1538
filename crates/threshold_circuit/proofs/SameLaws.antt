-- Circuits that the test finds equal are.
use Rattle.std.proofs.Common.{◌≡◌, ◌==◌, true, refl, ap, ◌∙◌}
use Rattle.std.proofs.lemmas.Bool.{eqb-true, and_parts, false≢true}
use Rattle.threshold_circuit.specs.Circuits.{Circuit, Inputs, always, never, leaf, at_least, end_of_gate, input}
use Rattle.threshold_circuit.specs.Same.{same_circuit, same_inputs}

mutual
  pub same_is : (c d : Circuit) → same_circuit c d ≡ true → c ≡ d
  same_is always always same = refl
  same_is always never same = absurd (false≢true same)
  same_is always (leaf w) same = absurd (false≢true same)
  same_is always (at_least k inputs) same = absurd (false≢true same)
  same_is never always same = absurd (false≢true same)
  same_is never never same = refl
  same_is never (leaf w) same = absurd (false≢true same)
  same_is never (at_least k inputs) same = absurd (false≢true same)
  same_is (leaf v) always same = absurd (false≢true same)
  same_is (leaf v) never same = absurd (false≢true same)
  same_is (leaf v) (leaf w) same = ap leaf (eqb-true v w same)
  same_is (leaf v) (at_least k inputs) same = absurd (false≢true same)
  same_is (at_least k inputs) always same = absurd (false≢true same)
  same_is (at_least k inputs) never same = absurd (false≢true same)
  same_is (at_least k inputs) (leaf w) same = absurd (false≢true same)
  same_is (at_least k inputs) (at_least j others) same =
      let parts = and_parts (k == j) (same_inputs inputs others) same in
      ap (λ n. at_least n inputs) (eqb-true k j parts.0) ∙ ap (at_least j) (same_inputs_are inputs others parts.1)

  same_inputs_are : (cs ds : Inputs) → same_inputs cs ds ≡ true → cs ≡ ds
  same_inputs_are end_of_gate end_of_gate same = refl
  same_inputs_are end_of_gate (input d ds) same = absurd (false≢true same)
  same_inputs_are (input c cs) end_of_gate same = absurd (false≢true same)
  same_inputs_are (input c cs) (input d ds) same =
      let parts = and_parts (same_circuit c d) (same_inputs cs ds) same in
      ap (λ e. input e cs) (same_is c d parts.0) ∙ ap (input d) (same_inputs_are cs ds parts.1)
