-- The circuits of each version can be written where the simplified circuits can.
use Rattle.std.proofs.Common.{◌≡◌, ℕ, ◌≤◌, refl, subst, sym}
use Rattle.fbas_model.specs.declared.TheConstants.{MOST_ENTRIES}
use Rattle.threshold_circuit.specs.Circuits.{Circuit, never}
use Rattle.threshold_circuit.proofs.OrderedLaws.{ordered_below, ordered_inputs, ordered_thresholds}
use Rattle.clause_encoder.specs.declared.version.Version.{Version}
use Rattle.clause_encoder.specs.declared.version.Version.TheVariants.{One, Two, Three}
use Rattle.clause_encoder.specs.Formula.{in_version}
use Rattle.clause_encoder.specs.Written.{IsWritable}

pub never_in : (version : Version) → never ≡ in_version version never
never_in One = refl
never_in Two = refl
never_in Three = refl

pub writable_in : (version : Version) (n : ℕ) (c : Circuit) → IsWritable n c → IsWritable n (in_version version c)
writable_in One n c w = w
writable_in Two n c w = w
writable_in Three n c w = record {
  thresholds = ordered_thresholds c w.thresholds;
  below = ordered_below n c w.below;
  few = subst (λ (m : ℕ). m ≤ MOST_ENTRIES) (sym (ordered_inputs c)) w.few;
}
