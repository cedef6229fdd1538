-- The system of a trial configuration is within the limits.
use Rattle.std.proofs.Common.{◌≡◌, ℕ, zero, suc, ◌+◌, ◌*◌, ◌≤◌, Some, replicate, refl, sym, ◌∙◌, arith}
use Rattle.std.specs.Prelude.{All, IfSome, IsTrue}
use Rattle.std.proofs.Math.Nat.{max-le}
use Rattle.std.proofs.lemmas.List.{length-replicate}
use Rattle.std.proofs.lemmas.List.Elements.{All-nil, All-cons, All-replicate}
use Rattle.fbas_model.specs.Names.{is_key}
use Rattle.fbas_model.specs.QuorumSets.{AreBelow, all_entries, all_entries_of, depth_of}
use Rattle.fbas_model.specs.Systems.{IsWithin, IsSystem, entries_in}
use Rattle.fbas_model.specs.Trees.{QuorumSet}
use Rattle.trial_network.specs.declared.configuration.TheConstants.{MOST_ORGANISATIONS}
use Rattle.trial_network.specs.Trial.{node_name, names_from, organisation_sets, trial_set}
use Rattle.trial_network.proofs.NodeNames.{name_key, length-names}

keys : (v k : ℕ) → v + k ≤ 3 * MOST_ORGANISATIONS → All (λ name. IsTrue (is_key name)) (names_from v k)
keys v zero few = All-nil (λ name. IsTrue (is_key name))
keys v (suc k) few = All-cons (λ name. IsTrue (is_key name)) (node_name v) (names_from (v + 1) k) (name_key v (omega (arith, few))) (keys (v + 1) k (omega (arith, few)))

below : (n o k : ℕ) → o + k ≤ n → AreBelow (3 * n) (organisation_sets o k)
below n o zero few = tt
below n o (suc k) few = ((omega (arith, few), (omega (arith, few), (omega (arith, few), tt))), below n (o + 1) k (omega (arith, few)))

shallow : (o k : ℕ) → depth_of (organisation_sets o k) ≤ 1
shallow o zero = omega arith
shallow o (suc k) = max-le (omega arith) (shallow (o + 1) k)

entries_of_organisations : (o k : ℕ) → all_entries_of (organisation_sets o k) ≡ 4 * k
entries_of_organisations o zero = refl
entries_of_organisations o (suc k) = rw (entries_of_organisations (o + 1) k) (omega arith)

entries_below : (q : QuorumSet) (k : ℕ) → all_entries q ≤ 4 * MOST_ORGANISATIONS → entries_in (replicate k (Some q)) ≤ 4 * MOST_ORGANISATIONS * k
entries_below q zero h = omega arith
entries_below q (suc k) h = let later = entries_below q k h in omega (arith, later, h)

set_within : (n : ℕ) → IsWithin (3 * n) (trial_set n)
set_within n = record {
  below = below n 0 n (omega arith);
  shallow = let low = shallow 0 n in omega (arith, low);
}

pub within_limits : (n : ℕ) → n ≤ MOST_ORGANISATIONS → IsSystem (names_from 0 (3 * n)) (replicate (3 * n) (Some (trial_set n)))
within_limits n few =
    let named = length-names 0 (3 * n) in
    record {
      places = length-replicate (3 * n) (Some (trial_set n)) ∙ sym named;
      keys = keys 0 (3 * n) (omega (arith, few));
      few = omega (arith, named, few);
      within = rw named (All-replicate (λ o. IfSome o (IsWithin (3 * n))) (3 * n) (Some (trial_set n)) (set_within n));
      entries =
          let set : all_entries (trial_set n) ≤ 4 * MOST_ORGANISATIONS = rw (entries_of_organisations 0 n) (omega (arith, few)) in
          let all = entries_below (trial_set n) (3 * n) set in
          omega (arith, all, few);
    }
