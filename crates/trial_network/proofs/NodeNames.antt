-- The names of the nodes of a trial configuration: they are keys, and they rise with the numbers.
use Rattle.std.proofs.Common.{◌≡◌, ℕ, zero, suc, ◌+◌, ◌-◌, ◌*◌, ◌≤◌, ◌<◌, inl, inr, [], ◌∷◌, ◌++◌, Bool, true, ◌&&◌, Ordering, Less, Equal, Greater, length, slice_index_or, refl, sym, ap, ◌∙◌, subst, arith}
use Rattle.std.proofs.lemmas.Bool.{and_parts, cases_lt}
use Rattle.std.proofs.lemmas.Cmp.{nat_list_cmp_total}
use Rattle.std.specs.List.{AllByRecursion}
use Rattle.std.specs.List.Sorted.{IsStrictlySortedBy}
use Rattle.std.specs.Ordering.{is_lt}
use Rattle.fbas_model.specs.Names.{name_cmp, is_key}
use Rattle.trial_network.specs.declared.configuration.TheConstants.{MOST_ORGANISATIONS}
use Rattle.trial_network.specs.Trial.{node_name, names_from}

-- ---- tests of all numbers below a limit

abbrev holds_below : (ℕ → Bool) → ℕ → Bool
holds_below p zero = true
holds_below p (suc k) = p k && holds_below p k

holds_at : (p : ℕ → Bool) (n v : ℕ) → holds_below p n ≡ true → v < n → p v ≡ true
holds_at p zero v h less = absurd (omega arith)
holds_at p (suc k) v h less =
    let both = and_parts (p k) (holds_below p k) h in
    elim (cases_lt v k) [
      | inl below ↦ holds_at p k v both.1 below
      | inr last ↦ let e : k ≡ v = omega arith in subst (λ x. p x ≡ true) e both.0
    ]

all_keys : holds_below (λ v. is_key (node_name v)) (3 * MOST_ORGANISATIONS) ≡ true
unfolding node_name
all_keys = refl

all_rise : holds_below (λ v. is_lt (name_cmp (node_name v) (node_name (v + 1)))) (3 * MOST_ORGANISATIONS) ≡ true
unfolding node_name
all_rise = refl

pub name_key : (v : ℕ) → v < 3 * MOST_ORGANISATIONS → is_key (node_name v) ≡ true
name_key v h = holds_at (λ v. is_key (node_name v)) (3 * MOST_ORGANISATIONS) v all_keys h

is_less : (o : Ordering) → is_lt o ≡ true → o ≡ Less
is_less o h = elim o as (λ p. is_lt p ≡ true → p ≡ Less) [ Less ↦ λ _. refl | Equal ↦ λ e. absurd cc | Greater ↦ λ e. absurd cc ] h

next_less : (v : ℕ) → v < 3 * MOST_ORGANISATIONS → name_cmp (node_name v) (node_name (v + 1)) ≡ Less
next_less v h = is_less (name_cmp (node_name v) (node_name (v + 1))) (holds_at (λ v. is_lt (name_cmp (node_name v) (node_name (v + 1)))) (3 * MOST_ORGANISATIONS) v all_rise h)

less_by : (v k : ℕ) → v + k < 3 * MOST_ORGANISATIONS → name_cmp (node_name v) (node_name (v + 1 + k)) ≡ Less
less_by v zero h = let e : v + 1 ≡ v + 1 + 0 = omega arith in subst (λ w. name_cmp (node_name v) (node_name w) ≡ Less) e (next_less v (omega arith))
less_by v (suc k) h =
    let here = less_by v k (omega arith) in
    let next = next_less (v + 1 + k) (omega arith) in
    let e : v + 1 + k + 1 ≡ v + 1 + suc k = omega arith in
    subst (λ w. name_cmp (node_name v) (node_name w) ≡ Less) e (nat_list_cmp_total.trans (node_name v) (node_name (v + 1 + k)) (node_name (v + 1 + k + 1)) here next)

name_less : (v w : ℕ) → v < w → w < 3 * MOST_ORGANISATIONS → name_cmp (node_name v) (node_name w) ≡ Less
name_less v w less h =
    let e : v + 1 + (w - (v + 1)) ≡ w = omega arith in
    subst (λ x. name_cmp (node_name v) (node_name x) ≡ Less) e (less_by v (w - (v + 1)) (omega arith))

-- ---- lists of names

pub length-names : (v k : ℕ) → length (names_from v k) ≡ k
length-names v zero = refl
length-names v (suc k) = ap suc (length-names (v + 1) k)

pub names-at : (v k i : ℕ) → i < k → slice_index_or (names_from v k) i [] ≡ node_name (v + i)
names-at v zero i h = absurd (omega arith)
names-at v (suc k) zero h = let e : v + 0 ≡ v = omega arith in ap node_name (sym e)
names-at v (suc k) (suc i) h = let e : v + 1 + i ≡ v + suc i = omega arith in names-at (v + 1) k i (omega arith) ∙ ap node_name e

all_above : (v w k : ℕ) → v < w → w + k ≤ 3 * MOST_ORGANISATIONS → AllByRecursion (λ z. name_cmp (node_name v) z ≡ Less) (names_from w k)
all_above v w zero less h = tt
all_above v w (suc k) less h = (name_less v w less (omega arith), all_above v (w + 1) k (omega arith) (omega arith))

pub names-sorted : (v k : ℕ) → v + k ≤ 3 * MOST_ORGANISATIONS → IsStrictlySortedBy name_cmp (names_from v k)
unfolding IsStrictlySortedBy
names-sorted v zero h = tt
names-sorted v (suc k) h = (all_above v (v + 1) k (omega arith) (omega arith), names-sorted (v + 1) k (omega arith))

-- one more name at the end
pub names-more : (v k : ℕ) → names_from v k ++ node_name (v + k) ∷ [] ≡ names_from v (suc k)
names-more v zero = let e : v + 0 ≡ v = omega arith in ap (λ w. node_name w ∷ []) e
names-more v (suc k) =
    let e : v + suc k ≡ v + 1 + k = omega arith in
    ap (λ w. node_name v ∷ (names_from (v + 1) k ++ node_name w ∷ [])) e ∙ ap (λ ns. node_name v ∷ ns) (names-more (v + 1) k)
