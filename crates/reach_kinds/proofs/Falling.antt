-- Ever smaller quorums: the last of them, in the part and in the whole system.
use Rattle.std.proofs.Common.{◌≡◌, ℕ, List, [], ◌∷◌, ◌++◌, map, length, true, nat_lt, Option, Some, None, option_map, slice_get, IfSome, refl, sym, ap, ◌∙◌, arith}
use Rattle.std.specs.Prelude.{All, ◌-◌}
use Rattle.std.proofs.lemmas.Bool.{ltb-true}
use Rattle.std.proofs.lemmas.List.Elements.{All-head, All-tail}
use Rattle.fbas_model.specs.Nodes.{Table, size}
use Rattle.fbas_model.specs.Restriction.{kept}
use Rattle.fbas_model.specs.Systems.{System}
use Rattle.least_journal.specs.Least.{AreSmaller, FallFrom, last_of}
use Rattle.least_journal.proofs.Counts.{size_kept}
use Rattle.reach_kinds.specs.Bodies.{is_below}
use Rattle.reach_kinds.specs.Known.{IsPartSet}

-- ---- the last set

pub last_map : (h : Table → Table) (u : Option Table) (sets : List Table) → last_of (option_map h u) (map h sets) ≡ option_map h (last_of u sets)
last_map h u [] = refl
last_map h u (s ∷ sets) = last_map h (Some s) sets

last_has : (P : Table → Type 0) (u : Option Table) (sets : List Table) → IfSome u P → All P sets → IfSome (last_of u sets) P
last_has P u [] one all = one
last_has P u (s ∷ sets) one all = last_has P (Some s) sets (All-head P s sets all) (All-tail P s sets all)

-- each set is of this kind, so the last one is
pub last_is : (P : Table → Type 0) (sets : List Table) → All P sets → IfSome (last_of None sets) P
last_is P sets all = last_has P None sets tt all

last_from : (s : Table) (sets : List Table) → last_of (Some s) sets ≡ slice_get (s ∷ sets) (length sets)
last_from s [] = refl
last_from s (t ∷ sets) = last_from t sets

-- the last is the one at the last place
pub last_at : (sets : List Table) → slice_get sets (length sets - 1) ≡ last_of None sets
last_at [] = refl
last_at (s ∷ sets) =
    let place : length (s ∷ sets) - 1 ≡ length sets = omega arith in
    ap (λ (n : ℕ). slice_get (s ∷ sets) n) place ∙ sym (last_from s sets)

-- ---- falling sizes

smaller_more : (n : ℕ) (u : Table) (us : List Table) (w : Table) → AreSmaller (size u) us → is_below (size w) (last_of (Some u) us) ≡ true → AreSmaller (size u) (us ++ w ∷ [])
smaller_more n u [] w falling below = (ltb-true (size w) (size u) below, tt)
smaller_more n u (s ∷ us) w falling below = (falling.0, smaller_more n s us w falling.1 below)

-- one more that is smaller than the last
pub falls_more : (us : List Table) (w : Table) → FallFrom us → is_below (size w) (last_of None us) ≡ true → FallFrom (us ++ w ∷ [])
falls_more [] w falling below = tt
falls_more (u ∷ us) w falling below = smaller_more (size u) u us w falling below

-- ---- sets of the part have as many nodes in the whole system

pub size_in_part : (f : System) (nodes u : Table) → length nodes ≡ length f.sets → IsPartSet f nodes u → size (kept nodes u) ≡ size u
size_in_part f nodes u places is = size_kept nodes u (places ∙ sym is.places) is.within

below_as : (f : System) (nodes : Table) (n : ℕ) (o : Option Table) → length nodes ≡ length f.sets → IfSome o (IsPartSet f nodes) → is_below n (option_map (kept nodes) o) ≡ is_below n o
below_as f nodes n None places is = refl
below_as f nodes n (Some u) places is = ap (nat_lt n) (size_in_part f nodes u places is)

-- a set is smaller than the last of them in the part where it is in the whole system
pub below_in_part : (f : System) (nodes : Table) (n : ℕ) (sets : List Table) → length nodes ≡ length f.sets → All (IsPartSet f nodes) sets → is_below n (last_of None (map (kept nodes) sets)) ≡ is_below n (last_of None sets)
below_in_part f nodes n sets places all = ap (is_below n) (last_map (kept nodes) None sets) ∙ below_as f nodes n (last_of None sets) places (last_is (IsPartSet f nodes) sets all)
