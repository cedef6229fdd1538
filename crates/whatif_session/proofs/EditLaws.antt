-- What the edits come to, case by case.
use Rattle.std.proofs.Common.{◌≡◌, ◌≤◌, ◌<◌, ℕ, ◌+◌, ◌-◌, Bool, true, false, List, length, refl, sym, ap, ◌∙◌, subst, arith, inl, inr, ◌⊎◌, Option, Some, None, Result, Ok, Err, slice_index_or}
use denote.Ref.{Bor}
use Rattle.std.specs.Option.{option_copied}
use Rattle.std.proofs.lemmas.Option.{get_or_from_slice_get}
use Rattle.std.specs.Prelude.{set, slice_get, is_some, OnOk, IfErr, ok_or, nat_lt, if◌then◌else◌}
use Rattle.std.proofs.lemmas.Bool.{lt-ltb, ltb-true, false_from_ne_true}
use Rattle.fbas_model.specs.declared.TheConstants.{MOST_ENTRIES}
use Rattle.fbas_model.specs.Names.{Name, place_of}
use Rattle.fbas_model.specs.Trees.{QuorumSet, quorum_set, none}
use Rattle.fbas_model.specs.QuorumSets.{all_entries}
use Rattle.fbas_model.specs.Systems.{System, IsWithin, IsSystem, entries_in}
use Rattle.fbas_core.specs.Replacing.{with_set}
use Rattle.whatif_session.specs.Changes.{set_at, changed_at, entries_if_any}
use Rattle.whatif_session.specs.Edits.{Threshold, Add, Drop, Declare, Retire}
use Rattle.whatif_session.specs.Names.{with_node}
use Rattle.whatif_session.specs.Edited.{◌>>=◌, node_in, own_in, inner_in, validator_in, within_entries, appended, declared, has_set, owned, edited, IsOwnSet, IsAppended}
use Rattle.whatif_session.specs.declared.change.Change.{Change}
use Rattle.whatif_session.specs.declared.change.Change.TheVariants as change
use Rattle.whatif_session.specs.declared.faults.EditFault.{EditFault}
use Rattle.whatif_session.specs.declared.faults.EditFault.TheVariants.{Memory, UnknownNode, NoSet, Already, TooManyEntries}
use Rattle.whatif_session.proofs.Limits.{within_changed, grown, no_more, entries_set, growth}

not_above : (m n : ℕ) → n ≤ m → nat_lt m n ≡ false
not_above m n h = false_from_ne_true (nat_lt m n) (λ e. let less = ltb-true m n e in absurd (omega (arith, less, h)))

-- a fault before anything else
first_fault : {A B C : Type 0} → (r : Result A EditFault) (f : A → Result B EditFault) (g : A → B → Result C EditFault) (e : EditFault) → (r >>= f) ≡ Err e → (r >>= (λ a. f a >>= g a)) ≡ Err e
first_fault (Ok a) f g e h = ap (λ b. b >>= g a) h
first_fault (Err x) f g e h = cc

pub retire_no : (s : System) (name : Name) (e : EditFault) → owned s name ≡ Err e → edited s (Retire name) ≡ Err e
unfolding edited
retire_no s name e h = first_fault (node_in s name) (own_in s) (λ v d. Ok (with_set s v None)) e h

pub retire_yes : (s : System) (name : Name) (v : ℕ) (d : QuorumSet) → IsOwnSet s name v d → edited s (Retire name) ≡ Ok (with_set s v None)
unfolding edited
retire_yes s name v d is = rw (is.node, is.set) refl

pub threshold_no : (s : System) (name : Name) (path : List ℕ) (k : ℕ) (e : EditFault) → owned s name ≡ Err e → edited s (Threshold name path k) ≡ Err e
unfolding edited
threshold_no s name path k e h = first_fault (node_in s name) (own_in s) (λ v d. inner_in path d >>= (λ q. Ok (with_set s v (Some (changed_at path (change.Threshold k) d))))) e h

pub threshold_none : (s : System) (name : Name) (path : List ℕ) (k v : ℕ) (d : QuorumSet) → IsOwnSet s name v d → set_at path d ≡ None → edited s (Threshold name path k) ≡ Err NoSet
unfolding edited
threshold_none s name path k v d is missing = rw (is.node, is.set, missing) refl

pub threshold_yes : (s : System) (name : Name) (path : List ℕ) (k v : ℕ) (d q : QuorumSet) → IsOwnSet s name v d → set_at path d ≡ Some q → edited s (Threshold name path k) ≡ Ok (with_set s v (Some (changed_at path (change.Threshold k) d)))
unfolding edited
threshold_yes s name path k v d q is some = rw (is.node, is.set, some) refl

pub drop_no : (s : System) (name : Name) (path : List ℕ) (gone : Name) (e : EditFault) → owned s name ≡ Err e → edited s (Drop name path gone) ≡ Err e
unfolding edited
drop_no s name path gone e h = first_fault (node_in s name) (own_in s)
    (λ v d. inner_in path d >>= (λ q. validator_in q (place_of s.names gone) >>= (λ w. Ok (with_set s v (Some (changed_at path (change.Drop w) d)))))) e h

pub drop_none : (s : System) (name : Name) (path : List ℕ) (gone : Name) (v : ℕ) (d : QuorumSet) → IsOwnSet s name v d → set_at path d ≡ None → edited s (Drop name path gone) ≡ Err NoSet
unfolding edited
drop_none s name path gone v d is missing = rw (is.node, is.set, missing) refl

pub drop_missing : (s : System) (name : Name) (path : List ℕ) (gone : Name) (v : ℕ) (d q : QuorumSet) (e : EditFault) → IsOwnSet s name v d → set_at path d ≡ Some q → validator_in q (place_of s.names gone) ≡ Err e → edited s (Drop name path gone) ≡ Err e
unfolding edited
drop_missing s name path gone v d q e is some missing = rw (is.node, is.set, some) (rw missing refl)

pub drop_yes : (s : System) (name : Name) (path : List ℕ) (gone : Name) (v w : ℕ) (d q : QuorumSet) → IsOwnSet s name v d → set_at path d ≡ Some q → validator_in q (place_of s.names gone) ≡ Ok w
    → edited s (Drop name path gone) ≡ Ok (with_set s v (Some (changed_at path (change.Drop w) d)))
unfolding edited
drop_yes s name path gone v w d q is some there = rw (is.node, is.set, some) (rw there refl)

pub add_no : (s : System) (node : Name) (path : List ℕ) (name : Name) (e : EditFault) → owned s node ≡ Err e → edited s (Add node path name) ≡ Err e
unfolding edited
add_no s node path name e h = first_fault (node_in s node) (own_in s) (λ v d. inner_in path d >>= (λ q. with_node s name >>= (λ t. appended t node path name))) e h

pub add_none : (s : System) (node : Name) (path : List ℕ) (name : Name) (v : ℕ) (d : QuorumSet) → IsOwnSet s node v d → set_at path d ≡ None → edited s (Add node path name) ≡ Err NoSet
unfolding edited
add_none s node path name v d is missing = rw (is.node, is.set, missing) refl

pub add_fault : (s : System) (node : Name) (path : List ℕ) (name : Name) (v : ℕ) (d q : QuorumSet) (e : EditFault) → IsOwnSet s node v d → set_at path d ≡ Some q → with_node s name ≡ Err e → edited s (Add node path name) ≡ Err e
unfolding edited
add_fault s node path name v d q e is some fault = rw (is.node, is.set, some) (ap (λ (r : Result System EditFault). r >>= (λ t. appended t node path name)) fault)

pub add_then : (s t : System) (node : Name) (path : List ℕ) (name : Name) (v : ℕ) (d q : QuorumSet) → IsOwnSet s node v d → set_at path d ≡ Some q → with_node s name ≡ Ok t → edited s (Add node path name) ≡ appended t node path name
unfolding edited
add_then s t node path name v d q is some grown = rw (is.node, is.set, some) (ap (λ (r : Result System EditFault). r >>= (λ t. appended t node path name)) grown)

-- a name that is there
pub known_node : (s : System) (name : Name) (v : ℕ) → place_of s.names name ≡ Some v → with_node s name ≡ Ok s
known_node s name v h = rw h refl

pub declare_already : (s : System) (node : Name) (v : ℕ) (d : QuorumSet) → place_of s.names node ≡ Some v → slice_index_or s.sets v None ≡ Some d → edited s (Declare node) ≡ Err Already
unfolding edited
declare_already s node v d at set = rw (at, set) refl

-- a node without a quorum set, maybe a new one
declare_then : (s : System) (node : Name) → has_set s (place_of s.names node) ≡ false → edited s (Declare node) ≡ (with_node s node >>= (λ t. declared t node))
unfolding edited
declare_then s node unset = ap (λ (b : Bool). if b then Err Already else (with_node s node >>= (λ t. declared t node))) unset

pub missing_open : (s : System) (node : Name) → place_of s.names node ≡ None → has_set s (place_of s.names node) ≡ false
missing_open s node missing = rw missing refl

pub there_open : (s : System) (node : Name) (v : ℕ) → place_of s.names node ≡ Some v → slice_index_or s.sets v None ≡ None → has_set s (place_of s.names node) ≡ false
there_open s node v at set = rw (at, set) refl

pub declare_fault : (s : System) (node : Name) (e : EditFault) → has_set s (place_of s.names node) ≡ false → with_node s node ≡ Err e → edited s (Declare node) ≡ Err e
declare_fault s node e unset fault = declare_then s node unset ∙ ap (λ (r : Result System EditFault). r >>= (λ t. declared t node)) fault

pub declare_open : (s t : System) (node : Name) → has_set s (place_of s.names node) ≡ false → with_node s node ≡ Ok t → edited s (Declare node) ≡ declared t node
declare_open s t node unset grown = declare_then s node unset ∙ ap (λ (r : Result System EditFault). r >>= (λ t. declared t node)) grown

pub bare_lost : (s : System) (node : Name) → place_of s.names node ≡ None → declared s node ≡ Err UnknownNode
bare_lost s node lost = rw lost refl

pub bare_given : (s : System) (node : Name) (v : ℕ) → place_of s.names node ≡ Some v → declared s node ≡ Ok (with_set s v (Some (quorum_set 1 none)))
bare_given s node v at = rw at refl

-- what a call ensures of one definition is so of another that comes to the same
pub on_then : (r : Result (Unit {0}) EditFault) (x y z : Result System EditFault) → x ≡ y → OnOk r (y ≡ z) → OnOk r (x ≡ z)
on_then (Ok u) x y z same h = same ∙ h
on_then (Err e) x y z same h = tt

pub err_then : (r : Result (Unit {0}) EditFault) (x y : Result System EditFault) → x ≡ y → IfErr r (λ e. (e ≡ Memory) ⊎ (y ≡ Err e)) → IfErr r (λ e. (e ≡ Memory) ⊎ (x ≡ Err e))
err_then (Ok u) x y same h = tt
err_then (Err e) x y same h = elim h [
  | inl memory ↦ inl memory
  | inr fault ↦ inr (same ∙ fault)
]

-- what a look at a node's quorum set says
pub set_there : (s : System) (v : ℕ) (o : Option (Bor QuorumSet)) → slice_get s.sets v ≡ Some (option_copied o) → is_some o ≡ true → (d : QuorumSet) × (slice_index_or s.sets v None ≡ Some d)
set_there s v None at some = absurd cc
set_there s v (Some d) at some = (d.now, get_or_from_slice_get s.sets v (Some d.now) None at)

pub set_missing : (s : System) (v : ℕ) (o : Option (Bor QuorumSet)) → slice_get s.sets v ≡ Some (option_copied o) → is_some o ≡ false → slice_index_or s.sets v None ≡ None
set_missing s v None at lacks = get_or_from_slice_get s.sets v None None at
set_missing s v (Some d) at lacks = absurd cc

-- ---- the limits

pub few_without : (s : System) (name : Name) (v : ℕ) (d : QuorumSet) → IsSystem s.names s.sets → IsOwnSet s name v d → entries_in (set s.sets v None) ≤ MOST_ENTRIES
few_without s name v d system is =
    let fewer : entries_if_any None ≤ entries_if_any (slice_index_or s.sets v None) = omega arith in
    omega (arith, no_more s.sets v None is.low fewer, system.entries)

pub few_changed : (s : System) (name : Name) (v : ℕ) (d : QuorumSet) (path : List ℕ) (c : Change) → IsSystem s.names s.sets → IsOwnSet s name v d → growth c ≡ 0 → entries_in (set s.sets v (Some (changed_at path c d))) ≤ MOST_ENTRIES
few_changed s name v d path c system is same =
    let there : entries_if_any (slice_index_or s.sets v None) ≡ entries_if_any (Some d) = ap entries_if_any is.is in
    let fewer : entries_if_any (Some (changed_at path c d)) ≤ entries_if_any (slice_index_or s.sets v None) = omega (arith, grown path c d, there, same) in
    omega (arith, no_more s.sets v (Some (changed_at path c d)) is.low fewer, system.entries)

-- a quorum set without entries is within all limits
pub within_bare : (n : ℕ) → IsWithin n (quorum_set 1 none)
within_bare n = record { below = tt; shallow = omega arith }

pub few_bare : (s : System) (v : ℕ) → IsSystem s.names s.sets → v < length s.sets → entries_in (set s.sets v (Some (quorum_set 1 none))) ≤ MOST_ENTRIES
few_bare s v system low = omega (arith, no_more s.sets v (Some (quorum_set 1 none)) low (omega arith), system.entries)

-- ---- a name is appended

-- no node has more entries than there are
pub own_few : (s : System) (v : ℕ) (d : QuorumSet) → v < length s.sets → slice_index_or s.sets v None ≡ Some d → all_entries d ≤ entries_in s.sets
own_few s v d low at = let there : entries_if_any (slice_index_or s.sets v None) ≡ all_entries d = ap entries_if_any at in omega (arith, entries_set s.sets v None low, there)

-- how many there are with another quorum set
pub entries_then : (s : System) (v : ℕ) (d c : QuorumSet) → v < length s.sets → slice_index_or s.sets v None ≡ Some d → entries_in (set s.sets v (Some c)) ≡ entries_in s.sets - all_entries d + all_entries c
entries_then s v d c low at = let there : entries_if_any (slice_index_or s.sets v None) ≡ all_entries d = ap entries_if_any at in omega (arith, entries_set s.sets v (Some c) low, there, own_few s v d low at)

pub append_no : (s : System) (node : Name) (path : List ℕ) (name : Name) (e : EditFault) → owned s node ≡ Err e → appended s node path name ≡ Err e
append_no s node path name e h = first_fault (node_in s node) (own_in s) (λ v d. node_in s name >>= (λ w. within_entries (with_set s v (Some (changed_at path (change.Add w) d))))) e h

pub some_from_ok_or : (o : Option ℕ) (e : EditFault) (w : ℕ) → ok_or o e ≡ Ok w → o ≡ Some w
some_from_ok_or None e w h = absurd cc
some_from_ok_or (Some v) e w h = let same : v ≡ w = cc in ap Some same

-- the fault of a name that is none of the system's
pub append_lost : (s : System) (node : Name) (path : List ℕ) (name : Name) (v : ℕ) (d : QuorumSet) → IsOwnSet s node v d → place_of s.names name ≡ None → appended s node path name ≡ Err UnknownNode
append_lost s node path name v d is lost = rw (is.node, is.set) (rw lost refl)

module _ (s : System) (node : Name) (path : List ℕ) (name : Name) (v w : ℕ) (d c : QuorumSet) (is : IsOwnSet s node v d) (at : place_of s.names name ≡ Some w) (changed : c ≡ changed_at path (change.Add w) d) where
  appended_is : appended s node path name ≡ within_entries (with_set s v (Some c))
  appended_is = rw (is.node, is.set) (rw at (ap (λ (x : QuorumSet). within_entries (with_set s v (Some x))) (sym changed)))

  pub append_many : (n : ℕ) → n ≡ entries_in (set s.sets v (Some c)) → MOST_ENTRIES < n → appended s node path name ≡ Err (TooManyEntries n)
  append_many n counted many = appended_is ∙ rw (lt-ltb MOST_ENTRIES (entries_in (set s.sets v (Some c))) (subst (λ (m : ℕ). MOST_ENTRIES < m) counted many)) (ap (λ (m : ℕ). Err (TooManyEntries m)) (sym counted))

  pub append_yes : (n : ℕ) → n ≡ entries_in (set s.sets v (Some c)) → n ≤ MOST_ENTRIES → (w < length s.sets) → IsAppended s node path name v c
  append_yes n counted few low = record {
    is = appended_is ∙ rw (not_above MOST_ENTRIES (entries_in (set s.sets v (Some c))) (omega (arith, counted, few))) refl;
    low = is.low;
    within = rw changed (within_changed (length s.names) path (change.Add w) d (let same = is.limits.places in omega (arith, low, same)) is.within);
    few = omega (arith, counted, few);
  }

-- the fault of a step is that of the edit
pub fault_by : {A B : Type 0} (e : EditFault) (x : Result A EditFault) (y : Result B EditFault) → (x ≡ Err e → y ≡ Err e) → (e ≡ Memory) ⊎ (x ≡ Err e) → (e ≡ Memory) ⊎ (y ≡ Err e)
fault_by e x y by (inl memory) = inl memory
fault_by e x y by (inr fault) = inr (by fault)
