-- An edit changes what its relation says, and leaves the rest as it was.
use Rattle.std.proofs.Common.{◌≡◌, ◌⊎◌, ℕ, zero, suc, ◌+◌, ◌<◌, ◌≤◌, ◌==◌, ◌||◌, Bool, true, false, List, [], ◌∷◌, ◌++◌, map, length, Option, Some, None, Ok, Err, refl, sym, ap, ◌∙◌, subst, arith, inl, inr, slice_index_or}
use Rattle.std.specs.Prelude.{set, slice_get, is_some, ok_or, nat_lt, option_and_then, if◌then◌else◌}
use Rattle.std.specs.List.{insert, list_any}
use Rattle.std.specs.Option.{option_map}
use Rattle.std.specs.Str.{bytes_eq}
use Rattle.std.proofs.lemmas.Bool.{cases_Bool, eqb-true}
use Rattle.std.proofs.lemmas.List.{length-map, get_or-set_same}
use Rattle.std.proofs.lemmas.List.Edits.{length-insert}
use Rattle.std.proofs.lemmas.List.Quantifiers.{position-Some}
use Rattle.fbas_model.specs.declared.TheConstants.{MOST_NODES, MOST_ENTRIES}
use Rattle.fbas_model.specs.Names.{Name, place_of}
use Rattle.fbas_model.specs.Trees.{QuorumSet, quorum_set, Entries, none, node, inner}
use Rattle.fbas_model.specs.Fbas.{Fbas}
use Rattle.fbas_model.specs.Systems.{System, IsSystem, entries_in}
use Rattle.fbas_core.specs.Replacing.{with_set}
use Rattle.whatif_session.specs.Changes.{inner_at, with_inner, at_path, changed_here, changed_at, set_at, with_validator, without_validator, is_validator, has_validator}
use Rattle.whatif_session.specs.Edits.{Edit, Threshold, Add, Drop, Declare, Retire}
use Rattle.whatif_session.specs.Names.{with_name, with_node, place_for, moved_up}
use Rattle.whatif_session.specs.Edited.{◌>>=◌, node_in, own_in, inner_in, validator_in, appended, declared, has_set, edited}
use Rattle.whatif_session.specs.Touched.{validators_among, HasThreshold, HasAlso, HasLost, IfBoth, ChangedAt, LeadsTo, MayBe, node_of, HasOneMore, IsBase, ChangesOwn, Touches}
use Rattle.whatif_session.specs.declared.change.Change.TheVariants as change
use Rattle.whatif_session.specs.declared.faults.EditFault.{EditFault}
use Rattle.whatif_session.specs.declared.faults.EditFault.TheVariants.{UnknownNode, NoSet, NotThere, Already, TooManyNodes, TooManyEntries}
use Rattle.whatif_session.proofs.Following.{changed_by}
use Rattle.whatif_session.proofs.NamePlaces.{others_stay, place-le}
use Rattle.whatif_session.proofs.NamesStay.{bound, of_ok}

-- ---- a set on the way to another

way_validators : (i : ℕ) (c : QuorumSet → QuorumSet) (es : Entries) → validators_among (with_inner i c es) ≡ validators_among es
way_validators i c none = refl
way_validators i c (node w rest) = ap (λ (ws : List ℕ). w ∷ ws) (way_validators i c rest)
way_validators zero c (inner q rest) = refl
way_validators (suc i) c (inner q rest) = way_validators i c rest

way_others : (i : ℕ) (c : QuorumSet → QuorumSet) (es : Entries) (j : ℕ) → (j ≡ i → ⊥) → inner_at j (with_inner i c es) ≡ inner_at j es
way_others i c none j other = refl
way_others i c (node w rest) j other = way_others i c rest j other
way_others zero c (inner q rest) zero other = absurd (other refl)
way_others zero c (inner q rest) (suc j) other = refl
way_others (suc i) c (inner q rest) zero other = refl
way_others (suc i) c (inner q rest) (suc j) other = way_others i c rest j (λ e. other (ap suc e))

way_there : (P : QuorumSet → QuorumSet → Type 0) (i : ℕ) (c : QuorumSet → QuorumSet) (es : Entries) → ((q : QuorumSet) → inner_at i es ≡ Some q → P q (c q)) → IfBoth P (inner_at i es) (inner_at i (with_inner i c es))
way_there P i c none h = tt
way_there P i c (node w rest) h = way_there P i c rest h
way_there P zero c (inner q rest) h = h q refl
way_there P (suc i) c (inner q rest) h = way_there P i c rest h

changed_along : (P : QuorumSet → QuorumSet → Type 0) (path : List ℕ) (c : QuorumSet → QuorumSet) (d : QuorumSet) → ((q : QuorumSet) → set_at path d ≡ Some q → P q (c q)) → ChangedAt path P d (at_path path c d)
changed_along P [] c d h = h d refl
changed_along P (i ∷ is) c (quorum_set k es) h = (
  record { threshold = refl; validators = way_validators i (at_path is c) es; others = way_others i (at_path is c) es },
  way_there (ChangedAt is P) i (at_path is c) es (λ q at. changed_along P is c q (λ r there. h r (ap (λ (o : Option QuorumSet). option_and_then (set_at is) o) at ∙ there))),
)

-- ---- the set itself

-- the validators after one more, and without the first of them that is w
abbrev Also : ℕ → List ℕ → List ℕ → Type 0
Also w ds es = (before : List ℕ) × (behind : List ℕ) × (ds ≡ before ++ behind) × (es ≡ before ++ w ∷ behind)

also_validators : (w : ℕ) (es : Entries) → Also w (validators_among es) (validators_among (with_validator w es))
also_validators w none = ([], [], refl, refl)
also_validators w (node v rest) = let more = also_validators w rest in (v ∷ more.0, more.1, ap (λ (ws : List ℕ). v ∷ ws) more.2, ap (λ (ws : List ℕ). v ∷ ws) more.3)
also_validators w (inner q rest) = ([], validators_among rest, refl, refl)

abbrev Lost : ℕ → List ℕ → List ℕ → Type 0
Lost w ds es = (before : List ℕ) × (behind : List ℕ) × (list_any (λ v. v == w) before ≡ false) × (ds ≡ before ++ w ∷ behind) × (es ≡ before ++ behind)

lost_validators : (w : ℕ) (es : Entries) → is_validator w es ≡ true → Lost w (validators_among es) (validators_among (without_validator w es))
lost_validators w none h = absurd cc
lost_validators w (node v rest) h = elim (cases_Bool (v == w)) [
  | inl e ↦ rw e ([], validators_among rest, refl, ap (λ (x : ℕ). x ∷ validators_among rest) (eqb-true v w e), refl)
  | inr e ↦
      let more = lost_validators w rest (sym (ap (λ (b : Bool). b || is_validator w rest) e) ∙ h) in
      rw e (v ∷ more.0, more.1, ap (λ (b : Bool). b || list_any (λ x. x == w) more.0) e ∙ more.2, ap (λ (ws : List ℕ). v ∷ ws) more.3, ap (λ (ws : List ℕ). v ∷ ws) more.4)
]
lost_validators w (inner q rest) h = lost_validators w rest h

also_inner : (w : ℕ) (es : Entries) (i : ℕ) → inner_at i (with_validator w es) ≡ inner_at i es
also_inner w none i = refl
also_inner w (node v rest) i = also_inner w rest i
also_inner w (inner q rest) i = refl

lost_inner : (w : ℕ) (es : Entries) (i : ℕ) → inner_at i (without_validator w es) ≡ inner_at i es
lost_inner w none i = refl
lost_inner w (node v rest) i = elim (v == w) as (λ b. inner_at i (if b then rest else node v (without_validator w rest)) ≡ inner_at i rest) [
  | true ↦ refl
  | false ↦ lost_inner w rest i
]
lost_inner w (inner q rest) zero = refl
lost_inner w (inner q rest) (suc i) = lost_inner w rest i

threshold_here : (k : ℕ) (q : QuorumSet) → HasThreshold k q (changed_here (change.Threshold k) q)
threshold_here k (quorum_set j es) = record { threshold = refl; validators = refl; inner = λ i. refl }

also_here : (w : ℕ) (q : QuorumSet) → HasAlso w q (changed_here (change.Add w) q)
also_here w (quorum_set j es) = let more = also_validators w es in record { before = more.0; behind = more.1; was = more.2; validators = more.3; threshold = refl; inner = also_inner w es }

lost_here : (w : ℕ) (q : QuorumSet) → has_validator w q ≡ true → HasLost w q (changed_here (change.Drop w) q)
lost_here w (quorum_set j es) h = let left = lost_validators w es h in record { before = left.0; behind = left.1; first = left.2; was = left.3; validators = left.4; threshold = refl; inner = lost_inner w es }

-- ---- what a chain that ends well has found

some_of : {A : Type 0} → (o : Option A) (e : EditFault) (a : A) → ok_or o e ≡ Ok a → o ≡ Some a
some_of None e a h = absurd cc
some_of (Some b) e a h = ap Some (of_ok b a h)

none_of : (o : Option ℕ) → is_some o ≡ false → o ≡ None
none_of None h = refl
none_of (Some v) h = absurd cc

led : (s : System) (name : Name) (path : List ℕ) (v : ℕ) (d q : QuorumSet) → node_in s name ≡ Ok v → own_in s v ≡ Ok d → inner_in path d ≡ Ok q → LeadsTo s name path q
led s name path v d q named has leads = record {
  place = v;
  own = d;
  named = some_of (place_of s.names name) UnknownNode v named;
  has = some_of (slice_index_or s.sets v None) NoSet d has;
  leads = some_of (set_at path d) NoSet q leads;
}

validator_there : (q : QuorumSet) (o : Option ℕ) (w : ℕ) → validator_in q o ≡ Ok w → (o ≡ Some w) × (has_validator w q ≡ true)
validator_there q None w h = absurd cc
validator_there q (Some v) w h = elim (cases_Bool (has_validator v q)) [
  | inl there ↦ let same : v ≡ w = of_ok v w (sym (ap (λ (b : Bool). if b then Ok v else Err NotThere) there) ∙ h) in (ap Some same, subst (λ (x : ℕ). has_validator x q ≡ true) same there)
  | inr missing ↦ absurd (let e = sym (ap (λ (b : Bool). if b then Ok v else Err NotThere) missing) ∙ h in cc)
]

open_by : (s : System) (o : Option ℕ) → has_set s o ≡ false → (o ≡ None) ⊎ ((v : ℕ) × (o ≡ Some v) × (slice_index_or s.sets v None ≡ None))
open_by s None h = inl refl
open_by s (Some v) h = inr (v, refl, none_of (slice_index_or s.sets v None) h)
  where
    none_of : (o : Option QuorumSet) → is_some o ≡ false → o ≡ None
    none_of None h = refl
    none_of (Some d) h = absurd cc

within_is : (x t : System) (many : Bool) (fault : EditFault) → (if many then Err fault else Ok x) ≡ Ok t → x ≡ t
within_is x t true fault h = absurd cc
within_is x t false fault h = of_ok x t h

-- ---- the nodes

place_low : (s : System) (name : Name) (v : ℕ) → length s.sets ≡ length s.names → place_of s.names name ≡ Some v → v < length s.sets
place_low s name v places h = let found = position-Some (λ n. bytes_eq n name) s.names v [] h in omega (arith, found.0, places)

put_there : {A : Type 0} → (xs : List A) (p : ℕ) (x : A) → p ≤ length xs → slice_get (insert xs p x) p ≡ Some x
put_there [] zero x low = refl
put_there (y ∷ ys) zero x low = refl
put_there [] (suc p) x low = absurd (omega (arith, low))
put_there (y ∷ ys) (suc p) x low = put_there ys p x (omega (arith, low))

one_more : (s : System) (name : Name) → IsSystem s.names s.sets → place_of s.names name ≡ None → HasOneMore s (with_name s name) name
one_more s name is new =
    let p = place_for name s.names in
    let moved : Fbas = map (option_map (moved_up p)) s.sets in
    let few : p ≤ length s.names = place-le name s.names in
    let long : length moved ≡ length s.names = length-map s.sets (option_map (moved_up p)) ∙ is.places in
    record {
      new = new;
      place = p;
      named = put_there s.names p name few;
      unset = put_there moved p None (omega (arith, few, long));
      rest = others_stay s name is;
    }

-- a name that is there, or one more; each has a place for its quorum set
abbrev Grown : System → Name → System → Type 0
Grown s name base = ((base ≡ s) ⊎ HasOneMore s base name) × (length base.sets ≡ length base.names)

more_places : (s : System) (name : Name) → IsSystem s.names s.sets → length (with_name s name).sets ≡ length (with_name s name).names
more_places s name is =
    let p = place_for name s.names in
    let moved : Fbas = map (option_map (moved_up p)) s.sets in
    let few : p ≤ length s.names = place-le name s.names in
    let long : length moved ≡ length s.names = length-map s.sets (option_map (moved_up p)) ∙ is.places in
    let sets = length-insert moved p None (omega (arith, few, long)) in
    let names = length-insert s.names p name few in
    omega (arith, sets, names, long)

grown_by : (s base : System) (name : Name) (known many : Bool) → IsSystem s.names s.sets → is_some (place_of s.names name) ≡ known → (if known then Ok s else if many then Err (TooManyNodes (length s.names + 1)) else Ok (with_name s name)) ≡ Ok base → Grown s name base
grown_by s base name true many is known h = subst (Grown s name) (of_ok s base h) (inl refl, is.places)
grown_by s base name false true is known h = absurd cc
grown_by s base name false false is known h = subst (Grown s name) (of_ok (with_name s name) base h) (inr (one_more s name is (none_of (place_of s.names name) known)), more_places s name is)

grown : (s base : System) (name : Name) → IsSystem s.names s.sets → with_node s name ≡ Ok base → Grown s name base
grown s base name is h = grown_by s base name (is_some (place_of s.names name)) (nat_lt MOST_NODES (length s.names + 1)) is refl h

-- ---- an edit

touches_by : (s base t : System) (edit : Edit) (v : ℕ) (o : Option QuorumSet) → MayBe s edit → IsBase s edit base → place_of base.names (node_of edit) ≡ Some v → with_set base v o ≡ t → length base.sets ≡ length base.names
    → ChangesOwn edit base.names (slice_index_or base.sets v None) o → Touches s edit t
touches_by s base t edit v o may is_base named is places own = subst (λ (x : System). Touches s edit x) is (record {
  may = may;
  base = base;
  is_base = is_base;
  names = refl;
  place = v;
  named = named;
  others = changed_by base.sets v o;
  own = subst (λ (x : Option QuorumSet). ChangesOwn edit base.names (slice_index_or base.sets v None) x) (sym (get_or-set_same base.sets v o None (place_low base (node_of edit) v places named))) own;
})

touches_appended : (s base t : System) (who : Name) (path : List ℕ) (name : Name) → MayBe s (Add who path name) → Grown s name base → appended base who path name ≡ Ok t → Touches s (Add who path name) t
touches_appended s base t who path name may grown h =
    let v = bound (node_in base who) _ t h in
    let d = bound (own_in base v.0) _ t v.2 in
    let w = bound (node_in base name) _ t d.2 in
    let made : QuorumSet = changed_at path (change.Add w.0) d.0 in
    let after : System = with_set base v.0 (Some made) in
    touches_by s base t (Add who path name) v.0 (Some made) may grown.0 (some_of (place_of base.names who) UnknownNode v.0 v.1) (within_is after t (nat_lt MOST_ENTRIES (entries_in after.sets)) (TooManyEntries (entries_in after.sets)) w.2) grown.1
    (w.0, some_of (place_of base.names name) UnknownNode w.0 w.1, (d.0, made, some_of (slice_index_or base.sets v.0 None) NoSet d.0 d.1, refl, changed_along (HasAlso w.0) path (changed_here (change.Add w.0)) d.0 (λ q there. also_here w.0 q)))

touches_new : (s t : System) (who : Name) (already : Bool) → IsSystem s.names s.sets → has_set s (place_of s.names who) ≡ already → (if already then Err Already else (with_node s who >>= (λ u. declared u who))) ≡ Ok t → Touches s (Declare who) t
touches_new s t who true is set h = absurd cc
touches_new s t who false is unset h =
    let u = bound (with_node s who) (λ u. declared u who) t h in
    let v = bound (node_in u.0 who) _ t u.2 in
    let more = grown s u.0 who is u.1 in
    touches_by s u.0 t (Declare who) v.0 (Some (quorum_set 1 none)) (open_by s (place_of s.names who) unset) more.0 (some_of (place_of (u.0).names who) UnknownNode v.0 v.1) (of_ok (with_set u.0 v.0 (Some (quorum_set 1 none))) t v.2) more.1 refl

pub touches : (s t : System) (edit : Edit) → IsSystem s.names s.sets → edited s edit ≡ Ok t → Touches s edit t
unfolding edited led
touches s t (Threshold who path k) is h =
    let v = bound (node_in s who) _ t h in
    let d = bound (own_in s v.0) _ t v.2 in
    let q = bound (inner_in path d.0) _ t d.2 in
    let there = led s who path v.0 d.0 q.0 v.1 d.1 q.1 in
    let made : QuorumSet = changed_at path (change.Threshold k) d.0 in
    touches_by s s t (Threshold who path k) v.0 (Some made) (q.0, there) refl there.named (of_ok (with_set s v.0 (Some made)) t q.2) is.places
    (d.0, made, there.has, refl, changed_along (HasThreshold k) path (changed_here (change.Threshold k)) d.0 (λ r _. threshold_here k r))
touches s t (Add who path name) is h =
    let v = bound (node_in s who) _ t h in
    let d = bound (own_in s v.0) _ t v.2 in
    let q = bound (inner_in path d.0) _ t d.2 in
    let u = bound (with_node s name) _ t q.2 in
    touches_appended s u.0 t who path name (q.0, led s who path v.0 d.0 q.0 v.1 d.1 q.1) (grown s u.0 name is u.1) u.2
touches s t (Drop who path name) is h =
    let v = bound (node_in s who) _ t h in
    let d = bound (own_in s v.0) _ t v.2 in
    let q = bound (inner_in path d.0) _ t d.2 in
    let w = bound (validator_in q.0 (place_of s.names name)) _ t q.2 in
    let there = led s who path v.0 d.0 q.0 v.1 d.1 q.1 in
    let gone = validator_there q.0 (place_of s.names name) w.0 w.1 in
    let made : QuorumSet = changed_at path (change.Drop w.0) d.0 in
    touches_by s s t (Drop who path name) v.0 (Some made) (q.0, there, (w.0, gone.0, gone.1)) refl there.named (of_ok (with_set s v.0 (Some made)) t w.2) is.places
    (w.0, gone.0, (d.0, made, there.has, refl, changed_along (HasLost w.0) path (changed_here (change.Drop w.0)) d.0 (λ r at. lost_here w.0 r (subst (λ (x : QuorumSet). has_validator w.0 x ≡ true) (same_some q.0 r (sym (some_of (set_at path d.0) NoSet q.0 q.1) ∙ at)) gone.1))))
  where
    same_some : (a b : QuorumSet) → ◌≡◌ {A = Option QuorumSet} (Some a) (Some b) → a ≡ b
    same_some a b h = cc
touches s t (Declare who) is h = touches_new s t who (has_set s (place_of s.names who)) is refl h
touches s t (Retire who) is h =
    let v = bound (node_in s who) _ t h in
    let d = bound (own_in s v.0) _ t v.2 in
    let there = led s who [] v.0 d.0 d.0 v.1 d.1 refl in
    touches_by s s t (Retire who) v.0 None (d.0, there) refl there.named (of_ok (with_set s v.0 None) t d.2) is.places refl
