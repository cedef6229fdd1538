-- How a quorum set's reading goes on, step by step.
use Rattle.std.proofs.Common.{◌≡◌, ℕ, zero, suc, ◌+◌, ◌-◌, ◌<◌, ◌≤◌, length, drop, get_or, arith, rules, Vec, Global, List, [], ◌∷◌, ◌++◌, refl, sym, ap, ◌∙◌, true, false, Some, None, Result, Ok, Err}
use Rattle.std.proofs.Math.ListN.{drop_of_length-le}
use Rattle.std.proofs.lemmas.List.{at_drop_more}
use Rattle.serde_json.specs.Data.{Data, Items, item}
use Rattle.node_json.specs.Tree.{Tree, view, items_view}
use denote.Ref.{Bor}
use Rattle.fbas_model.specs.Names.{Name}
use Rattle.node_json.specs.Named as spec
use Rattle.node_json.specs.Reading.{after, set_by, set_of, sets_by, is_object, threshold_of, validators_of, inner_by}
use Rattle.node_json.specs.View.{names_view, set_view, sets_view}
use Rattle.node_json.specs.declared.faults.ConfigFault.{ConfigFault}
use Rattle.node_json.specs.declared.faults.ConfigFault.TheVariants.{BadQuorumSet}
use Rattle.node_json.specs.declared.faults.SetFault.TheVariants.{Shape, Threshold, Validators}
use Rattle.node_json.specs.declared.quorum_sets.NamedSet.{NamedSet, the_lemmas}
use Rattle.node_json.specs.declared.quorum_sets.NamedSet.TheViews.{roll-NamedSet}

-- the set that is made of what was read
pub set_view-made : (n : ℕ) (validators : Vec (Bor (List ℕ)) Global) (inner : Vec NamedSet Global)
    → set_view (roll-NamedSet (record { threshold = n; validators = validators; inner = inner })) ≡ spec.named_set n (names_view validators.items) (sets_view inner.items)
set_view-made n validators inner = search (rules, the_lemmas)

-- the sets, with those read before them in front
abbrev pub sets_before : List NamedSet → spec.NamedSets → spec.NamedSets
sets_before [] more = more
sets_before (s ∷ ss) more = spec.one_set (set_view s) (sets_before ss more)

pub sets_before-none : (ss : List NamedSet) → sets_before ss spec.no_sets ≡ sets_view ss
sets_before-none [] = refl
sets_before-none (s ∷ ss) = ap (spec.one_set (set_view s)) (sets_before-none ss)

pub sets_before-one : (ss : List NamedSet) (s : NamedSet) (more : spec.NamedSets) → sets_before (ss ++ s ∷ []) more ≡ sets_before ss (spec.one_set (set_view s) more)
sets_before-one [] s more = refl
sets_before-one (x ∷ ss) s more = ap (spec.one_set (set_view x)) (sets_before-one ss s more)

pub set_of-step : (i levels : ℕ) (d : Data) → 0 < levels → set_of i levels d ≡ set_by (set_of i (levels - 1)) i d
unfolding set_of
set_of-step i zero d h = absurd (omega arith)
set_of-step i (suc levels) d h = let e : suc levels - 1 ≡ levels = omega arith in rw e refl

pub set_of-shape : (i levels : ℕ) (d : Data) → 0 < levels → is_object d ≡ false → set_of i levels d ≡ Err (BadQuorumSet i Shape)
set_of-shape i levels d h o = rw (set_of-step i levels d h, o) refl

pub set_of-threshold : (i levels : ℕ) (d : Data) → 0 < levels → is_object d ≡ true → threshold_of d ≡ None → set_of i levels d ≡ Err (BadQuorumSet i Threshold)
set_of-threshold i levels d h o t = rw (set_of-step i levels d h, o, t) refl

pub set_of-validators : (i levels : ℕ) (d : Data) (n : ℕ) → 0 < levels → is_object d ≡ true → threshold_of d ≡ Some n → validators_of d ≡ None → set_of i levels d ≡ Err (BadQuorumSet i Validators)
set_of-validators i levels d n h o t v = rw (set_of-step i levels d h, o, t, v) refl

pub set_of-inner : (i levels : ℕ) (d : Data) (n : ℕ) (ks : List Name) (r : Result spec.NamedSets ConfigFault) → 0 < levels → is_object d ≡ true → threshold_of d ≡ Some n → validators_of d ≡ Some ks
    → inner_by (set_of i (levels - 1)) i d ≡ r → set_of i levels d ≡ after (spec.named_set n ks) r
set_of-inner i levels d n ks r h o t v e = rw (set_of-step i levels d h, o, t, v, e) refl

-- one more set that was read
pub sets_by-one : (one : Data → Result spec.NamedSet ConfigFault) (done : List NamedSet) (s : NamedSet) (d : Data) (ds : Items) → one d ≡ Ok (set_view s)
    → after (sets_before done) (sets_by one (item d ds)) ≡ after (sets_before (done ++ s ∷ [])) (sets_by one ds)
sets_by-one one done s d ds e = rw e (after_one (sets_by one ds))
  where
    after_one : (r : Result spec.NamedSets ConfigFault) → after (sets_before done) (after (spec.one_set (set_view s)) r) ≡ after (sets_before (done ++ s ∷ [])) r
    after_one (Ok more) = ap Ok (sym (sets_before-one done s more))
    after_one (Err e) = refl

-- a step of the loop over the sets, and its end
pub sets_loop : (one : Data → Result spec.NamedSet ConfigFault) (all : Result spec.NamedSets ConfigFault) (done more : List NamedSet) (s : NamedSet) (xs : List Tree) (i : ℕ) (v : Tree) → i < length xs → v ≡ get_or xs i v
    → one (view v) ≡ Ok (set_view s) → more ≡ done ++ s ∷ [] → all ≡ after (sets_before done) (sets_by one (items_view (drop i xs))) → all ≡ after (sets_before more) (sets_by one (items_view (drop (i + 1) xs)))
sets_loop one all done more s xs i v h is e m inv =
    let rest = items_view (drop (i + 1) xs) in
    inv ∙ at_drop_more (λ vs. after (sets_before done) (sets_by one (items_view vs))) xs i v h ∙ ap (λ w. after (sets_before done) (sets_by one (item (view w) rest))) (sym is)
    ∙ sets_by-one one done s (view v) rest e ∙ ap (λ ss. after (sets_before ss) (sets_by one rest)) (sym m)

-- an item that has a fault is the first
pub sets_fault : (one : Data → Result spec.NamedSet ConfigFault) (all : Result spec.NamedSets ConfigFault) (done : List NamedSet) (xs : List Tree) (i : ℕ) (v : Tree) (e : ConfigFault) → i < length xs → v ≡ get_or xs i v
    → one (view v) ≡ Err e → all ≡ after (sets_before done) (sets_by one (items_view (drop i xs))) → all ≡ Err e
sets_fault one all done xs i v e h is fault inv =
    inv ∙ at_drop_more (λ vs. after (sets_before done) (sets_by one (items_view vs))) xs i v h
    ∙ ap (λ w. after (sets_before done) (sets_by one (item (view w) (items_view (drop (i + 1) xs))))) (sym is) ∙ rw fault refl

pub sets_end : (one : Data → Result spec.NamedSet ConfigFault) (all : Result spec.NamedSets ConfigFault) (done : List NamedSet) (xs : List Tree) (i : ℕ) → length xs ≤ i
    → all ≡ after (sets_before done) (sets_by one (items_view (drop i xs))) → all ≡ Ok (sets_view done)
sets_end one all done xs i h inv = inv ∙ ap (λ vs. after (sets_before done) (sets_by one (items_view vs))) (drop_of_length-le xs h) ∙ ap Ok (sets_before-none done)
