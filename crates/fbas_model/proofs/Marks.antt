-- The marks of the chosen names, one name after another.
use Rattle.std.proofs.Common.{◌≡◌, ℕ, ◌<◌, ◌==◌, ◌||◌, Bool, false, List, [], ◌∷◌, ◌++◌, length, slice_get, slice_index_or, Some, Contains, inl, inr, sym, ap, subst, ◌∙◌, arith, ext_get_or}
use Rattle.std.proofs.Math.Bool.{or-false}
use Rattle.std.proofs.lemmas.Bool.{cases_Bool, eqb-true, eq-eqb, both_ways, false_from_ne_true}
use Rattle.std.proofs.lemmas.List.{get_or-map, get_or_default, length-map}
use Rattle.std.proofs.lemmas.List.Folds.{list_any-append}
use Rattle.std.proofs.lemmas.Option.{slice_get-get_or, get_or_from_slice_get}
use Rattle.std.proofs.lemmas.Slice.Eq.{bytes_eq-Decides}
use Rattle.std.specs.Str.{bytes_eq}
use Rattle.fbas_model.specs.Names.{Name, is_among, marks}
use Rattle.fbas_model.specs.Nodes.{Nodes, Table, members, ∅, only, ◌∪◌}

pub length-marks : (names chosen : List Name) → length (marks names chosen) ≡ length names
length-marks names chosen = length-map names (λ (n : Name). is_among n chosen)

members-marks : (names chosen : List Name) (v : ℕ) → v < length names → members (marks names chosen) v ≡ is_among (slice_index_or names v []) chosen
members-marks names chosen v h = get_or-map (λ (n : Name). is_among n chosen) names v [] false h

is_among-more : (name : Name) (chosen : List Name) (more : Name) → is_among name (chosen ++ more ∷ []) ≡ (is_among name chosen || bytes_eq name more)
is_among-more name chosen more = list_any-append (bytes_eq name) chosen (more ∷ []) ∙ ap (λ (b : Bool). is_among name chosen || b) (or-false (bytes_eq name more))

-- no name is chosen
pub marks-none : (names : List Name) (t : Table) → length t ≡ length names → members t ≡ ∅ → t ≡ marks names []
marks-none names t size empty = ext_get_or false t (marks names []) (size ∙ sym (length-marks names [])) (λ k less. ap (λ (s : Nodes). s k) empty ∙ sym (members-marks names [] k (omega (arith, size))))

-- one more name is chosen, where each name is marked that was or is that one
marks-more : (names : List Name) (old new : Table) (chosen : List Name) (more : Name) → length new ≡ length names → ((w : ℕ) → w < length names → members new w ≡ (members old w || bytes_eq (slice_index_or names w []) more)) → old ≡ marks names chosen
    → new ≡ marks names (chosen ++ more ∷ [])
marks-more names old new chosen more size each was =
    ext_get_or false new (marks names (chosen ++ more ∷ [])) (size ∙ sym (length-marks names (chosen ++ more ∷ []))) (λ k less.
    let within : k < length names = omega (arith, size) in
    let n = slice_index_or names k [] in
    each k within ∙ ap (λ (b : Bool). b || bytes_eq n more) (ap (λ (t : Table). members t k) was ∙ members-marks names chosen k within) ∙ sym (is_among-more n chosen more) ∙ sym (members-marks names (chosen ++ more ∷ []) k within))

-- the name at another place is another one
same_place : (names : List Name) (name : Name) (v w : ℕ) → w < length names → slice_get names v ≡ Some name → ((other : ℕ) → slice_get names other ≡ Some name → other ≡ v) → bytes_eq (slice_index_or names w []) name ≡ (w == v)
same_place names name v w h at only_there = elim (cases_Bool (w == v)) [
  | inl e ↦
      let same : w ≡ v = eqb-true w v e in
      let here : slice_index_or names w [] ≡ name = subst (λ (x : ℕ). slice_index_or names x [] ≡ name) (sym same) (get_or_from_slice_get names v name [] at) in
      (bytes_eq-Decides (slice_index_or names w []) name).1 here ∙ sym e
  | inr e ↦ false_from_ne_true (bytes_eq (slice_index_or names w []) name) (λ k.
      let here : slice_index_or names w [] ≡ name = (bytes_eq-Decides (slice_index_or names w []) name).0 k in
      absurd (both_ways (w == v) e (eq-eqb w v (only_there w (slice_get-get_or names w [] h ∙ ap Some here))))) ∙ sym e
]

-- one more name, the node of which is put into the set
pub marks-found : (names : List Name) (old new : Table) (chosen : List Name) (name : Name) (v : ℕ) → slice_get names v ≡ Some name → ((other : ℕ) → slice_get names other ≡ Some name → other ≡ v)
    → length new ≡ length names → members new ≡ members old ∪ only v → old ≡ marks names chosen → new ≡ marks names (chosen ++ name ∷ [])
marks-found names old new chosen name v at only_there size added was =
    marks-more names old new chosen name size (λ w h. ap (λ (s : Nodes). s w) added ∙ ap (λ (b : Bool). members old w || b) (sym (same_place names name v w h at only_there))) was

-- one that no node has is passed over
pub marks-missing : (names : List Name) (old : Table) (chosen : List Name) (name : Name) → (Contains names name → ⊥) → length old ≡ length names → old ≡ marks names chosen → old ≡ marks names (chosen ++ name ∷ [])
marks-missing names old chosen name missing size was =
    marks-more names old old chosen name size (λ w h. sym (ap (λ (b : Bool). members old w || b) (other w h) ∙ or-false (members old w))) was
  where
    other : (w : ℕ) → w < length names → bytes_eq (slice_index_or names w []) name ≡ false
    other w h = false_from_ne_true (bytes_eq (slice_index_or names w []) name) (λ e. absurd (missing (w, h, get_or_default names w name [] h ∙ (bytes_eq-Decides (slice_index_or names w []) name).0 e)))
