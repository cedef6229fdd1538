-- Lists of numbers, taken one by one.
use Rattle.std.proofs.Common.{◌≡◌, ℕ, ◌+◌, ◌<◌, ◌≤◌, List, [], ◌∷◌, ◌++◌, Some, Result, Ok, Err, refl, sym, ap, ◌∙◌, append_assoc, length, get_or, take, map, ℤ, pos}
use Rattle.std.proofs.lemmas.List.{map_more, map-append, take_more, take_all}
use Rattle.lrat_text.specs.Words.{Word}
use Rattle.lrat_text.specs.Lines.{onto_list}
use Rattle.lrat_text.specs.declared.faults.LineFault.{LineFault}

-- these numbers, and then those of a list
abbrev pub behind : {A : Type 0} → List A → Result (List A × List Word) LineFault → Result (List A × List Word) LineFault
behind numbers (Ok list) = Ok (numbers ++ list.0, list.1)
behind numbers (Err fault) = Err fault

pub behind-nothing : {A : Type 0} (list : Result (List A × List Word) LineFault) → behind [] list ≡ list
behind-nothing (Ok list) = refl
behind-nothing (Err fault) = refl

pub behind-onto : {A : Type 0} (numbers : List A) (n : A) (list : Result (List A × List Word) LineFault) → behind numbers (onto_list (Some n) list) ≡ behind (numbers ++ n ∷ []) list
behind-onto numbers n (Ok list) = ap (λ (ns : _). Ok (ns, list.1)) (sym (append_assoc numbers (n ∷ []) list.0))
behind-onto numbers n (Err fault) = refl

-- an id more as a hint, and all of them
pub wide_more : (ids : List ℕ) (i d : ℕ) (old new : List ℤ) (hint : ℤ) → i < length ids → old ≡ map pos (take i ids) → hint ≡ pos (get_or ids i d) → new ≡ old ++ hint ∷ [] → new ≡ map pos (take (i + 1) ids)
wide_more ids i d old new hint within so_far is pushed =
    pushed ∙ ap (λ (hints : List ℤ). hints ++ hint ∷ []) so_far ∙ ap (λ (h : ℤ). map pos (take i ids) ++ h ∷ []) is ∙ sym (map_more pos ids i d within)

pub wide_all : (ids : List ℕ) (i : ℕ) (hints : List ℤ) → hints ≡ map pos (take i ids) → length ids ≤ i → hints ≡ map pos ids
wide_all ids i hints so_far end = so_far ∙ ap (map pos) (take_all i ids end)

-- a hint more as an id after the others
pub short_more : (hints : List ℤ) (i : ℕ) (d : ℤ) (first ids old new : List ℕ) (id : ℕ) → i < length hints → map pos ids ≡ take i hints → old ≡ first ++ ids → pos id ≡ get_or hints i d → new ≡ old ++ id ∷ []
    → (more : List ℕ) × (map pos more ≡ take (i + 1) hints) × (new ≡ first ++ more)
short_more hints i d first ids old new id within so_far behind is pushed = (
  ids ++ id ∷ [],
  map-append pos ids (id ∷ []) ∙ ap (λ (hs : List ℤ). hs ++ pos id ∷ []) so_far ∙ ap (λ (h : ℤ). take i hints ++ h ∷ []) is ∙ sym (take_more hints i d within),
  pushed ∙ ap (λ (xs : List ℕ). xs ++ id ∷ []) behind ∙ append_assoc first ids (id ∷ []),
)
