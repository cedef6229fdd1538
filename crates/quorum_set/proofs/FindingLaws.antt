-- The findings of a quorum set, one after another.
use Rattle.std.proofs.Common.{◌≡◌, ℕ, ◌+◌, ◌-◌, ◌<◌, ◌==◌, Bool, true, false, List, [], ◌∷◌, ◌++◌, length, map, take, drop, refl, sym, ◌∙◌, ap, subst, inl, inr, arith, slice_index_or, append_assoc, if◌then◌else◌}
use Rattle.std.proofs.lemmas.List.{append-nil, drop_more, take_more, take_at, take-append-drop, length_push}
use Rattle.std.proofs.lemmas.List.Sums.{count_by_more_yes, count_by_more_no}
use Rattle.std.proofs.lemmas.Bool.{cases_Bool, eq-eqb, ne_eqb}
use Rattle.fbas_model.specs.Trees.{QuorumSet, quorum_set}
use Rattle.fbas_model.specs.Lists.{inner_entries, entries_of}
use Rattle.fbas_model.proofs.Lists.{count-lists}
use Rattle.quorum_set.specs.Findings.{Found, repeated, threshold_found, validators_of, times, second_times, findings_at, findings_inside, HoldsFirst}

-- the list is what it was, followed by the findings but for these last ones
pub record Holds (old findings new rest : List Found) : Type 0 where
  pub done : List Found
  pub held : new ≡ old ++ done
  pub all : done ++ rest ≡ findings

module _ (old findings : List Found) where
  pub holds_none : Holds old findings old findings
  holds_none = record { done = []; held = sym (append-nil old); all = refl }

  -- the next ones are added
  pub holds_more : (now next xs rest : List Found) → Holds old findings now (xs ++ rest) → next ≡ now ++ xs → Holds old findings next rest
  holds_more now next xs rest h e = record {
    done = h.done ++ xs;
    held = e ∙ ap (λ (l : List Found). l ++ xs) h.held ∙ append_assoc old h.done xs;
    all = append_assoc h.done xs rest ∙ h.all;
  }

  pub holds_first : (now rest : List Found) → Holds old findings now rest → HoldsFirst old findings now
  holds_first now rest h = record {
    many = length h.done;
    first = h.held ∙ ap (λ (l : List Found). old ++ l) (sym (take_at h.done rest (length h.done) refl) ∙ ap (take (length h.done)) h.all);
  }

  -- some of the next ones are added
  pub holds_part : (now next xs rest : List Found) → Holds old findings now (xs ++ rest) → HoldsFirst now xs next → HoldsFirst old findings next
  holds_part now next xs rest h p =
      let begun : Holds old findings now (take p.many xs ++ (drop p.many xs ++ rest)) = record {
        done = h.done;
        held = h.held;
        all = ap (λ (l : List Found). h.done ++ l) (sym (append_assoc (take p.many xs) (drop p.many xs) rest) ∙ ap (λ (l : List Found). l ++ rest) (take-append-drop p.many xs)) ∙ h.all;
      } in
      holds_first next (drop p.many xs ++ rest) (holds_more now next (take p.many xs) (drop p.many xs ++ rest) begun p.first)

-- ---- the lists of a quorum set

validators-inner : (qs : List QuorumSet) → validators_of (inner_entries qs) ≡ []
validators-inner [] = refl
validators-inner (q ∷ qs) = validators-inner qs

pub validators-lists : (ws : List ℕ) (qs : List QuorumSet) → validators_of (entries_of ws qs) ≡ ws
validators-lists [] qs = validators-inner qs
validators-lists (w ∷ ws) qs = ap (λ (l : List ℕ). w ∷ l) (validators-lists ws qs)

inside-lists : (path : List ℕ) (i : ℕ) (ws : List ℕ) (qs : List QuorumSet) → findings_inside path i (entries_of ws qs) ≡ findings_inside path i (inner_entries qs)
inside-lists path i [] qs = refl
inside-lists path i (w ∷ ws) qs = inside-lists path i ws qs

-- what is found in a set, list by list
pub findings-lists : (path : List ℕ) (k : ℕ) (ws : List ℕ) (qs : List QuorumSet) → findings_at path (quorum_set k (entries_of ws qs)) ≡ threshold_found path k (length ws + length qs) ++ (map (repeated path) (second_times [] ws) ++ findings_inside path 0 (inner_entries qs))
findings-lists path k ws qs = rw (count-lists ws qs, validators-lists ws qs, inside-lists path 0 ws qs) refl

-- what is found in the next inner set
pub inside_more : (path : List ℕ) (qs : List QuorumSet) (i : ℕ) (q : QuorumSet) → i < length qs → q ≡ slice_index_or qs i q → findings_inside path i (inner_entries (drop i qs)) ≡ findings_at (path ++ i ∷ []) q ++ findings_inside path (i + 1) (inner_entries (drop (i + 1) qs))
inside_more path qs i q h e = rw (drop_more qs i q h, ← e) refl

-- the threshold's finding is added, and then those of the repeated validators
module _ (old mid : List Found) (path : List ℕ) (k n : ℕ) (ws : List ℕ) (qs : List QuorumSet) (sum : n ≡ length ws + length qs) (first : mid ≡ old ++ threshold_found path k n) where
  holds_threshold : Holds old (findings_at path (quorum_set k (entries_of ws qs))) mid (map (repeated path) (second_times [] ws) ++ findings_inside path 0 (inner_entries qs))
  holds_threshold =
      let all = findings_at path (quorum_set k (entries_of ws qs)) in
      let rest = map (repeated path) (second_times [] ws) ++ findings_inside path 0 (inner_entries qs) in
      holds_more old all old mid (threshold_found path k n) rest (subst (λ (l : List Found). Holds old all old l) (findings-lists path k ws qs ∙ ap (λ (m : ℕ). threshold_found path k m ++ rest) (sym sum)) (holds_none old all)) first

  pub holds_lists : (next : List Found) → next ≡ mid ++ map (repeated path) (second_times [] ws) → Holds old (findings_at path (quorum_set k (entries_of ws qs))) next (findings_inside path 0 (inner_entries qs))
  holds_lists next e = holds_more old (findings_at path (quorum_set k (entries_of ws qs))) mid next (map (repeated path) (second_times [] ws)) (findings_inside path 0 (inner_entries qs)) holds_threshold e

  pub holds_lists_part : (next : List Found) → HoldsFirst mid (map (repeated path) (second_times [] ws)) next → HoldsFirst old (findings_at path (quorum_set k (entries_of ws qs))) next
  holds_lists_part next p = holds_part old (findings_at path (quorum_set k (entries_of ws qs))) mid next (map (repeated path) (second_times [] ws)) (findings_inside path 0 (inner_entries qs)) holds_threshold p

-- the next inner set
module _ (old all now next : List Found) (path : List ℕ) (qs : List QuorumSet) (i : ℕ) (q : QuorumSet) (h : i < length qs) (e : q ≡ slice_index_or qs i q) (holds : Holds old all now (findings_inside path i (inner_entries (drop i qs)))) where
  pub inner_added : next ≡ now ++ findings_at (path ++ i ∷ []) q → Holds old all next (findings_inside path (i + 1) (inner_entries (drop (i + 1) qs)))
  inner_added added =
      holds_more old all now next (findings_at (path ++ i ∷ []) q) (findings_inside path (i + 1) (inner_entries (drop (i + 1) qs))) (subst (λ (l : List Found). Holds old all now l) (inside_more path qs i q h e) holds) added

  pub inner_part : HoldsFirst now (findings_at (path ++ i ∷ []) q) next → HoldsFirst old all next
  inner_part p =
      holds_part old all now next (findings_at (path ++ i ∷ []) q) (findings_inside path (i + 1) (inner_entries (drop (i + 1) qs))) (subst (λ (l : List Found). Holds old all now l) (inside_more path qs i q h e) holds) p

-- a place is put after a path
pub pushed : (path was new : List ℕ) (i : ℕ) → was ≡ path → new ≡ was ++ i ∷ [] → new ≡ path ++ i ∷ []
pushed path was new i e put = put ∙ ap (λ (l : List ℕ). l ++ i ∷ []) e

-- the last place of a path is taken off
pub popped : (path was : List ℕ) (i n : ℕ) (new : List ℕ) → n ≡ length was → was ≡ path ++ i ∷ [] → new ≡ take (n - 1) was → new ≡ path
popped path was i n new size e taken = taken ∙ ap (take (n - 1)) e ∙ take_at path (i ∷ []) (n - 1) (omega (arith, size, ap length e, length_push path i))

-- ---- the repeated nodes of a list

-- a node is counted once more
pub times_more : (ws : List ℕ) (i q a b : ℕ) → i < length ws → a ≡ times q (take i ws) → b ≡ (if slice_index_or ws i 0 == q then a + 1 else a) → b ≡ times q (take (i + 1) ws)
times_more ws i q a b h was now = elim (cases_Bool (slice_index_or ws i 0 == q)) [
  | inl e ↦ rw e at now ∙ ap (λ (n : ℕ). n + 1) was ∙ sym (count_by_more_yes (λ w. w == q) ws i 0 h e)
  | inr e ↦ rw e at now ∙ was ∙ sym (count_by_more_no (λ w. w == q) ws i 0 h e)
]

module _ (old findings : List Found) (path ws : List ℕ) (i w : ℕ) (h : i < length ws) (e : w ≡ slice_index_or ws i w) where
  -- from place i on
  from_here : (b : Bool) → (times w (take i ws) == 1) ≡ b → second_times (take i ws) (drop i ws) ≡ (if b then w ∷ second_times (take (i + 1) ws) (drop (i + 1) ws) else second_times (take (i + 1) ws) (drop (i + 1) ws))
  from_here b t = rw (drop_more ws i w h, take_more ws i w h, ← e, t) refl

  -- a node that stands there for the second time
  pub told_more : (n : ℕ) (now next : List Found) → Holds old findings now (map (repeated path) (second_times (take i ws) (drop i ws))) → n ≡ times w (take i ws) + 1 → n ≡ 2 → next ≡ now ++ repeated path w ∷ [] → Holds old findings next (map (repeated path) (second_times (take (i + 1) ws) (drop (i + 1) ws)))
  told_more n now next holds counted two added =
      let once : (times w (take i ws) == 1) ≡ true = eq-eqb (times w (take i ws)) 1 (omega (arith, counted, two)) in
      holds_more old findings now next (repeated path w ∷ []) (map (repeated path) (second_times (take (i + 1) ws) (drop (i + 1) ws))) (subst (λ (l : List ℕ). Holds old findings now (map (repeated path) l)) (from_here true once) holds) added

  -- another node
  pub told_same : (n : ℕ) (now : List Found) → Holds old findings now (map (repeated path) (second_times (take i ws) (drop i ws))) → n ≡ times w (take i ws) + 1 → (n ≡ 2 → ⊥) → Holds old findings now (map (repeated path) (second_times (take (i + 1) ws) (drop (i + 1) ws)))
  told_same n now holds counted other =
      let often : (times w (take i ws) == 1) ≡ false = ne_eqb (times w (take i ws)) 1 (λ once. other (counted ∙ ap (λ (m : ℕ). m + 1) once)) in
      subst (λ (l : List ℕ). Holds old findings now (map (repeated path) l)) (from_here false often) holds
