-- Unit propagation finds as much over the clauses of gates written out as over those of their counters.
use Rattle.std.proofs.Common.{◌≡◌, ◌≢◌, ℕ, ℤ, suc, true, ◌+◌, ◌≤◌, List, [], ◌∷◌, ◌++◌, length, map, ⊎_elim, inl, inr, refl, sym, ap, ◌∙◌, subst, arith}
use Rattle.std.specs.Prelude.{◌⊎◌}
use Rattle.std.proofs.lemmas.Bool.{cases_lt, false≢true}
use Rattle.std.proofs.lemmas.List.{map-append, length-append}
use Rattle.lrat_model.specs.Literal.{Literal, Plus, Minus, negated, has, IsConsistent}
use Rattle.lrat_model.specs.Clauses.{Held}
use Rattle.lrat_model.specs.Propagation.{Closes}
use Rattle.lrat_model.specs.Lemmas.{Settles, IsUseful, others}
use Rattle.lrat_model.proofs.Literals.{negated-negated, has-cons}
use Rattle.counter_expansion.specs.Finding.{Finds, Given, By, IsRefuted, IsNeedless}
use Rattle.counter_expansion.specs.Gates.{Gate, Gates, Rises, IsCell, IsPlace, IsHeadOf, AreWritten, IsInner, IsOuter, AreOuter, IsOfCounter, IsCounted, AreApart}
use Rattle.counter_expansion.proofs.Finding.{same_or_not, negated-one, has-others, has-append, has-from_negated, lacks-negated, refuted_finds, clash, resolved, conflict_refutes, refuted_conflicts, settled_is_found, found_is_settled}

rises_up : (low mid high : ℕ) (ps : List ℕ) → mid ≤ high → Rises low mid ps → Rises low high ps
rises_up low mid high [] less rises = omega (arith, less, rises)
rises_up low mid high (p ∷ ps) less rises = (rises.0, rises_up p mid high ps less rises.1)

rises_to : (low mid : ℕ) (ps : List ℕ) → Rises low mid ps → Rises low (suc mid) (ps ++ suc mid ∷ [])
rises_to low mid [] rises = (omega (arith, rises), omega arith)
rises_to low mid (p ∷ ps) rises = (rises.0, rises_to p mid ps rises.1)

module _ (gate : Gate) (P : Literal → Type 0) where
  -- P holds of each of these literals
  abbrev AreAll : List Literal → Type 0
  AreAll ls = (m : Literal) → has ls m ≡ true → P m

  -- P says which literals are false: this many inputs up to i that s i t is
  abbrev Low : ℕ → ℕ → Type 0
  Low i t = (ps : List ℕ) × Rises 0 i ps × (length ps + t ≡ suc i) × AreAll (map gate.x ps)

  -- past the columns of a row
  low_past : (i t : ℕ) → t ≡ suc i → Low i t
  low_past i t past = ([], omega arith, omega (arith, past), λ m h. absurd (false≢true h))

  -- x i+1 is false too
  low_by_input : (i t : ℕ) → P (gate.x (suc i)) → Low i t → Low (suc i) t
  low_by_input i t holds (ps, rises, count, each) =
      let last : AreAll (gate.x (suc i) ∷ []) = λ m h. ⊎_elim (λ is. subst P (sym is) holds) (λ there. absurd (false≢true there)) (has-cons (gate.x (suc i)) m [] h) in
      let both : AreAll (map gate.x ps ++ gate.x (suc i) ∷ []) = λ m h. ⊎_elim (λ there. each m there) (λ there. last m there) (has-append (map gate.x ps) (gate.x (suc i) ∷ []) m h) in
      (ps ++ suc i ∷ [], rises_to 0 i ps rises, omega (arith, length-append ps (suc i ∷ []), count), subst (λ ls. AreAll ls) (sym (map-append gate.x ps (suc i ∷ []))) both)

  low_by_next : (i t : ℕ) → Low i t → Low (suc i) (suc t)
  low_by_next i t (ps, rises, count, each) = (ps, rises_up 0 i (suc i) ps (omega arith) rises, omega (arith, count), each)

inner_negated : (gates : Gates) (l : Literal) → IsInner gates (negated l) → IsInner gates l
inner_negated gates l (g, i, j, place, inl is) = (g, i, j, place, inr (sym (negated-negated l) ∙ ap negated is))
inner_negated gates l (g, i, j, place, inr is) = (g, i, j, place, inl (negated-one l ((gates g).s i j) is))

outer_negated : (gates : Gates) (l : Literal) → IsOuter gates l → IsOuter gates (negated l)
outer_negated gates l outer = λ inner. outer (inner_negated gates l inner)

module _ (gates : Gates) (after : Held) (trues : List Literal) where
  -- the literal is found false, or is l
  abbrev IsFalseBut : Literal → Literal → Type 0
  IsFalseBut l m = l ≢ m → Finds after trues (negated m)

  -- s i j is false if l is
  abbrev IsLow : Literal → ℕ → ℕ → ℕ → Type 0
  IsLow l g i j = Low (gates g) (IsFalseBut l) i j

  -- m is false if l is, or l is found
  abbrev IsDown : Literal → Literal → Type 0
  IsDown l m =
      (IsOuter gates m → IsFalseBut l m)
      × ((g i j : ℕ) → IsPlace (gates g) i j → m ≡ (gates g).s i j → IsLow l g i j)
      × ((g i j : ℕ) → IsPlace (gates g) i j → m ≡ negated ((gates g).s i j) → IsLow l g i j → Finds after trues l)

  -- what becomes of a literal m that was found before: each l is found that, where false, makes m false
  abbrev pub IsKept : Literal → Type 0
  IsKept m = (l : Literal) → IsDown l m → Finds after trues l

  -- m is of a clause by which a literal was found: it is that literal, or its negation was found too
  abbrev IsTold : Literal → Literal → Type 0
  IsTold l m = IsDown l m ⊎ IsKept (negated m)

  outer_down : (l m : Literal) → IsOuter gates m → IsFalseBut l m → IsDown l m
  outer_down l m outer found = (λ _. found, λ g i j place is. absurd (outer (g, i, j, place, inl is)), λ g i j place is. absurd (outer (g, i, j, place, inr is)))

  -- an outer literal that is kept is found
  pub kept_is_found : (l : Literal) → IsOuter gates l → IsKept l → Finds after trues l
  kept_is_found l outer kept = kept l (outer_down l l outer (λ isnt. absurd (isnt refl)))

  outer_from : (l m : Literal) → IsOuter gates m → IsTold l m → IsFalseBut l m
  outer_from l m outer (inl down) = down.0 outer
  outer_from l m outer (inr kept) = λ _. kept_is_found (negated m) (outer_negated gates m outer) kept

  module _ (consistent : IsConsistent trues) (written : AreWritten gates after) (far : AreApart gates) where
    -- a literal is of one place alone, so that what was said of its place is said of this one
    at_place : (P : ℕ → ℕ → ℕ → Type 0) (g i j h a b : ℕ) → (g ≡ h) × (i ≡ a) × (j ≡ b) → P g i j → P h a b
    at_place P g i j h a b same here =
        let in_gate : P h i j = subst (λ o. P o i j) same.0 here in
        let in_row : P h a j = subst (λ o. P h o j) same.1 in_gate in
        subst (λ o. P h a o) same.2 in_row

    counter_down : (l : Literal) (g i j : ℕ) → IsPlace (gates g) i j → IsLow l g i j → IsDown l ((gates g).s i j)
    counter_down l g i j place low = (
      λ outer. absurd (outer (g, i, j, place, inl refl)),
      λ h a b there is. at_place (IsLow l) g i j h a b (far.same_place g h i j a b place there is) low,
      λ h a b there is. absurd (far.not_negated g h i j a b is),
    )

    negation_down : (l : Literal) (g i j : ℕ) → IsPlace (gates g) i j → (IsLow l g i j → Finds after trues l) → IsDown l (negated ((gates g).s i j))
    negation_down l g i j place want = (
      λ outer. absurd (outer (g, i, j, place, inr refl)),
      λ h a b there is. absurd (far.not_negated h g a b i j (sym is)),
      λ h a b there is. at_place (λ c d e. IsLow l c d e → Finds after trues l) g i j h a b (far.same_place g h i j a b place there (negated-one ((gates g).s i j) ((gates h).s a b) is)) want,
    )

    -- a row goes, or it is the last one and its literals are heads
    goes_or_head : (g i j : ℕ) → IsCell (gates g) (suc i) j → IsPlace (gates g) (suc i) j ⊎ ((suc i ≡ (gates g).n) × IsHeadOf (gates g) ((gates g).s (suc i) j) j)
    goes_or_head g i j cell =
        ⊎_elim
        (λ goes. inl (omega (arith, goes), cell))
        (λ stays.
        let last : suc i ≡ (gates g).n = omega (arith, cell.2, stays, far.one_row_stays g) in
        inr (last, inr (omega (arith, last, stays), (cell.0, omega (arith, cell.1, last), omega arith, cell.3), ap (λ o. (gates g).s o j) last)))
        (cases_lt i (gates g).rows)

    -- where s n t is false if l is, for a head of t inputs that is true, l is found
    enough : (l : Literal) (g : ℕ) (h : Literal) (t : ℕ) → IsHeadOf (gates g) h t → IsFalseBut l (negated h) → IsLow l g (gates g).n t → Finds after trues l
    enough l g h t head denied (ps, rises, count, each) =
        resolved after trues consistent l (negated h ∷ map (gates g).x ps)
        (λ m there. ⊎_elim (λ is. subst (λ o. IsFalseBut l o) (sym is) denied) (λ later. each m later) (has-cons (negated h) m (map (gates g).x ps) there))
        (written g h t ps head rises count)

    place_from : (l : Literal) (g i j : ℕ) → IsPlace (gates g) i j → IsTold l ((gates g).s i j) → (IsLow l g i j → Finds after trues l) → Finds after trues l
    place_from l g i j place (inl down) next = next (down.1 g i j place refl)
    place_from l g i j place (inr kept) next = kept l (negation_down l g i j place next)

    -- a row that another follows goes
    low_from : (l : Literal) (g i j : ℕ) → suc i ≤ (gates g).n → IsCell (gates g) i j → IsTold l ((gates g).s i j) → (IsLow l g i j → Finds after trues l) → Finds after trues l
    low_from l g i j less cell told next = place_from l g i j (omega (arith, less, far.one_row_stays g), cell) told next

    negation_from : (l : Literal) (g i j : ℕ) → IsPlace (gates g) i j → IsTold l (negated ((gates g).s i j)) → IsLow l g i j → Finds after trues l
    negation_from l g i j place (inl down) low = down.2 g i j place refl low
    negation_from l g i j place (inr kept) low = (let once : IsKept ((gates g).s i j) = subst (λ o. IsKept o) (negated-negated ((gates g).s i j)) kept in once l (counter_down l g i j place low))

    wanted_from : (l : Literal) (g i j : ℕ) → IsCell (gates g) (suc i) j → IsTold l (negated ((gates g).s (suc i) j)) → IsLow l g (suc i) j → Finds after trues l
    wanted_from l g i j cell told low =
        ⊎_elim
        (λ place. negation_from l g (suc i) j place told low)
        (λ stays.
        let h : Literal = (gates g).s (suc i) j in
        let last : IsLow l g (gates g).n j = subst (λ o. IsLow l g o j) stays.0 low in
        enough l g h j stays.1 (outer_from l (negated h) (outer_negated gates h (far.heads_outer g j h stays.1)) told) last)
        (goes_or_head g i j cell)

    -- a clause held before is not false, or l is found
    by_clause : (l : Literal) (clause : List Literal) → ((m : Literal) → has clause m ≡ true → IsTold l m) → (AreOuter gates clause × IsNeedless after clause) ⊎ IsOfCounter gates clause → Finds after trues l
    by_clause l clause told (inl (plain, needless)) = resolved after trues consistent l clause (λ m h. outer_from l m (plain m h) (told m h)) needless
    by_clause l clause told (inr (g, inl (i, j, cell, whole, left, input))) =
        let wanted : IsLow l g i j → Finds after trues l = λ low. wanted_from l g i j cell (told (negated ((gates g).s (suc i) j)) whole)
        (low_by_input (gates g) (IsFalseBut l) i j (outer_from l ((gates g).x (suc i)) (far.inputs_outer g i cell.2) (told ((gates g).x (suc i)) input)) low) in
        ⊎_elim
        (λ ends. wanted (low_past (gates g) (IsFalseBut l) i j ends))
        (λ there. low_from l g i j cell.2 (cell.0, there.0, omega (arith, cell.2), cell.3) (told ((gates g).s i j) there.1) wanted)
        left
    by_clause l clause told (inr (g, inr (inl (i, j, some, cell, whole, left)))) =
        low_from l g i j cell.2 (some, omega (arith, cell.1), omega (arith, cell.2), omega (arith, cell.3)) (told ((gates g).s i j) left)
        (λ low. wanted_from l g i (suc j) cell (told (negated ((gates g).s (suc i) (suc j))) whole) (low_by_next (gates g) (IsFalseBut l) i j low))
    by_clause l clause told (inr (g, inr (inr (h, place, among, denied, last)))) =
        let head : IsHeadOf (gates g) h (gates g).k = inl (among, refl) in
        place_from l g (gates g).n (gates g).k place (told ((gates g).s (gates g).n (gates g).k) last)
        (λ low. enough l g h (gates g).k head (outer_from l (negated h) (outer_negated gates h (far.heads_outer g (gates g).k h head)) (told (negated h) denied)) low)

    module _ (before : Held) (counted : IsCounted gates before after) (outer : AreOuter gates trues) where
      -- what was found before is kept
      pub found_is_kept : (m : Literal) → Finds before trues m → IsKept m
      found_is_kept m (Given _ h) = λ l down. ⊎_elim
          (λ is. subst (λ o. Finds after trues o) (sym is) (Given m h))
          (λ isnt. refuted_finds after trues l (clash after trues consistent m (negated m) refl (Given m h) (down.0 (outer m h) isnt)))
          (same_or_not l m)
      found_is_kept m (By _ clause at rest) = λ l down. by_clause l clause
          (λ o h. ⊎_elim (λ is. inl (subst (λ p. IsDown l p) is down)) (λ isnt. inr (found_is_kept (negated o) (rest o h isnt))) (same_or_not m o))
          (counted clause at)

      -- what was refuted before is refuted after
      pub refuted_is_kept : IsRefuted before trues → IsRefuted after trues
      refuted_is_kept (clause, at, each) =
          let found : (l : Literal) → Finds after trues l = λ l. by_clause l clause (λ m h. inr (found_is_kept (negated m) (each m h))) (counted clause at) in
          clash after trues consistent (Plus 0) (Minus 0) refl (found (Plus 0)) (found (Minus 0))

-- a clause without literals of places that is useful beside the clauses written out was useful beside those of the counters
pub useful_before : (gates : Gates) (before after : Held) → AreApart gates → IsCounted gates before after → AreWritten gates after → (clause : List Literal) → IsConsistent clause → AreOuter gates clause → IsUseful after clause → IsUseful before clause
useful_before gates before after far counted written clause consistent outer useful =
    let l : Literal = useful.0 in
    let start : List Literal = map negated (others l clause) in
    let in_clause : (m : Literal) → has start m ≡ true → has clause (negated m) ≡ true = λ m h. (has-others l clause (negated m) (has-from_negated (others l clause) m h)).0 in
    let start_consistent : IsConsistent start = λ m h. lacks-negated l clause (negated m) (consistent (negated m) (in_clause m h)) in
    let start_outer : AreOuter gates start = λ m h. subst (λ o. IsOuter gates o) (negated-negated m) (outer_negated gates (negated m) (outer (negated m) (in_clause m h))) in (
      l,
      useful.1,
      λ hints settles.
          let again : (more : List ℤ) × Settles after start l more = found_is_settled after start l (kept_is_found gates after start l (outer l useful.1) (found_is_kept gates after start start_consistent written far before counted start_outer l (settled_is_found before start l hints settles))) in
          useful.2 again.0 again.1,
    )

-- where the clauses before close, those written out do
pub closes_after : (gates : Gates) (before after : Held) → AreApart gates → IsCounted gates before after → AreWritten gates after → Closes before → Closes after
closes_after gates before after far counted written closes =
    refuted_conflicts after [] (refuted_is_kept gates after [] (λ l h. absurd (false≢true h)) written far before counted (λ l h. absurd (false≢true h)) (conflict_refutes before [] closes.0 closes.1))
