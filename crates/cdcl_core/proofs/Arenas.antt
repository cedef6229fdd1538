-- An arena of clauses with more literals, and with one clause more.
use Rattle.std.proofs.Common.{◌≡◌, ◌≢◌, ℕ, zero, suc, ◌+◌, ◌-◌, ◌<◌, ◌≤◌, false, ⊎_elim, cond, Some, None, get_or, List, [], ◌∷◌, ◌++◌, refl, sym, ap, ◌∙◌, arith, length, take, drop}
use Rattle.std.specs.Prelude.{All, AllPairs, ◌==◌}
use Rattle.std.specs.List.{AllWithin}
use Rattle.std.specs.List.Sorted.{IsNonDecreasingBy}
use Rattle.std.proofs.lemmas.Bool.{eq-eqb, ne_eqb, cases_eq, cases_lt}
use Rattle.lrat_model.specs.Clauses.{Held, clause_at}
use Rattle.cdcl_core.specs.Watches.{lits_at, id_at}
use Rattle.std.proofs.Math.Seq.{drop-append_seam}
use Rattle.std.proofs.lemmas.List.{take-append-le, take_all, drop-append-le, length-drop, get_or-map, length-map}
use Rattle.std.proofs.lemmas.List.Elements.{All-head, All-tail}
use Rattle.lrat_model.specs.Literal.{Literal}
use Rattle.cdcl_core.specs.declared.clauses.Place.{Place}
use Rattle.cdcl_core.specs.Arena.{literals_in, shown_in, IsWithin}

pub literals_in-longer : (xs ys : List Literal) (p : Place) → IsWithin (length xs) p → literals_in (xs ++ ys) p ≡ literals_in xs p
literals_in-longer xs ys p within =
    ap (λ ls. take (p.end - p.start) ls) (drop-append-le p.start xs ys (omega (arith, within.0, within.1)))
    ∙ take-append-le (p.end - p.start) (drop p.start xs) ys (omega (arith, within.0, within.1, length-drop p.start xs))

pub shown_in-longer : (xs ys : List Literal) (ps : List Place) → All (IsWithin (length xs)) ps → shown_in (xs ++ ys) ps ≡ shown_in xs ps
shown_in-longer xs ys [] all = refl
shown_in-longer xs ys (p ∷ ps) all =
    ap (λ ls. (p.id, ls) ∷ shown_in (xs ++ ys) ps) (literals_in-longer xs ys p (All-head (IsWithin (length xs)) p ps all))
    ∙ ap (λ h. (p.id, literals_in xs p) ∷ h) (shown_in-longer xs ys ps (All-tail (IsWithin (length xs)) p ps all))

pub literals_in-last : (xs ys : List Literal) (p : Place) → p.start ≡ length xs → p.end ≡ length xs + length ys → literals_in (xs ++ ys) p ≡ ys
literals_in-last xs ys p start end =
    ap (λ k. take (p.end - p.start) (drop k (xs ++ ys))) start
    ∙ ap (λ ls. take (p.end - p.start) ls) (drop-append_seam xs ys)
    ∙ take_all (p.end - p.start) ys (omega (arith, start, end))

pub shown_in-push : (ps : List Place) (xs : List Literal) (p : Place) → shown_in xs (ps ++ p ∷ []) ≡ shown_in xs ps ++ (p.id, literals_in xs p) ∷ []
shown_in-push [] xs p = refl
shown_in-push (q ∷ ps) xs p = ap (λ h. (q.id, literals_in xs q) ∷ h) (shown_in-push ps xs p)

-- where ids rise, the clause at a place is the one under its id
pub clause_at-place : (held : Held) → AllPairs (λ (e f : ℕ × List Literal). e.0 < f.0) held → (p : ℕ) → p < length held → clause_at held (id_at held p) ≡ Some (lits_at held p)
clause_at-place [] rise p within = absurd (omega arith)
clause_at-place (e ∷ held) rise zero within = ap (λ b. cond b (Some e.1) (clause_at held e.0)) (eq-eqb e.0 e.0 refl)
clause_at-place (e ∷ held) rise (suc p) within =
    let below : e.0 < id_at held p = rise 0 (suc p) (0, []) (omega arith) within in
    let other : (e.0 == id_at held p) ≡ false = ne_eqb e.0 (id_at held p) (λ same_id. absurd (omega (arith, same_id, below))) in
    ap (λ b. cond b (Some e.1) (clause_at held (id_at held p))) other
    ∙ clause_at-place held (λ a b d less inside. rise (suc a) (suc b) d (omega arith) (omega arith)) p (omega arith)

pub found_under : (held : Held) → AllPairs (λ (e f : ℕ × List Literal). e.0 < f.0) held → (p id : ℕ) (clause : List Literal) → p < length held → id_at held p ≡ id → clause_at held id ≡ Some clause → lits_at held p ≡ clause
found_under held rise p id clause within is at = let both : Some (lits_at held p) ≡ Some clause = sym (clause_at-place held rise p within) ∙ ap (λ k. clause_at held k) is ∙ at in cc

pub id_in : (arena : List Literal) (ps : List Place) (p id : ℕ) (d : Place) → p < length ps → (get_or ps p d).id ≡ id → id_at (shown_in arena ps) p ≡ id
id_in arena ps p id d within is = ap (λ (e : ℕ × List Literal). e.0) (get_or-map (λ (x : Place). (x.id, literals_in arena x)) ps p d (0, []) within) ∙ is

pub none_in : (arena : List Literal) (ps : List Place) (id : ℕ) → All (λ p. p.id ≢ id) ps → clause_at (shown_in arena ps) id ≡ None
none_in arena [] id all = refl
none_in arena (p ∷ ps) id all =
    ap (λ b. cond b (Some (literals_in arena p)) (clause_at (shown_in arena ps) id)) (ne_eqb p.id id (All-head (λ (x : Place). x.id ≢ id) p ps all))
    ∙ none_in arena ps id (All-tail (λ (x : Place). x.id ≢ id) p ps all)

pub length-shown : (arena : List Literal) (ps : List Place) → length (shown_in arena ps) ≡ length ps
length-shown arena ps = length-map ps (λ (x : Place). (x.id, literals_in arena x))

-- ids rise from place to place
abbrev pub Rises : List Place → Type 0
Rises ps = AllPairs (λ (p q : Place). p.id < q.id) ps

pub rise_in : (arena : List Literal) (ps : List Place) → AllPairs (λ (e f : ℕ × List Literal). e.0 < f.0) (shown_in arena ps) → Rises ps
rise_in arena ps rise i j d less within =
    let at : (k : ℕ) → k < length ps → id_at (shown_in arena ps) k ≡ (get_or ps k d).id = λ k inside. id_in arena ps k (get_or ps k d).id d inside refl in
    omega (arith, rise i j (0, []) less (omega (arith, within, length-shown arena ps)), at i (omega (arith, less, within)), at j within)

pub ids_do_not_fall : (ps : List Place) → Rises ps → IsNonDecreasingBy (λ (p : Place). p.id) ps
ids_do_not_fall ps up = λ i j d le within.
    ⊎_elim (λ same_place. (let is : (get_or ps i d).id ≡ (get_or ps j d).id = ap (λ k. (get_or ps k d).id) same_place in omega (arith, is)))
    (λ differ. (let lt : i < j = omega arith in let rises : (get_or ps i d).id < (get_or ps j d).id = up i j d lt within in omega (arith, rises))) (cases_eq i j)

-- an id between those of two neighbours is none
pub none_between : (ps : List Place) → Rises ps → (id above : ℕ) → AllWithin (λ (p : Place). p.id ≤ id) ps 0 above → AllWithin (λ (p : Place). id < p.id) ps above (length ps)
    → (0 < above → (d : Place) → (get_or ps (above - 1) d).id ≢ id) → above ≤ length ps → All (λ (p : Place). p.id ≢ id) ps
none_between ps up id above below beyond last bound k d within alike =
    ⊎_elim
    (λ less.
    ⊎_elim
    (λ lower.
    let rises : (get_or ps k d).id < (get_or ps (above - 1) d).id = up k (above - 1) d lower (omega (arith, less, bound)) in
    absurd (omega (arith, rises, alike, below (above - 1) d (omega arith) (omega (arith, less)))))
    (λ top. let same_place : k ≡ above - 1 = omega (arith, less, top) in absurd (last (omega (arith, less)) d (ap (λ j. (get_or ps j d).id) (sym same_place) ∙ alike)))
    (cases_lt k (above - 1)))
    (λ more. absurd (omega (arith, alike, beyond k d more within)))
    (cases_lt k above)

pub shown_in-take : (arena : List Literal) (ps : List Place) (n : ℕ) → shown_in arena (take n ps) ≡ take n (shown_in arena ps)
shown_in-take arena ps zero = refl
shown_in-take arena [] (suc n) = refl
shown_in-take arena (p ∷ ps) (suc n) = ap (λ h. (p.id, literals_in arena p) ∷ h) (shown_in-take arena ps n)
