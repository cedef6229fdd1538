-- How often a literal stands in the clauses held decides whether one that has it is left out.
use Rattle.std.proofs.Common.{◌≡◌, ℕ, zero, suc, ◌<◌, ◌≤◌, ◌+◌, Bool, true, false, not, ◌&&◌, ◌||◌, List, [], ◌∷◌, ◌++◌, refl, sym, ap, ◌∙◌, subst, arith, cond, Some, None}
use Rattle.std.specs.Prelude.{◌==◌, All, AllPairs}
use Rattle.std.proofs.lemmas.Bool.{eqb-true, eq-eqb, ne_eqb, false≢true}
use Rattle.std.proofs.lemmas.List.Elements.{All-head, All-tail}
use Rattle.std.proofs.Math.Bool.{or-false, or_assoc}
use Rattle.lrat_model.specs.Literal.{Literal, same, has}
use Rattle.lrat_model.specs.Clauses.{Held, clause_at, has_id, with_clause, without}
use Rattle.lrat_model.specs.Rat.{first_without}
use Rattle.rat_candidates.specs.Occurrences.{times, occurrences, occurrences_in}

-- where it does not stand
times-none : (l : Literal) (clause : List Literal) → times l clause ≡ 0 → has clause l ≡ false
times-none l [] none = refl
times-none l (m ∷ ms) none =
    elim (same l m) as (λ b. cond b 1 0 + times l ms ≡ 0 → (b || has ms l) ≡ false) [
      | true ↦ λ is. absurd (omega (arith, is))
      | false ↦ λ is. times-none l ms (omega (arith, is))
    ] none

-- what stands in some clauses stands in all
pub some-all : (l : Literal) (ids : List ℕ) (held : Held) → occurrences_in l ids held ≤ occurrences l held
some-all l ids [] = omega arith
some-all l ids (e ∷ held) =
    elim (has_id ids e.0) as (λ b. cond b (times l e.1) 0 + occurrences_in l ids held ≤ times l e.1 + occurrences l held) [
      | true ↦ omega (arith, some-all l ids held)
      | false ↦ omega (arith, some-all l ids held)
    ]

-- where all of them stand in the clauses of these ids, no clause with the literal is left out
pub all_named : (l : Literal) (ids : List ℕ) (held : Held) → occurrences l held ≤ occurrences_in l ids held → first_without held l ids ≡ None
all_named l ids [] full = refl
all_named l ids (e ∷ held) full =
    elim (has_id ids e.0) as (λ b. times l e.1 + occurrences l held ≤ cond b (times l e.1) 0 + occurrences_in l ids held → cond (has e.1 l && not b) (Some e.0) (first_without held l ids) ≡ None) [
      | true ↦ λ more. (let rest : first_without held l ids ≡ None = all_named l ids held (omega (arith, more)) in
          elim (has e.1 l) as (λ b. cond (b && false) (Some e.0) (first_without held l ids) ≡ None) [ true ↦ rest | false ↦ rest ])
      | false ↦ λ more.
          let none : times l e.1 ≡ 0 = omega (arith, more, some-all l ids held) in
          ap (λ b. cond (b && true) (Some e.0) (first_without held l ids)) (times-none l e.1 none) ∙ all_named l ids held (omega (arith, more, some-all l ids held))
    ] full

-- one clause more, and ids taken out
pub occurrences-with_clause : (l : Literal) (held : Held) (id : ℕ) (clause : List Literal) → occurrences l (with_clause held id clause) ≡ occurrences l held + times l clause
occurrences-with_clause l [] id clause = omega arith
occurrences-with_clause l (e ∷ held) id clause = omega (arith, occurrences-with_clause l held id clause)

pub occurrences-without : (l : Literal) (held : Held) (ids : List ℕ) → occurrences l (without held ids) + occurrences_in l ids held ≡ occurrences l held
occurrences-without l [] ids = refl
occurrences-without l (e ∷ held) ids =
    elim (has_id ids e.0) as (λ b. occurrences l (cond (not b) (e ∷ without held ids) (without held ids)) + (cond b (times l e.1) 0 + occurrences_in l ids held) ≡ times l e.1 + occurrences l held) [
      | true ↦ omega (arith, occurrences-without l held ids)
      | false ↦ omega (arith, occurrences-without l held ids)
    ]

-- ---- one id more

pub has-one_more : (ids : List ℕ) (id k : ℕ) → has_id (ids ++ id ∷ []) k ≡ (has_id ids k || (id == k))
has-one_more [] id k = or-false (id == k)
has-one_more (j ∷ ids) id k = ap (λ b. (j == k) || b) (has-one_more ids id k) ∙ sym (or_assoc (j == k) (has_id ids k) (id == k))

-- an id that no clause of the list has
in-unheld : (l : Literal) (ids : List ℕ) (id : ℕ) (held : Held) → All (λ f. id < f.0) held → occurrences_in l (ids ++ id ∷ []) held ≡ occurrences_in l ids held
in-unheld l ids id [] above = refl
in-unheld l ids id (e ∷ held) above =
    let up : id < e.0 = All-head (λ f. id < f.0) e held above in
    let rest : occurrences_in l (ids ++ id ∷ []) held ≡ occurrences_in l ids held = in-unheld l ids id held (All-tail (λ f. id < f.0) e held above) in
    let same_test : has_id (ids ++ id ∷ []) e.0 ≡ has_id ids e.0 = has-one_more ids id e.0 ∙ ap (λ b. has_id ids e.0 || b) (ne_eqb id e.0 (λ is. absurd (omega (arith, up, is)))) ∙ or-false (has_id ids e.0) in
    ap (λ b. cond b (times l e.1) 0 + occurrences_in l (ids ++ id ∷ []) held) same_test ∙ ap (λ n. cond (has_id ids e.0) (times l e.1) 0 + n) rest

tail_rises : (e : ℕ × List Literal) (held : Held) → AllPairs (λ f g. f.0 < g.0) (e ∷ held) → AllPairs (λ f g. f.0 < g.0) held
tail_rises e held up = λ i j d lt within. up (suc i) (suc j) d (omega arith) (omega arith)

head_rises : (e : ℕ × List Literal) (held : Held) → AllPairs (λ f g. f.0 < g.0) (e ∷ held) → All (λ f. e.0 < f.0) held
head_rises e held up = λ k d within. up zero (suc k) d (omega arith) (omega arith)

-- the id of a clause that was not among them adds what stands in that clause
pub in-one_more : (l : Literal) (ids : List ℕ) (id : ℕ) (clause : List Literal) (held : Held) → AllPairs (λ f g. f.0 < g.0) held → clause_at held id ≡ Some clause → has_id ids id ≡ false
    → occurrences_in l (ids ++ id ∷ []) held ≡ occurrences_in l ids held + times l clause
in-one_more l ids id clause [] up at new = cc
in-one_more l ids id clause (e ∷ held) up at new =
    elim (e.0 == id) as (λ b. (e.0 == id) ≡ b → cond b (Some e.1) (clause_at held id) ≡ Some clause → occurrences_in l (ids ++ id ∷ []) (e ∷ held) ≡ occurrences_in l ids (e ∷ held) + times l clause) [
      | true ↦ λ here found.
          let same_id : e.0 ≡ id = eqb-true e.0 id here in
          let same_clause : e.1 ≡ clause = cc in
          let after : All (λ f. id < f.0) held = subst (λ k. All (λ f. k < f.0) held) same_id (head_rises e held up) in
          let rest : occurrences_in l (ids ++ id ∷ []) held ≡ occurrences_in l ids held = in-unheld l ids id held after in
          let old : has_id ids e.0 ≡ false = ap (has_id ids) same_id ∙ new in
          let now : has_id (ids ++ id ∷ []) e.0 ≡ true = has-one_more ids id e.0 ∙ ap (λ b. b || (id == e.0)) old ∙ eq-eqb id e.0 (sym same_id) in
          ap (λ b. cond b (times l e.1) 0 + occurrences_in l (ids ++ id ∷ []) held) now
          ∙ omega (arith, rest, ap (times l) same_clause, ap (λ b. cond b (times l e.1) 0) old)
      | false ↦ λ differs found.
          let same_test : has_id (ids ++ id ∷ []) e.0 ≡ has_id ids e.0 = has-one_more ids id e.0 ∙ ap (λ b. has_id ids e.0 || b) (turned e.0 id differs) ∙ or-false (has_id ids e.0) in
          let rest : occurrences_in l (ids ++ id ∷ []) held ≡ occurrences_in l ids held + times l clause = in-one_more l ids id clause held (tail_rises e held up) found new in
          ap (λ b. cond b (times l e.1) 0 + occurrences_in l (ids ++ id ∷ []) held) same_test ∙ omega (arith, rest)
    ] refl at where
      turned : (x y : ℕ) → (x == y) ≡ false → (y == x) ≡ false
      turned x y differ = ne_eqb y x (λ is. absurd (false≢true (sym differ ∙ eq-eqb x y (sym is))))

-- an id that was among them adds nothing
pub in-again : (l : Literal) (ids : List ℕ) (id : ℕ) (held : Held) → has_id ids id ≡ true → occurrences_in l (ids ++ id ∷ []) held ≡ occurrences_in l ids held
in-again l ids id [] old = refl
in-again l ids id (e ∷ held) old =
    ap (λ b. cond b (times l e.1) 0 + occurrences_in l (ids ++ id ∷ []) held) same_test ∙ ap (λ n. cond (has_id ids e.0) (times l e.1) 0 + n) (in-again l ids id held old) where
      or_itself : (b c : Bool) → (c ≡ true → b ≡ true) → (b || c) ≡ b
      or_itself true c sub = refl
      or_itself false true sub = sym (sub refl)
      or_itself false false sub = refl

      same_test : has_id (ids ++ id ∷ []) e.0 ≡ has_id ids e.0
      same_test = has-one_more ids id e.0 ∙ or_itself (has_id ids e.0) (id == e.0) (λ is. subst (λ k. has_id ids k ≡ true) (eqb-true id e.0 is) old)

-- with one id more there are no fewer
pub in-longer : (l : Literal) (ids : List ℕ) (id : ℕ) (held : Held) → occurrences_in l ids held ≤ occurrences_in l (ids ++ id ∷ []) held
in-longer l ids id [] = omega arith
in-longer l ids id (e ∷ held) =
    subst (λ b. cond (has_id ids e.0) (times l e.1) 0 + occurrences_in l ids held ≤ cond b (times l e.1) 0 + occurrences_in l (ids ++ id ∷ []) held) (sym (has-one_more ids id e.0))
    (elim (has_id ids e.0) as (λ b. cond b (times l e.1) 0 + occurrences_in l ids held ≤ cond (b || (id == e.0)) (times l e.1) 0 + occurrences_in l (ids ++ id ∷ []) held) [
      | true ↦ omega (arith, in-longer l ids id held)
      | false ↦ omega (arith, in-longer l ids id held)
    ])
