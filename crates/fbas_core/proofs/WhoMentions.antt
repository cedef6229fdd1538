-- Who mentions whom, gathered node by node.
use Rattle.std.proofs.Common.{◌≡◌, ℕ, ◌+◌, ◌<◌, ◌&&◌, ◌||◌, ◌==◌, nat_lt, Bool, true, false, List, [], ◌∷◌, ◌++◌, length, zero, suc, append_assoc, refl, sym, ◌∙◌, ap, subst, arith, inl, inr, Some, None, slice_index_or}
use Rattle.std.specs.Prelude.{All, Result, Ok, Err, OnErr, set, not, cond}
use Rattle.std.proofs.Math.Bool.{or-false, or_assoc, and-true, and-false}
use Rattle.std.proofs.lemmas.Bool.{cases_Bool, false_from_ne_true, cases_lt, lt-ltb, ltb-true, eqb-true, eq-eqb, and_parts, or_right}
use Rattle.std.proofs.lemmas.List.{append-nil, get_or_past, get_or-set_same, get_or-set_other, length-set}
use mathlib.Core.Path.{fun_ext}
use Rattle.fbas_model.specs.Nodes.{Nodes, Table, members, ∅, ◌∪◌, listed_from}
use Rattle.fbas_model.specs.Trees.{QuorumSet}
use Rattle.fbas_model.specs.QuorumSets.{mentioned}
use Rattle.fbas_model.specs.Fbas.{Fbas}
use Rattle.fbas_model.specs.Lists.{among}
use Rattle.fbas_model.proofs.Listed.{among_more, iterated_all, iterated_below}
use Rattle.fbas_core.specs.Mentioning.{AreMentioning, IsAdded, IsForgotten, IsExchanged, list_at, mentioning, stands_in, without}

-- the numbers below i + 1 in a set are those below i, and i
one_more : (m : Nodes) (w i : ℕ) → (nat_lt w (i + 1) && m w) ≡ ((nat_lt w i && m w) || (m i && (w == i)))
one_more m w i = elim (cases_Bool (w == i)) [
  | inl e ↦
      let same : w ≡ i = eqb-true w i e in
      let low : nat_lt w (i + 1) ≡ true = lt-ltb w (i + 1) (omega (arith, same)) in
      let past : nat_lt w i ≡ false = false_from_ne_true (nat_lt w i) (λ t. absurd (let h = ltb-true w i t in omega (arith, same))) in
      rw (low, past, e) (ap m same ∙ sym (and-true (m i)))
  | inr e ↦
      let same : nat_lt w (i + 1) ≡ nat_lt w i = elim (cases_lt w i) [
        | inl lt ↦ lt-ltb w (i + 1) (omega (arith, lt)) ∙ sym (lt-ltb w i lt)
        | inr le ↦
            let high : nat_lt w (i + 1) ≡ false = false_from_ne_true (nat_lt w (i + 1)) (λ t. absurd (let h = ltb-true w (i + 1) t in let at : w ≡ i = omega (arith, le, h) in both w i e at)) in
            high ∙ sym (false_from_ne_true (nat_lt w i) (λ t. absurd (let h = ltb-true w i t in omega (arith, le, h))))
      ] in
      rw (same, e) (sym (ap (λ (b : Bool). (nat_lt w i && m w) || b) (and-false (m i)) ∙ or-false (nat_lt w i && m w)))
]
  where
    both : (w i : ℕ) → (w == i) ≡ false → w ≡ i → ⊥
    both w i e same = absurd (let yes = eq-eqb w i same in cc)

-- a set with nothing but what a quorum set mentions
pub mentioned_alone : (d : QuorumSet) (s t : Nodes) → s ≡ ∅ → t ≡ s ∪ mentioned d → t ≡ (λ w. stands_in w (Some d))
mentioned_alone d s t none m = m ∙ ap (λ (u : Nodes). u ∪ mentioned d) none

-- ---- the nodes that mention each

pub mentioning_first : (f : Fbas) (lists : List (List ℕ)) → length lists ≡ length f → ((v : ℕ) → list_at lists v ≡ []) → AreMentioning f 0 lists
mentioning_first f lists many empty = record {
  many = many;
  same = λ v w.
      let none : nat_lt w 0 ≡ false = false_from_ne_true (nat_lt w 0) (λ t. absurd (let h = ltb-true w 0 t in omega (arith, h))) in
      ap (λ (ws : List ℕ). among ws w) (empty v) ∙ sym (ap (λ (b : Bool). b && mentioning f v w) none);
}

-- one node is added to the lists of those that it mentions
pub mentioning_more : (f : Fbas) (old new : List (List ℕ)) (i : ℕ) (m : Nodes) → m ≡ (λ v. stands_in v (slice_index_or f i None)) → AreMentioning f i old → IsAdded i m old new → AreMentioning f (i + 1) new
mentioning_more f old new i m is s a = record {
  many = a.many ∙ s.many;
  same = λ v w.
      a.same v w
      ∙ ap (λ (b : Bool). b || (m v && (w == i))) (s.same v w)
      ∙ ap (λ (t : Nodes). (nat_lt w i && mentioning f v w) || (t v && (w == i))) is
      ∙ sym (one_more (mentioning f v) w i);
}

-- where all nodes were added
pub mentioning_whole : (f : Fbas) (lists : List (List ℕ)) (v : ℕ) → AreMentioning f (length f) lists → among (list_at lists v) ≡ mentioning f v
mentioning_whole f lists v m = fun_ext (λ w. m.same v w ∙ all w)
  where
    all : (w : ℕ) → (nat_lt w (length f) && mentioning f v w) ≡ mentioning f v w
    all w = elim (cases_lt w (length f)) [
      | inl lt ↦ ap (λ (b : Bool). b && mentioning f v w) (lt-ltb w (length f) lt)
      | inr past ↦
          let none : mentioning f v w ≡ false = ap (stands_in v) (get_or_past f w None past) in
          ap (λ (b : Bool). nat_lt w (length f) && b) none ∙ and-false (nat_lt w (length f)) ∙ sym none
    ]

here_among : (ws : List ℕ) (k d : ℕ) → k < length ws → among ws (slice_index_or ws k d) ≡ true
here_among [] k d low = absurd (omega (arith, low))
here_among (w ∷ ws) zero d low = ap (λ (b : Bool). b || among ws w) (eq-eqb w w refl)
here_among (w ∷ ws) (suc k) d low = or_right (slice_index_or ws k d == w) (among ws (slice_index_or ws k d)) (here_among ws k d (omega (arith, low)))

pub mentioning_below : (f : Fbas) (lists : List (List ℕ)) (v : ℕ) → AreMentioning f (length f) lists → All (λ w. w < length f) (list_at lists v)
mentioning_below f lists v m k d low =
    let w = slice_index_or (list_at lists v) k d in
    ltb-true w (length f) (and_parts (nat_lt w (length f)) (mentioning f v w) (sym (m.same v w) ∙ here_among (list_at lists v) k d low)).0

-- ---- a walk over the members of a set, each of which changes the list at its place

module _ (places : Table) (walked rest : List ℕ) (walk : walked ++ rest ≡ listed_from 0 places) where
  pub walk_on : (next : List ℕ) (v : ℕ) → rest ≡ v ∷ next → walked ++ v ∷ next ≡ listed_from 0 places
  walk_on next v step = ap (λ (vs : List ℕ). walked ++ vs) (sym step) ∙ walk

  pub walk_below : (next : List ℕ) (v : ℕ) → rest ≡ v ∷ next → v < length places
  walk_below next v step = iterated_below places walked next v (walk_on next v step)

  pub walk_over : rest ≡ [] → walked ≡ listed_from 0 places
  walk_over none = sym (append-nil walked) ∙ (ap (λ (vs : List ℕ). walked ++ vs) (sym none) ∙ walk)

  -- what held of the places before holds with one more
  pub walk_more : (P : Nodes → List (List ℕ) → Type 0) (next : List ℕ) (v : ℕ) (lists made new : List (List ℕ)) → rest ≡ v ∷ next → length places ≡ length lists → new ≡ made → (v < length lists → P (among (walked ++ v ∷ [])) made)
      → ((walked ++ v ∷ []) ++ next ≡ listed_from 0 places) × P (among (walked ++ v ∷ [])) new
  walk_more P next v lists made new step many is more = (
    append_assoc walked (v ∷ []) next ∙ walk_on next v step,
    subst (P (among (walked ++ v ∷ []))) (sym is) (more (let low = walk_below next v step in omega arith)),
  )

-- ---- one node is added to several lists

pub added_first : (w : ℕ) (lists : List (List ℕ)) → IsAdded w (among []) lists lists
added_first w lists = record { many = refl; same = λ v x. sym (or-false (among (list_at lists v) x)) }

mixed : (a b e c : Bool) → ((a || (b && c)) || (e && c)) ≡ (a || ((b || e) && c))
mixed a b e true = rw (and-true b, and-true e, and-true (b || e)) (or_assoc a b e)
mixed a b e false = rw (and-false b, and-false e, and-false (b || e)) (or-false (a || false))

-- the list at one place gains the node
module _ (lists : List (List ℕ)) (v w : ℕ) (low : v < length lists) where
  abbrev gained : List (List ℕ)
  gained = set lists v (list_at lists v ++ w ∷ [])

  changed : (y x : ℕ) → among (list_at gained y) x ≡ (among (list_at lists y) x || ((y == v) && (x == w)))
  changed y x = elim (cases_Bool (y == v)) [
    | inl e ↦
        let same : y ≡ v = eqb-true y v e in
        let now : list_at gained y ≡ list_at lists v ++ w ∷ [] = ap (list_at gained) same ∙ get_or-set_same lists v (list_at lists v ++ w ∷ []) [] low in
        ap (λ (ws : List ℕ). among ws x) now
        ∙ among_more (list_at lists v) w x
        ∙ ap (λ (k : ℕ). among (list_at lists k) x || (x == w)) (sym same)
        ∙ sym (ap (λ (b : Bool). among (list_at lists y) x || (b && (x == w))) e)
    | inr e ↦
        let now : list_at gained y ≡ list_at lists y = get_or-set_other lists v y (list_at lists v ++ w ∷ []) [] (λ same. let yes = eq-eqb y v same in absurd cc) in
        ap (λ (ws : List ℕ). among ws x) now ∙ sym (ap (λ (b : Bool). among (list_at lists y) x || (b && (x == w))) e ∙ or-false (among (list_at lists y) x))
  ]

  pub added_more : (start : List (List ℕ)) (ws : List ℕ) → IsAdded w (among ws) start lists → IsAdded w (among (ws ++ v ∷ [])) start gained
  added_more start ws a = record {
    many = length-set lists v (list_at lists v ++ w ∷ []) ∙ a.many;
    same = λ y x.
        changed y x
        ∙ ap (λ (b : Bool). b || ((y == v) && (x == w))) (a.same y x)
        ∙ mixed (among (list_at start y) x) (among ws y) (y == v) (x == w)
        ∙ sym (ap (λ (b : Bool). among (list_at start y) x || (b && (x == w))) (among_more ws v y));
  }

pub added_last : (w : ℕ) (start now : List (List ℕ)) (ws : List ℕ) (places : Table) → ws ≡ listed_from 0 places → IsAdded w (among ws) start now → IsAdded w (members places) start now
added_last w start now ws places all a = record { many = a.many; same = λ v x. a.same v x ∙ ap (λ (b : Bool). among (list_at start v) x || (b && (x == w))) (iterated_all places ws all v) }

-- ---- one node is taken out of several lists

pub among_without : (w : ℕ) (ws : List ℕ) (x : ℕ) → among (without w ws) x ≡ (among ws x && not (x == w))
among_without w [] x = refl
among_without w (y ∷ ws) x = elim (cases_Bool (y == w)) [
  | inl e ↦
      let same : y ≡ w = eqb-true y w e in
      let out : among (without w (y ∷ ws)) x ≡ among (without w ws) x = ap (λ (b : Bool). among (cond (not b) (y ∷ without w ws) (without w ws)) x) e in
      out ∙ among_without w ws x ∙ ap (λ (k : ℕ). among ws x && not (x == k)) (sym same) ∙ absorbed (x == y) (among ws x) ∙ ap (λ (k : ℕ). ((x == y) || among ws x) && not (x == k)) same
  | inr e ↦
      let kept : among (without w (y ∷ ws)) x ≡ ((x == y) || among (without w ws) x) = ap (λ (b : Bool). among (cond (not b) (y ∷ without w ws) (without w ws)) x) e in
      kept ∙ ap (λ (b : Bool). (x == y) || b) (among_without w ws x) ∙ apart e
]
  where
    absorbed : (a b : Bool) → (b && not a) ≡ ((a || b) && not a)
    absorbed true true = refl
    absorbed true false = refl
    absorbed false true = refl
    absorbed false false = refl

    apart : (y == w) ≡ false → ((x == y) || (among ws x && not (x == w))) ≡ (((x == y) || among ws x) && not (x == w))
    apart e = elim (cases_Bool (x == y)) [
      | inl here ↦
          let other : (x == w) ≡ false = ap (λ (k : ℕ). k == w) (eqb-true x y here) ∙ e in
          rw (here, other) refl
      | inr there ↦ rw there refl
    ]

neither : (a b e : Bool) → ((a && not b) && not e) ≡ (a && not (b || e))
neither false b e = refl
neither true true e = refl
neither true false e = refl

shrunk : (a b c e : Bool) → ((a && not (b && c)) && not (e && c)) ≡ (a && not ((b || e) && c))
shrunk a b true e = rw (and-true b, and-true e, and-true (b || e)) (neither a b e)
shrunk a b false e = rw (and-false b, and-false e, and-false (b || e)) (and-true (a && true))

pub forgot_first : (w : ℕ) (lists : List (List ℕ)) → IsForgotten w (among []) lists lists
forgot_first w lists = record { many = refl; same = λ v x. sym (and-true (among (list_at lists v) x)) }

-- the list at one place loses the node
module _ (lists : List (List ℕ)) (v w : ℕ) (low : v < length lists) where
  abbrev lost : List (List ℕ)
  lost = set lists v (without w (list_at lists v))

  lessened : (y x : ℕ) → among (list_at lost y) x ≡ (among (list_at lists y) x && not ((y == v) && (x == w)))
  lessened y x = elim (cases_Bool (y == v)) [
    | inl e ↦
        let same : y ≡ v = eqb-true y v e in
        let now : list_at lost y ≡ without w (list_at lists v) = ap (list_at lost) same ∙ get_or-set_same lists v (without w (list_at lists v)) [] low in
        ap (λ (ws : List ℕ). among ws x) now
        ∙ among_without w (list_at lists v) x
        ∙ ap (λ (k : ℕ). among (list_at lists k) x && not (x == w)) (sym same)
        ∙ sym (ap (λ (b : Bool). among (list_at lists y) x && not (b && (x == w))) e)
    | inr e ↦
        let now : list_at lost y ≡ list_at lists y = get_or-set_other lists v y (without w (list_at lists v)) [] (λ same. let yes = eq-eqb y v same in absurd cc) in
        ap (λ (ws : List ℕ). among ws x) now ∙ sym (ap (λ (b : Bool). among (list_at lists y) x && not (b && (x == w))) e ∙ and-true (among (list_at lists y) x))
  ]

  pub forgot_more : (start : List (List ℕ)) (ws : List ℕ) → IsForgotten w (among ws) start lists → IsForgotten w (among (ws ++ v ∷ [])) start lost
  forgot_more start ws a = record {
    many = length-set lists v (without w (list_at lists v)) ∙ a.many;
    same = λ y x.
        lessened y x
        ∙ ap (λ (b : Bool). b && not ((y == v) && (x == w))) (a.same y x)
        ∙ shrunk (among (list_at start y) x) (among ws y) (x == w) (y == v)
        ∙ sym (ap (λ (b : Bool). among (list_at start y) x && not (b && (x == w))) (among_more ws v y));
  }

pub forgot_last : (w : ℕ) (start now : List (List ℕ)) (ws : List ℕ) (places : Table) → ws ≡ listed_from 0 places → IsForgotten w (among ws) start now → IsForgotten w (members places) start now
forgot_last w start now ws places all a = record { many = a.many; same = λ v x. a.same v x ∙ ap (λ (b : Bool). among (list_at start v) x && not (b && (x == w))) (iterated_all places ws all v) }

-- ---- one node is exchanged

turned : (o s : Bool) → ((o || ((s && not o) && true)) && not ((o && not s) && true)) ≡ s
turned true true = refl
turned true false = refl
turned false true = refl
turned false false = refl

untouched : (a c g : Bool) → ((a || (c && false)) && not (g && false)) ≡ a
untouched true c g = ap (λ (b : Bool). not b) (and-false g)
untouched false c g = ap (λ (b : Bool). b && not (g && false)) (and-false c)

undone : (o s p : Bool) → (p ≡ true → (s && not o) ≡ true) → ((o || (p && true)) && not ((s && not o) && true)) ≡ o
undone true true p h = refl
undone true false p h = refl
undone false true true h = refl
undone false true false h = refl
undone false false true h = absurd (let e = h refl in cc)
undone false false false h = refl

module _ (w : ℕ) (before after come : Nodes) (old middle : List (List ℕ)) (was : (v : ℕ) → among (list_at old v) w ≡ before v) (come_is : come ≡ (λ v. after v && not (before v))) where
  pub exchanged : (gone : Nodes) (new : List (List ℕ)) → gone ≡ (λ v. before v && not (after v)) → IsAdded w come old middle → IsForgotten w gone middle new → IsExchanged w after old new
  exchanged gone new gone_is added forgot = record {
    many = forgot.many ∙ added.many;
    same = λ v x.
        forgot.same v x
        ∙ ap (λ (b : Bool). b && not (gone v && (x == w))) (added.same v x)
        ∙ ap (λ (c : Nodes). (among (list_at old v) x || (c v && (x == w))) && not (gone v && (x == w))) come_is
        ∙ ap (λ (g : Nodes). (among (list_at old v) x || ((after v && not (before v)) && (x == w))) && not (g v && (x == w))) gone_is
        ∙ elim (cases_Bool (x == w)) [
          | inl e ↦
              let o : among (list_at old v) x ≡ before v = ap (λ (k : ℕ). among (list_at old v) k) (eqb-true x w e) ∙ was v in
              rw (e, o) (turned (before v) (after v))
          | inr e ↦ rw e (untouched (among (list_at old v) x) (after v && not (before v)) (before v && not (after v)))
        ];
  }

  pub taken_back : (part : Nodes) (new : List (List ℕ)) → ((v : ℕ) → part v ≡ true → come v ≡ true) → IsAdded w part old middle → IsForgotten w come middle new → IsExchanged w before old new
  taken_back part new inside added forgot = record {
    many = forgot.many ∙ added.many;
    same = λ v x.
        forgot.same v x
        ∙ ap (λ (b : Bool). b && not (come v && (x == w))) (added.same v x)
        ∙ ap (λ (c : Nodes). (among (list_at old v) x || (part v && (x == w))) && not (c v && (x == w))) come_is
        ∙ elim (cases_Bool (x == w)) [
          | inl e ↦
              let o : among (list_at old v) x ≡ before v = ap (λ (k : ℕ). among (list_at old v) k) (eqb-true x w e) ∙ was v in
              rw (e, o) (undone (before v) (after v) (part v) (λ p. sym (ap (λ (c : Nodes). c v) come_is) ∙ inside v p))
          | inr e ↦ rw e (untouched (among (list_at old v) x) (part v) (after v && not (before v)))
        ];
  }

pub on_err : {A E : Type 0} (r : Result A E) (P : Type 0) → P → OnErr r P
on_err (Ok a) P h = tt
on_err (Err e) P h = h

-- the numbers that a list of numbers begins with are members
pub begun_inside : (places : Table) (ws rest : List ℕ) → ws ++ rest ≡ listed_from 0 places → (v : ℕ) → among ws v ≡ true → members places v ≡ true
begun_inside places ws rest whole v here = sym (iterated_all places (ws ++ rest) whole v) ∙ among_front ws rest v here
  where
    among_front : (ws rest : List ℕ) (v : ℕ) → among ws v ≡ true → among (ws ++ rest) v ≡ true
    among_front [] rest v here = absurd (cc)
    among_front (w ∷ ws) rest v here = elim (cases_Bool (v == w)) [
      | inl e ↦ rw e refl
      | inr e ↦ or_right (v == w) (among (ws ++ rest) v) (among_front ws rest v (sym (ap (λ (b : Bool). b || among ws v) e) ∙ here))
    ]
