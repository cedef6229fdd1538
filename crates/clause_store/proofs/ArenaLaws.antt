-- What an arena and its index show.
use Rattle.std.proofs.Common.{◌≡◌, ◌≢◌, ℕ, zero, suc, ◌<◌, ◌≤◌, ◌+◌, ◌-◌, Bool, true, false, not, ◌&&◌, ◌||◌, cond, List, [], ◌∷◌, ◌++◌, length, get_or, take, drop, refl, sym, ap, ◌∙◌, subst, arith, Some, None, Result, Ok, Err, OnErr}
use Rattle.std.specs.Prelude.{◌==◌, All, AllPairs, is_some}
use Rattle.std.specs.List.{AllWithin}
use Rattle.std.proofs.lemmas.Bool.{eq-eqb, ne_eqb}
use Rattle.std.proofs.lemmas.List.{length-append, length-drop, take-append-le, drop-append-le, take_all, drop_all}
use Rattle.std.proofs.lemmas.List.Elements.{All-cons, All-tail, All-push, All-weaker}
use Rattle.std.proofs.lemmas.List.Quantifiers.{all_pairs_push}
use Rattle.std.proofs.lemmas.List.Kept.{AllPairs-cons}
use Rattle.lrat_model.specs.Literal.{Literal}
use Rattle.lrat_model.specs.Clauses.{Held, clause_at, has_id, with_clause, without}
use Rattle.clause_store.specs.declared.index.Entry.{Entry}
use Rattle.clause_store.specs.Entries.{IsRising, AreForward, is_held_in, marked}
use Rattle.clause_store.specs.Shown.{clause_in, held_in}
use Rattle.clause_store.specs.Index.{IsWithin, IsIndex}
use Rattle.clause_store.specs.Nearest.{IsFirstAbove}
use Rattle.clause_store.proofs.EntryLaws.{rising-tail, rising-head, above_differ, length-marked, SamePlace, marked-keeps, marked-apart, marked-rising}

-- an id that no entry has
pub clause_at-none : (arena : List Literal) (es : List Entry) (id : ℕ) → All (λ e. e.id ≢ id) es → clause_at (held_in arena es) id ≡ None
clause_at-none arena [] id none = refl
clause_at-none arena (e ∷ es) id none =
    let rest : clause_at (held_in arena es) id ≡ None = clause_at-none arena es id (All-tail (λ f. f.id ≢ id) e es none) in
    let differs : (e.id == id) ≡ false = ne_eqb e.id id (none zero e (omega arith)) in
    elim e.is_held as (λ b. clause_at (cond b ((e.id, clause_in arena e) ∷ held_in arena es) (held_in arena es)) id ≡ None) [
      | true ↦ ap (λ b. cond b (Some (clause_in arena e)) (clause_at (held_in arena es) id)) differs ∙ rest
      | false ↦ rest
    ]

-- the place of an id
pub clause_at-at : (arena : List Literal) (es : List Entry) (place : ℕ) (d : Entry) (id : ℕ) → IsRising es → place < length es → (get_or es place d).id ≡ id
    → clause_at (held_in arena es) id ≡ cond (get_or es place d).is_held (Some (clause_in arena (get_or es place d))) None
clause_at-at arena [] place d id up within is = absurd (omega arith)
clause_at-at arena (e ∷ es) zero d id up within is =
    let rest : clause_at (held_in arena es) id ≡ None = clause_at-none arena es id (above_differ id es (subst (λ k. All (λ f. k < f.id) es) is (rising-head e es up))) in
    let same : (e.id == id) ≡ true = eq-eqb e.id id is in
    elim e.is_held as (λ b. clause_at (cond b ((e.id, clause_in arena e) ∷ held_in arena es) (held_in arena es)) id ≡ cond b (Some (clause_in arena e)) None) [
      | true ↦ ap (λ b. cond b (Some (clause_in arena e)) (clause_at (held_in arena es) id)) same
      | false ↦ rest
    ]
clause_at-at arena (e ∷ es) (suc place) d id up within is =
    let below : e.id < (get_or es place d).id = up zero (suc place) d (omega arith) within in
    let differs : (e.id == id) ≡ false = ne_eqb e.id id (λ same. absurd (omega (arith, below, same, is))) in
    let rest : clause_at (held_in arena es) id ≡ cond (get_or es place d).is_held (Some (clause_in arena (get_or es place d))) None = clause_at-at arena es place d id (rising-tail e es up) (omega arith) is in
    elim e.is_held as (λ b. clause_at (cond b ((e.id, clause_in arena e) ∷ held_in arena es) (held_in arena es)) id ≡ cond (get_or es place d).is_held (Some (clause_in arena (get_or es place d))) None) [
      | true ↦ ap (λ b. cond b (Some (clause_in arena e)) (clause_at (held_in arena es) id)) differs ∙ rest
      | false ↦ rest
    ]

-- an id is held where an entry of it is
pub is_some-clause_at : (arena : List Literal) (es : List Entry) (id : ℕ) → is_some (clause_at (held_in arena es) id) ≡ is_held_in es id
is_some-clause_at arena [] id = refl
is_some-clause_at arena (e ∷ es) id =
    let rest = is_some-clause_at arena es id in
    elim e.is_held as (λ b. is_some (clause_at (cond b ((e.id, clause_in arena e) ∷ held_in arena es) (held_in arena es)) id) ≡ (((e.id == id) && b) || is_held_in es id)) [
      | true ↦ elim (e.id == id) as (λ t. is_some (cond t (Some (clause_in arena e)) (clause_at (held_in arena es) id)) ≡ ((t && true) || is_held_in es id)) [ true ↦ refl | false ↦ rest ]
      | false ↦ elim (e.id == id) as (λ t. is_some (clause_at (held_in arena es) id) ≡ ((t && false) || is_held_in es id)) [ true ↦ rest | false ↦ rest ]
    ]

-- what is marked as held no more is left out
pub held_in-marked : (arena : List Literal) (es : List Entry) (ids : List ℕ) → held_in arena (marked es ids false) ≡ without (held_in arena es) ids
held_in-marked arena [] ids = refl
held_in-marked arena (e ∷ es) ids =
    let rest = held_in-marked arena es ids in
    elim (has_id ids e.id) as (λ t. has_id ids e.id ≡ t → held_in arena (cond t (record e { is_held = false }) e ∷ marked es ids false) ≡ without (cond e.is_held ((e.id, clause_in arena e) ∷ held_in arena es) (held_in arena es)) ids) [
      | true ↦ λ named. elim e.is_held as (λ b. held_in arena (marked es ids false) ≡ without (cond b ((e.id, clause_in arena e) ∷ held_in arena es) (held_in arena es)) ids) [
        | true ↦ rest ∙ sym (ap (λ t. cond (not t) ((e.id, clause_in arena e) ∷ without (held_in arena es) ids) (without (held_in arena es) ids)) named)
        | false ↦ rest
      ]
      | false ↦ λ not_named. elim e.is_held as (λ b. cond b ((e.id, clause_in arena e) ∷ held_in arena (marked es ids false)) (held_in arena (marked es ids false)) ≡ without (cond b ((e.id, clause_in arena e) ∷ held_in arena es) (held_in arena es)) ids) [
        | true ↦ ap (λ es'. (e.id, clause_in arena e) ∷ es') rest ∙ sym (ap (λ t. cond (not t) ((e.id, clause_in arena e) ∷ without (held_in arena es) ids) (without (held_in arena es) ids)) not_named)
        | false ↦ rest
      ]
    ] refl

pub index-marked : (size : ℕ) (es : List Entry) (last : ℕ) (ids : List ℕ) (b : Bool) → IsIndex size es last → IsIndex size (marked es ids b) last
index-marked size es last ids b index = record {
  within = λ k d here.
      let keeps : SamePlace (get_or (marked es ids b) k d) (get_or es k d) = marked-keeps es ids b k d in
      let inside : IsWithin size (get_or es k d) = index.within k d (omega (arith, here, length-marked es ids b)) in
      (omega (arith, keeps.1, keeps.2, inside.0), omega (arith, keeps.2, inside.1));
  apart = marked-apart es ids b index.apart;
  rising = marked-rising es ids b index.rising;
  bounded = λ k d here.
      let keeps : SamePlace (get_or (marked es ids b) k d) (get_or es k d) = marked-keeps es ids b k d in
      let below : (get_or es k d).id ≤ last = index.bounded k d (omega (arith, here, length-marked es ids b)) in
      omega (arith, keeps.0, below);
  positive = λ k d here.
      let keeps : SamePlace (get_or (marked es ids b) k d) (get_or es k d) = marked-keeps es ids b k d in
      let above : 0 < (get_or es k d).id = index.positive k d (omega (arith, here, length-marked es ids b)) in
      omega (arith, keeps.0, above);
}

pub index_forward : (size : ℕ) (es : List Entry) (last : ℕ) → IsIndex size es last → AreForward es
index_forward size es last index = λ k d within. (index.within k d within).0

-- an arena that grows at its end keeps what its entries show
slice_longer : (from count : ℕ) (xs ys : List Literal) → from + count ≤ length xs → take count (drop from (xs ++ ys)) ≡ take count (drop from xs)
slice_longer from count xs ys low =
    let from_low : from ≤ length xs = omega (arith, low) in
    let rest : count ≤ length (drop from xs) = omega (arith, low, length-drop from xs) in
    rw (drop-append-le from xs ys from_low) (take-append-le count (drop from xs) ys rest)

pub held_in-longer : (xs ys : List Literal) (es : List Entry) → All (IsWithin (length xs)) es → held_in (xs ++ ys) es ≡ held_in xs es
held_in-longer xs ys [] within = refl
held_in-longer xs ys (e ∷ es) within =
    let inside : IsWithin (length xs) e = within zero e (omega arith) in
    let here : clause_in (xs ++ ys) e ≡ clause_in xs e = slice_longer e.start (e.end - e.start) xs ys (omega (arith, inside.0, inside.1)) in
    let rest : held_in (xs ++ ys) es ≡ held_in xs es = held_in-longer xs ys es (All-tail (IsWithin (length xs)) e es within) in
    ap (λ c. cond e.is_held ((e.id, c) ∷ held_in (xs ++ ys) es) (held_in (xs ++ ys) es)) here ∙ ap (λ h. cond e.is_held ((e.id, clause_in xs e) ∷ h) h) rest

held_in-push : (xs : List Literal) (es : List Entry) (e : Entry) → e.is_held ≡ true → held_in xs (es ++ e ∷ []) ≡ held_in xs es ++ (e.id, clause_in xs e) ∷ []
held_in-push xs [] e held = ap (λ b. cond b ((e.id, clause_in xs e) ∷ []) []) held
held_in-push xs (f ∷ es) e held =
    elim f.is_held as (λ b. cond b ((f.id, clause_in xs f) ∷ held_in xs (es ++ e ∷ [])) (held_in xs (es ++ e ∷ [])) ≡ cond b ((f.id, clause_in xs f) ∷ held_in xs es) (held_in xs es) ++ (e.id, clause_in xs e) ∷ []) [
      | true ↦ ap (λ h. (f.id, clause_in xs f) ∷ h) (held_in-push xs es e held)
      | false ↦ held_in-push xs es e held
    ]

last_slice : (xs ys : List Literal) → take (length (xs ++ ys) - length xs) (drop (length xs) (xs ++ ys)) ≡ ys
last_slice xs ys =
    let cut : drop (length xs) (xs ++ ys) ≡ drop (length xs) xs ++ ys = drop-append-le (length xs) xs ys (omega arith) in
    let none : drop (length xs) xs ≡ [] = drop_all (length xs) xs (omega arith) in
    let all : drop (length xs) (xs ++ ys) ≡ ys = cut ∙ ap (λ zs. zs ++ ys) none in
    rw all (take_all (length (xs ++ ys) - length xs) ys (omega (arith, length-append xs ys)))

-- one more clause
module _ (xs ys grown : List Literal) (es more : List Entry) (last id start end : ℕ) (index : IsIndex (length xs) es last) (is_grown : grown ≡ xs ++ ys) where
  grown_length : length xs ≤ length grown
  grown_length = omega (arith, ap length is_grown, length-append xs ys)

  -- where the arena grew, and the index did not
  pub index-grown : more ≡ es → IsIndex (length grown) more last
  index-grown is_same = subst (λ fs. IsIndex (length grown) fs last) (sym is_same) (record {
    within = All-weaker (IsWithin (length xs)) (IsWithin (length grown)) (λ e inside. (inside.0, omega (arith, inside.1, grown_length))) es index.within;
    apart = index.apart;
    rising = index.rising;
    bounded = index.bounded;
    positive = index.positive;
  })

  pub held_in-grown : more ≡ es → held_in grown more ≡ held_in xs es
  held_in-grown is_same = rw (is_same, is_grown) (held_in-longer xs ys es index.within)

  module _ (above : last < id) (is_start : start ≡ length xs) (is_end : end ≡ length grown) (is_more : more ≡ es ++ record { id = id; start = start; end = end; is_held = true } ∷ []) where
    pub index-push : IsIndex (length grown) more id
    index-push =
        let e : Entry = record { id = id; start = start; end = end; is_held = true } in
        subst (λ fs. IsIndex (length grown) fs id) (sym is_more) (record {
          within = All-push (IsWithin (length grown)) es e (All-weaker (IsWithin (length xs)) (IsWithin (length grown)) (λ f inside. (inside.0, omega (arith, inside.1, grown_length))) es index.within) (omega (arith, is_start, is_end, grown_length), omega (arith, is_end));
          apart = all_pairs_push (λ f g. f.end ≤ g.start) es e index.apart (λ k d here. (let inside : IsWithin (length xs) (get_or es k d) = index.within k d here in omega (arith, inside.1, is_start)));
          rising = all_pairs_push (λ f g. f.id < g.id) es e index.rising (λ k d here. (let below : (get_or es k d).id ≤ last = index.bounded k d here in omega (arith, below, above)));
          bounded = All-push (λ f. f.id ≤ id) es e (All-weaker (λ f. f.id ≤ last) (λ f. f.id ≤ id) (λ f below. omega (arith, below, above)) es index.bounded) (omega arith);
          positive = All-push (λ f. 0 < f.id) es e index.positive (omega (arith, above));
        })

    pub held_in-pushed : held_in grown more ≡ with_clause (held_in xs es) id ys
    held_in-pushed =
        let e : Entry = record { id = id; start = start; end = end; is_held = true } in
        let slice : take (end - start) (drop start grown) ≡ ys = rw (is_end, is_start, is_grown) (last_slice xs ys) in
        rw is_more (held_in-push grown es e refl) ∙ ap (λ c. held_in grown es ++ (id, c) ∷ []) slice ∙ ap (λ h. h ++ (id, ys) ∷ []) (rw is_grown (held_in-longer xs ys es index.within))

pub on_err : {A E : Type 0} (r : Result A E) (P : Type 0) → P → OnErr r P
on_err (Ok x) P p = tt
on_err (Err e) P p = p

-- entries up to an id show nothing above it
pub above_from : (arena : List Literal) (es : List Entry) (start id : ℕ) → AllWithin (λ e. e.id ≤ id) es 0 start → start ≤ length es → (k : ℕ) → id < k → clause_at (held_in arena es) k ≡ clause_at (held_in arena (drop start es)) k
above_from arena es zero id below within k above = refl
above_from arena [] (suc start) id below within k above = refl
above_from arena (e ∷ es) (suc start) id below within k above =
    let here : e.id ≤ id = below zero e (omega arith) (omega arith) in
    let differs : (e.id == k) ≡ false = ne_eqb e.id k (λ same. absurd (omega (arith, here, above, same))) in
    let rest : clause_at (held_in arena es) k ≡ clause_at (held_in arena (drop start es)) k = above_from arena es start id (λ j d low high. below (suc j) d (omega arith) (omega arith)) (omega arith) k above in
    elim e.is_held as (λ b. clause_at (cond b ((e.id, clause_in arena e) ∷ held_in arena es) (held_in arena es)) k ≡ clause_at (held_in arena (drop start es)) k) [
      | true ↦ ap (λ b. cond b (Some (clause_in arena e)) (clause_at (held_in arena es) k)) differs ∙ rest
      | false ↦ rest
    ]

-- the first entry that is held, above an id
pub first_above_at : (held : Held) (arena : List Literal) (e : Entry) (es : List Entry) (id : ℕ) → IsRising (e ∷ es) → e.is_held ≡ true → id < e.id
    → ((k : ℕ) → id < k → clause_at held k ≡ clause_at (held_in arena (e ∷ es)) k) → IsFirstAbove held id e.id (clause_in arena e)
first_above_at held arena e es id up is_held above alike =
    let lookup : (k : ℕ) → clause_at (held_in arena (e ∷ es)) k ≡ cond (e.id == k) (Some (clause_in arena e)) (clause_at (held_in arena es) k) = λ k. ap (λ b. clause_at (cond b ((e.id, clause_in arena e) ∷ held_in arena es) (held_in arena es)) k) is_held in
    record {
      above = above;
      there = alike e.id above ∙ lookup e.id ∙ ap (λ b. cond b (Some (clause_in arena e)) (clause_at (held_in arena es) e.id)) (eq-eqb e.id e.id refl);
      nothing_between = λ k low high.
          let differs : (e.id == k) ≡ false = ne_eqb e.id k (λ same. absurd (omega (arith, high, same))) in
          let rest : clause_at (held_in arena es) k ≡ None = clause_at-none arena es k (λ j d here same. (let up_there : e.id < (get_or es j d).id = rising-head e es up j d here in absurd (omega (arith, up_there, same, high)))) in
          alike k low ∙ lookup k ∙ ap (λ b. cond b (Some (clause_in arena e)) (clause_at (held_in arena es) k)) differs ∙ rest;
    }

-- an id above those of all entries
pub none_above : (arena : List Literal) (es : List Entry) (last : ℕ) → All (λ e. e.id ≤ last) es → (k : ℕ) → last < k → clause_at (held_in arena es) k ≡ None
none_above arena es last bounded k above = clause_at-none arena es k (λ j d within same. (let below : (get_or es j d).id ≤ last = bounded j d within in absurd (omega (arith, below, above, same))))

-- ids rise among what is held
held_in-above : (arena : List Literal) (es : List Entry) (id : ℕ) → All (λ e. id < e.id) es → All (λ e. id < e.0) (held_in arena es)
held_in-above arena [] id above = λ k d within. absurd (omega arith)
held_in-above arena (e ∷ es) id above =
    let rest : All (λ f. id < f.0) (held_in arena es) = held_in-above arena es id (All-tail (λ f. id < f.id) e es above) in
    elim e.is_held as (λ b. All (λ f. id < f.0) (cond b ((e.id, clause_in arena e) ∷ held_in arena es) (held_in arena es))) [
      | true ↦ All-cons (λ f. id < f.0) (e.id, clause_in arena e) (held_in arena es) (above zero e (omega arith)) rest
      | false ↦ rest
    ]

pub held_in-rising : (arena : List Literal) (es : List Entry) → IsRising es → AllPairs (λ e f. e.0 < f.0) (held_in arena es)
held_in-rising arena [] up = λ i j d lt within. absurd (omega arith)
held_in-rising arena (e ∷ es) up =
    let rest : AllPairs (λ f g. f.0 < g.0) (held_in arena es) = held_in-rising arena es (rising-tail e es up) in
    elim e.is_held as (λ b. AllPairs (λ f g. f.0 < g.0) (cond b ((e.id, clause_in arena e) ∷ held_in arena es) (held_in arena es))) [
      | true ↦ AllPairs-cons (λ f g. f.0 < g.0) (e.id, clause_in arena e) (held_in arena es) (held_in-above arena es e.id (rising-head e es up)) rest
      | false ↦ rest
    ]

pub none_at_zero : (arena : List Literal) (es : List Entry) → All (λ e. 0 < e.id) es → clause_at (held_in arena es) 0 ≡ None
none_at_zero arena es positive = clause_at-none arena es 0 (λ j d within same. (let above : 0 < (get_or es j d).id = positive j d within in absurd (omega (arith, above, same))))
