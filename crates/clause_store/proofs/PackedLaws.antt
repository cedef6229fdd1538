-- What is held shows the same clauses when it is packed.
use Rattle.std.proofs.Common.{◌≡◌, ℕ, zero, suc, ◌<◌, ◌≤◌, ◌+◌, ◌-◌, true, false, cond, List, [], ◌∷◌, ◌++◌, length, get_or, take, drop, refl, sym, ap, ◌∙◌, subst, arith, append_assoc}
use Rattle.std.specs.Prelude.{All}
use Rattle.std.proofs.Math.Seq.{take-append_seam, drop-append_seam}
use Rattle.std.proofs.lemmas.List.{append-nil, length-append, length-drop, length-take}
use Rattle.std.proofs.lemmas.List.Elements.{All-cons, All-tail, All-weaker}
use Rattle.std.proofs.lemmas.List.Kept.{AllPairs-cons}
use Rattle.lrat_model.specs.Literal.{Literal}
use Rattle.clause_store.specs.declared.index.Entry.{Entry}
use Rattle.clause_store.specs.Entries.{IsRising, AreForward, AreApart}
use Rattle.clause_store.specs.Shown.{clause_in, held_in}
use Rattle.clause_store.specs.Index.{IsWithin, IsIndex}
use Rattle.clause_store.specs.Packed.{size_of, moved, packed, literals_of}
use Rattle.clause_store.proofs.EntryLaws.{rising-tail, rising-head}

-- how many literals are held
abbrev pub room : List Entry → ℕ
room [] = 0
room (e ∷ es) = cond e.is_held (size_of e + room es) (room es)

clause_length : (arena : List Literal) (e : Entry) → IsWithin (length arena) e → length (clause_in arena e) ≡ size_of e
clause_length arena e inside = omega (arith, inside.0, inside.1, length-take (e.end - e.start) (drop e.start arena), length-drop e.start arena)

pub length-literals_of : (arena : List Literal) (es : List Entry) → All (IsWithin (length arena)) es → length (literals_of arena es) ≡ room es
length-literals_of arena [] within = refl
length-literals_of arena (e ∷ es) within =
    let rest : length (literals_of arena es) ≡ room es = length-literals_of arena es (All-tail (IsWithin (length arena)) e es within) in
    let here : length (clause_in arena e) ≡ size_of e = clause_length arena e (within zero e (omega arith)) in
    elim e.is_held as (λ b. length (cond b (clause_in arena e ++ literals_of arena es) (literals_of arena es)) ≡ cond b (size_of e + room es) (room es)) [
      | true ↦ omega (arith, here, rest, length-append (clause_in arena e) (literals_of arena es))
      | false ↦ rest
    ]

-- the clause that is moved after what comes before it
moved_clause : (before clause rest : List Literal) (e : Entry) → length clause ≡ size_of e → clause_in (before ++ (clause ++ rest)) (moved (length before) e) ≡ clause
moved_clause before clause rest e size =
    let count : length before + size_of e - length before ≡ length clause = omega (arith, size) in
    rw (count, drop-append_seam before (clause ++ rest)) (take-append_seam clause rest)

-- what is packed after some literals
pub held_in-packed : (arena before : List Literal) (es : List Entry) → All (IsWithin (length arena)) es → held_in (before ++ literals_of arena es) (packed (length before) es) ≡ held_in arena es
held_in-packed arena before [] within = refl
held_in-packed arena before (e ∷ es) within =
    let clause = clause_in arena e in
    let rest = literals_of arena es in
    let size : length clause ≡ size_of e = clause_length arena e (within zero e (omega arith)) in
    let later : All (IsWithin (length arena)) es = All-tail (IsWithin (length arena)) e es within in
    elim e.is_held as (λ b. held_in (before ++ cond b (clause ++ rest) rest) (cond b (moved (length before) e ∷ packed (length before + size_of e) es) (packed (length before) es)) ≡ cond b ((e.id, clause) ∷ held_in arena es) (held_in arena es)) [
      | true ↦
          let next : length (before ++ clause) ≡ length before + size_of e = omega (arith, size, length-append before clause) in
          ap (λ c. (e.id, c) ∷ held_in (before ++ (clause ++ rest)) (packed (length before + size_of e) es)) (moved_clause before clause rest e size)
          ∙ ap (λ h. (e.id, clause) ∷ h)
          (ap (λ xs. held_in xs (packed (length before + size_of e) es)) (sym (append_assoc before clause rest))
          ∙ ap (λ n. held_in ((before ++ clause) ++ rest) (packed n es)) (sym next)
          ∙ held_in-packed arena (before ++ clause) es later)
      | false ↦ held_in-packed arena before es later
    ]

-- what holds of the ids holds of them still
packed_ids : (P : ℕ → Type 0) (free : ℕ) (es : List Entry) → All (λ e. P e.id) es → All (λ e. P e.id) (packed free es)
packed_ids P free [] all = all
packed_ids P free (e ∷ es) all =
    let later : All (λ f. P f.id) es = All-tail (λ f. P f.id) e es all in
    elim e.is_held as (λ b. All (λ f. P f.id) (cond b (moved free e ∷ packed (free + size_of e) es) (packed free es))) [
      | true ↦ All-cons (λ f. P f.id) (moved free e) (packed (free + size_of e) es) (all zero e (omega arith)) (packed_ids P (free + size_of e) es later)
      | false ↦ packed_ids P free es later
    ]

packed_from : (free : ℕ) (es : List Entry) → All (λ e. free ≤ e.start) (packed free es)
packed_from free [] = λ k d within. absurd (omega arith)
packed_from free (e ∷ es) =
    elim e.is_held as (λ b. All (λ f. free ≤ f.start) (cond b (moved free e ∷ packed (free + size_of e) es) (packed free es))) [
      | true ↦ All-cons (λ f. free ≤ f.start) (moved free e) (packed (free + size_of e) es) (omega arith)
          (All-weaker (λ f. free + size_of e ≤ f.start) (λ f. free ≤ f.start) (λ f above. omega (arith, above)) (packed (free + size_of e) es) (packed_from (free + size_of e) es))
      | false ↦ packed_from free es
    ]

packed_within : (free : ℕ) (es : List Entry) → All (IsWithin (free + room es)) (packed free es)
packed_within free [] = λ k d within. absurd (omega arith)
packed_within free (e ∷ es) =
    elim e.is_held as (λ b. All (IsWithin (free + cond b (size_of e + room es) (room es))) (cond b (moved free e ∷ packed (free + size_of e) es) (packed free es))) [
      | true ↦ All-cons (IsWithin (free + (size_of e + room es))) (moved free e) (packed (free + size_of e) es) (omega arith, omega arith)
          (All-weaker (IsWithin (free + size_of e + room es)) (IsWithin (free + (size_of e + room es))) (λ f inside. (inside.0, omega (arith, inside.1))) (packed (free + size_of e) es) (packed_within (free + size_of e) es))
      | false ↦ packed_within free es
    ]

packed_rising : (free : ℕ) (es : List Entry) → IsRising es → IsRising (packed free es)
packed_rising free [] up = up
packed_rising free (e ∷ es) up =
    elim e.is_held as (λ b. IsRising (cond b (moved free e ∷ packed (free + size_of e) es) (packed free es))) [
      | true ↦ AllPairs-cons (λ f g. f.id < g.id) (moved free e) (packed (free + size_of e) es) (packed_ids (λ k. e.id < k) (free + size_of e) es (rising-head e es up)) (packed_rising (free + size_of e) es (rising-tail e es up))
      | false ↦ packed_rising free es (rising-tail e es up)
    ]

packed_apart : (free : ℕ) (es : List Entry) → AreApart (packed free es)
packed_apart free [] = λ i j d lt within. absurd (omega arith)
packed_apart free (e ∷ es) =
    elim e.is_held as (λ b. AreApart (cond b (moved free e ∷ packed (free + size_of e) es) (packed free es))) [
      | true ↦ AllPairs-cons (λ f g. f.end ≤ g.start) (moved free e) (packed (free + size_of e) es) (packed_from (free + size_of e) es) (packed_apart (free + size_of e) es)
      | false ↦ packed_apart free es
    ]

pub index-packed : (arena : List Literal) (es : List Entry) (last : ℕ) → IsIndex (length arena) es last → IsIndex (length (literals_of arena es)) (packed 0 es) last
index-packed arena es last index = record {
  within = (let size : 0 + room es ≡ length (literals_of arena es) = omega (arith, length-literals_of arena es index.within) in subst (λ n. All (IsWithin n) (packed 0 es)) size (packed_within 0 es));
  apart = packed_apart 0 es;
  rising = packed_rising 0 es index.rising;
  bounded = packed_ids (λ k. k ≤ last) 0 es index.bounded;
  positive = packed_ids (λ k. 0 < k) 0 es index.positive;
}

-- one entry more
pub room-push : (es : List Entry) (e : Entry) → room (es ++ e ∷ []) ≡ room es + cond e.is_held (size_of e) 0
room-push [] e = elim e.is_held as (λ b. cond b (size_of e + 0) 0 ≡ 0 + cond b (size_of e) 0) [ true ↦ omega arith | false ↦ refl ]
room-push (f ∷ es) e =
    let rest = room-push es e in
    elim f.is_held as (λ b. cond b (size_of f + room (es ++ e ∷ [])) (room (es ++ e ∷ [])) ≡ cond b (size_of f + room es) (room es) + cond e.is_held (size_of e) 0) [
      | true ↦ omega (arith, rest)
      | false ↦ rest
    ]

pub packed-push : (free : ℕ) (es : List Entry) (e : Entry) → packed free (es ++ e ∷ []) ≡ packed free es ++ cond e.is_held (moved (free + room es) e ∷ []) []
packed-push free [] e = ap (λ n. cond e.is_held (moved n e ∷ []) []) (omega arith)
packed-push free (f ∷ es) e =
    elim f.is_held as (λ b. cond b (moved free f ∷ packed (free + size_of f) (es ++ e ∷ [])) (packed free (es ++ e ∷ [])) ≡ cond b (moved free f ∷ packed (free + size_of f) es) (packed free es) ++ cond e.is_held (moved (free + cond b (size_of f + room es) (room es)) e ∷ []) []) [
      | true ↦ let sum : free + size_of f + room es ≡ free + (size_of f + room es) = omega arith in
          ap (λ rest. moved free f ∷ rest) (packed-push (free + size_of f) es e ∙ ap (λ n. packed (free + size_of f) es ++ cond e.is_held (moved n e ∷ []) []) sum)
      | false ↦ packed-push free es e
    ]

pub literals_of-push : (arena : List Literal) (es : List Entry) (e : Entry) → literals_of arena (es ++ e ∷ []) ≡ literals_of arena es ++ cond e.is_held (clause_in arena e) []
literals_of-push arena [] e = elim e.is_held as (λ b. cond b (clause_in arena e ++ []) [] ≡ cond b (clause_in arena e) []) [ true ↦ append-nil (clause_in arena e) | false ↦ refl ]
literals_of-push arena (f ∷ es) e =
    let rest = literals_of-push arena es e in
    elim f.is_held as (λ b. cond b (clause_in arena f ++ literals_of arena (es ++ e ∷ [])) (literals_of arena (es ++ e ∷ [])) ≡ cond b (clause_in arena f ++ literals_of arena es) (literals_of arena es) ++ cond e.is_held (clause_in arena e) []) [
      | true ↦ ap (λ xs. clause_in arena f ++ xs) rest ∙ sym (append_assoc (clause_in arena f) (literals_of arena es) (cond e.is_held (clause_in arena e) []))
      | false ↦ rest
    ]

-- what is held before an entry has room before it
pub room_before : (low : ℕ) (es : List Entry) (i : ℕ) (d : Entry) → AreForward es → AreApart es → All (λ e. low ≤ e.start) es → i < length es → low + room (take i es) ≤ (get_or es i d).start
room_before low [] i d forward apart from within = absurd (omega arith)
room_before low (e ∷ es) zero d forward apart from within = omega (arith, from zero e (omega arith))
room_before low (e ∷ es) (suc i) d forward apart from within =
    let later_forward : AreForward es = All-tail (λ f. f.start ≤ f.end) e es forward in
    let later_apart : AreApart es = λ j k c lt inside. apart (suc j) (suc k) c (omega arith) (omega arith) in
    elim e.is_held as (λ b. low + cond b (size_of e + room (take i es)) (room (take i es)) ≤ (get_or es i d).start) [
      | true ↦
          let here : low ≤ e.start = from zero e (omega arith) in
          let own : e.start ≤ e.end = forward zero e (omega arith) in
          let above : All (λ f. low + size_of e ≤ f.start) es = λ k c inside. (let behind : e.end ≤ (get_or es k c).start = apart zero (suc k) c (omega arith) (omega arith) in omega (arith, here, own, behind)) in
          omega (arith, room_before (low + size_of e) es i d later_forward later_apart above (omega arith))
      | false ↦ room_before low es i d later_forward later_apart (All-tail (λ f. low ≤ f.start) e es from) (omega arith)
    ]
