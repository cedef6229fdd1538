-- Entries under rising ids: where an id stands, and what marking changes.
use Rattle.std.proofs.Common.{◌≡◌, ◌≢◌, ℕ, zero, suc, ◌<◌, ◌≤◌, ◌+◌, Bool, true, false, not, ◌&&◌, ◌||◌, cond, List, [], ◌∷◌, ◌++◌, length, get_or, set, take, drop, refl, sym, ap, ◌∙◌, subst, arith, ⊎_elim}
use Rattle.std.specs.Prelude.{◌==◌, All}
use Rattle.std.specs.List.{AllWithin}
use Rattle.std.specs.List.Sorted.{IsNonDecreasingBy}
use Rattle.std.proofs.lemmas.Bool.{eq-eqb, eqb-true, ne_eqb, cases_eq, false≢true, or_cases, or_parts, and_parts}
use Rattle.std.proofs.lemmas.Bool.Decides.{nat_tests}
use Rattle.std.proofs.lemmas.List.{take_more, take_all, drop_all, append-nil, get_or-drop, length-drop}
use Rattle.std.proofs.lemmas.List.Elements.{All-tail}
use Rattle.lrat_model.specs.Clauses.{has_id}
use Rattle.clause_store.specs.declared.index.Entry.{Entry}
use Rattle.clause_store.specs.Entries.{IsRising, AreForward, AreApart, is_held_in, marked}

pub rising-tail : (e : Entry) (es : List Entry) → IsRising (e ∷ es) → IsRising es
rising-tail e es up = λ i j d lt within. up (suc i) (suc j) d (omega arith) (omega arith)

pub rising-head : (e : Entry) (es : List Entry) → IsRising (e ∷ es) → All (λ f. e.id < f.id) es
rising-head e es up = λ k d within. up zero (suc k) d (omega arith) (omega arith)

pub non_decreasing : (es : List Entry) → IsRising es → IsNonDecreasingBy (λ e. e.id) es
non_decreasing es up = λ i j d le within.
    ⊎_elim (λ same. (let is : (get_or es i d).id ≡ (get_or es j d).id = ap (λ k. (get_or es k d).id) same in omega (arith, is)))
    (λ differ. (let lt : i < j = omega arith in let rises : (get_or es i d).id < (get_or es j d).id = up i j d lt within in omega (arith, rises))) (cases_eq i j)

-- no entry has an id that all are above
pub above_differ : (id : ℕ) (es : List Entry) → All (λ f. id < f.id) es → All (λ f. f.id ≢ id) es
above_differ id es above = λ k d within same. (let lt : id < (get_or es k d).id = above k d within in absurd (omega (arith, lt, same)))

-- an id that no entry has
pub held-none : (es : List Entry) (id : ℕ) → All (λ e. e.id ≢ id) es → is_held_in es id ≡ false
held-none [] id none = refl
held-none (e ∷ es) id none =
    let differs : (e.id == id) ≡ false = ne_eqb e.id id (none zero e (omega arith)) in
    ap (λ b. (b && e.is_held) || is_held_in es id) differs ∙ held-none es id (All-tail (λ f. f.id ≢ id) e es none)

has-single : (id k : ℕ) → has_id (id ∷ []) k ≡ (id == k)
has-single id k = grind (arith, nat_tests)

pub marked-none : (es : List Entry) (id : ℕ) (b : Bool) → All (λ e. e.id ≢ id) es → marked es (id ∷ []) b ≡ es
marked-none [] id b none = refl
marked-none (e ∷ es) id b none =
    let differs : has_id (id ∷ []) e.id ≡ false = has-single id e.id ∙ ne_eqb id e.id (λ same. none zero e (omega arith) (sym same)) in
    ap (λ t. (cond t (record e { is_held = b }) e) ∷ marked es (id ∷ []) b) differs ∙ ap (λ rest. e ∷ rest) (marked-none es id b (All-tail (λ f. f.id ≢ id) e es none))

-- the place of an id
pub held-at : (es : List Entry) (place : ℕ) (d : Entry) (id : ℕ) → IsRising es → place < length es → (get_or es place d).id ≡ id → is_held_in es id ≡ (get_or es place d).is_held
held-at [] place d id up within is = absurd (omega arith)
held-at (e ∷ es) zero d id up within is =
    let rest : is_held_in es id ≡ false = held-none es id (above_differ id es (subst (λ k. All (λ f. k < f.id) es) is (rising-head e es up))) in
    let same : (e.id == id) ≡ true = eq-eqb e.id id is in
    ap (λ b. (b && e.is_held) || is_held_in es id) same ∙ ap (λ b. e.is_held || b) rest ∙ elim e.is_held as (λ b. (b || false) ≡ b) [ true ↦ refl | false ↦ refl ]
held-at (e ∷ es) (suc place) d id up within is =
    let below : e.id < (get_or es place d).id = up zero (suc place) d (omega arith) within in
    let differs : (e.id == id) ≡ false = ne_eqb e.id id (λ same. absurd (omega (arith, below, same, is))) in
    ap (λ b. (b && e.is_held) || is_held_in es id) differs ∙ held-at es place d id (rising-tail e es up) (omega arith) is

pub marked-at : (es : List Entry) (place : ℕ) (d : Entry) (id : ℕ) (b : Bool) → IsRising es → place < length es → (get_or es place d).id ≡ id → marked es (id ∷ []) b ≡ set es place (record (get_or es place d) { is_held = b })
marked-at [] place d id b up within is = absurd (omega arith)
marked-at (e ∷ es) zero d id b up within is =
    let rest : marked es (id ∷ []) b ≡ es = marked-none es id b (above_differ id es (subst (λ k. All (λ f. k < f.id) es) is (rising-head e es up))) in
    let same : has_id (id ∷ []) e.id ≡ true = has-single id e.id ∙ eq-eqb id e.id (sym is) in
    ap (λ t. (cond t (record e { is_held = b }) e) ∷ marked es (id ∷ []) b) same ∙ ap (λ es'. record e { is_held = b } ∷ es') rest
marked-at (e ∷ es) (suc place) d id b up within is =
    let below : e.id < (get_or es place d).id = up zero (suc place) d (omega arith) within in
    let differs : has_id (id ∷ []) e.id ≡ false = has-single id e.id ∙ ne_eqb id e.id (λ same. absurd (omega (arith, below, same, is))) in
    ap (λ t. (cond t (record e { is_held = b }) e) ∷ marked es (id ∷ []) b) differs ∙ ap (λ es'. e ∷ es') (marked-at es place d id b (rising-tail e es up) (omega arith) is)

-- marking keeps ids and ranges
pub length-marked : (es : List Entry) (ids : List ℕ) (b : Bool) → length (marked es ids b) ≡ length es
length-marked [] ids b = refl
length-marked (e ∷ es) ids b = ap suc (length-marked es ids b)

-- the same id and range
abbrev pub SamePlace : Entry → Entry → Type 0
SamePlace e f = (e.id ≡ f.id) × (e.start ≡ f.start) × (e.end ≡ f.end)

pub marked-keeps : (es : List Entry) (ids : List ℕ) (b : Bool) (k : ℕ) (d : Entry) → SamePlace (get_or (marked es ids b) k d) (get_or es k d)
marked-keeps [] ids b k d = (refl, refl, refl)
marked-keeps (e ∷ es) ids b zero d = elim (has_id ids e.id) as (λ t. SamePlace (cond t (record e { is_held = b }) e) e) [ true ↦ (refl, refl, refl) | false ↦ (refl, refl, refl) ]
marked-keeps (e ∷ es) ids b (suc k) d = marked-keeps es ids b k d

pub marked-rising : (es : List Entry) (ids : List ℕ) (b : Bool) → IsRising es → IsRising (marked es ids b)
marked-rising es ids b up = λ i j d lt within.
    let low = (marked-keeps es ids b i d).0 in
    let high = (marked-keeps es ids b j d).0 in
    let inside : j < length es = omega (arith, within, length-marked es ids b) in
    let rises : (get_or es i d).id < (get_or es j d).id = up i j d lt inside in
    omega (arith, rises, low, high)

pub marked-forward : (es : List Entry) (ids : List ℕ) (b : Bool) → AreForward es → AreForward (marked es ids b)
marked-forward es ids b forward = λ k d within.
    let keeps : SamePlace (get_or (marked es ids b) k d) (get_or es k d) = marked-keeps es ids b k d in
    let own : (get_or es k d).start ≤ (get_or es k d).end = forward k d (omega (arith, within, length-marked es ids b)) in
    omega (arith, keeps.1, keeps.2, own)

pub marked-apart : (es : List Entry) (ids : List ℕ) (b : Bool) → AreApart es → AreApart (marked es ids b)
marked-apart es ids b apart = λ i j d lt within.
    let low : SamePlace (get_or (marked es ids b) i d) (get_or es i d) = marked-keeps es ids b i d in
    let high : SamePlace (get_or (marked es ids b) j d) (get_or es j d) = marked-keeps es ids b j d in
    let behind : (get_or es i d).end ≤ (get_or es j d).start = apart i j d lt (omega (arith, within, length-marked es ids b)) in
    omega (arith, behind, low.2, high.1)

-- where no id is named
pub marked-nothing : (es : List Entry) (b : Bool) → marked es [] b ≡ es
marked-nothing [] b = refl
marked-nothing (e ∷ es) b = ap (λ rest. e ∷ rest) (marked-nothing es b)

-- marking once more
has-append : (xs ys : List ℕ) (k : ℕ) → has_id (xs ++ ys) k ≡ (has_id xs k || has_id ys k)
has-append [] ys k = refl
has-append (x ∷ xs) ys k = elim (x == k) as (λ t. (t || has_id (xs ++ ys) k) ≡ ((t || has_id xs k) || has_id ys k)) [ true ↦ refl | false ↦ has-append xs ys k ]

twice : (e : Entry) (b s t : Bool) → cond t (record (cond s (record e { is_held = b }) e) { is_held = b }) (cond s (record e { is_held = b }) e) ≡ cond (s || t) (record e { is_held = b }) e
twice e b true true = refl
twice e b true false = refl
twice e b false true = refl
twice e b false false = refl

kept_id : (e : Entry) (b s : Bool) → (cond s (record e { is_held = b }) e).id ≡ e.id
kept_id e b true = refl
kept_id e b false = refl

pub marked-more : (es : List Entry) (xs ys : List ℕ) (b : Bool) → marked (marked es xs b) ys b ≡ marked es (xs ++ ys) b
marked-more [] xs ys b = refl
marked-more (e ∷ es) xs ys b =
    let once : Entry = cond (has_id xs e.id) (record e { is_held = b }) e in
    ap (λ k. cond (has_id ys k) (record once { is_held = b }) once ∷ marked (marked es xs b) ys b) (kept_id e b (has_id xs e.id))
    ∙ ap (λ f. f ∷ marked (marked es xs b) ys b) (twice e b (has_id xs e.id) (has_id ys e.id) ∙ ap (λ t. cond t (record e { is_held = b }) e) (sym (has-append xs ys e.id)))
    ∙ ap (λ rest. cond (has_id (xs ++ ys) e.id) (record e { is_held = b }) e ∷ rest) (marked-more es xs ys b)

-- what is held where some ids are marked as held no more
one_held : (e : Entry) (ids : List ℕ) (id : ℕ) → (((cond (has_id ids e.id) (record e { is_held = false }) e).id == id) && (cond (has_id ids e.id) (record e { is_held = false }) e).is_held) ≡ (((e.id == id) && e.is_held) && not (has_id ids id))
one_held e ids id =
    ⊎_elim (λ same. (let now : has_id ids e.id ≡ has_id ids id = ap (has_id ids) same in let is : (e.id == id) ≡ true = eq-eqb e.id id same in grind arith))
    (λ differ. (let isnt : (e.id == id) ≡ false = ne_eqb e.id id differ in grind arith)) (cases_eq e.id id)

spread : (a b c : Bool) → ((a && c) || (b && c)) ≡ ((a || b) && c)
spread true true true = refl
spread true true false = refl
spread true false true = refl
spread true false false = refl
spread false true true = refl
spread false true false = refl
spread false false true = refl
spread false false false = refl

pub held-marked : (es : List Entry) (ids : List ℕ) (id : ℕ) → is_held_in (marked es ids false) id ≡ (is_held_in es id && not (has_id ids id))
held-marked [] ids id = refl
held-marked (e ∷ es) ids id =
    let first = one_held e ids id in
    let rest = held-marked es ids id in
    ap (λ b. b || is_held_in (marked es ids false) id) first
    ∙ ap (λ b. (((e.id == id) && e.is_held) && not (has_id ids id)) || b) rest
    ∙ spread ((e.id == id) && e.is_held) (is_held_in es id) (not (has_id ids id))

-- the entries of these ids are held
abbrev pub AreHeld : List Entry → List ℕ → Type 0
AreHeld [] ids = Unit {0}
AreHeld (e ∷ es) ids = (has_id ids e.id ≡ true → e.is_held ≡ true) × AreHeld es ids

pub AreHeld-none : (es : List Entry) → AreHeld es []
AreHeld-none [] = tt
AreHeld-none (e ∷ es) = (λ h. absurd (false≢true h), AreHeld-none es)

AreHeld-differ : (es : List Entry) (id : ℕ) → All (λ e. e.id ≢ id) es → AreHeld es (id ∷ [])
AreHeld-differ [] id none = tt
AreHeld-differ (e ∷ es) id none = (
  λ h. absurd (none zero e (omega arith) (sym (eqb-true id e.id (sym (has-single id e.id) ∙ h)))),
  AreHeld-differ es id (All-tail (λ f. f.id ≢ id) e es none),
)

pub AreHeld-single : (es : List Entry) (id : ℕ) → IsRising es → is_held_in es id ≡ true → AreHeld es (id ∷ [])
AreHeld-single [] id up held = tt
AreHeld-single (e ∷ es) id up held =
    ⊎_elim (λ same.
    let differ : All (λ f. f.id ≢ id) es = above_differ id es (subst (λ k. All (λ f. k < f.id) es) same (rising-head e es up)) in
    let rest : is_held_in es id ≡ false = held-none es id differ in
    let is : (e.id == id) ≡ true = eq-eqb e.id id same in
    let now : (((e.id == id) && e.is_held) || is_held_in es id) ≡ true = held in
    let here : e.is_held ≡ true = grind arith in
    (λ _. here, AreHeld-differ es id differ))
    (λ differ.
    let isnt : (e.id == id) ≡ false = ne_eqb e.id id differ in
    let now : (((e.id == id) && e.is_held) || is_held_in es id) ≡ true = held in
    let rest : is_held_in es id ≡ true = grind arith in
    (λ h. absurd (differ (sym (eqb-true id e.id (sym (has-single id e.id) ∙ h)))), AreHeld-single es id (rising-tail e es up) rest)) (cases_eq e.id id)

pub AreHeld-append : (es : List Entry) (xs ys : List ℕ) → AreHeld es xs → AreHeld es ys → AreHeld es (xs ++ ys)
AreHeld-append [] xs ys these those = tt
AreHeld-append (e ∷ es) xs ys these those = (
  λ h. ⊎_elim these.0 those.0 (or_cases (has_id xs e.id) (has_id ys e.id) (sym (has-append xs ys e.id) ∙ h)),
  AreHeld-append es xs ys these.1 those.1,
)

-- what is marked as held no more and then as held again is as it was
one_back : (e : Entry) (t : Bool) → (t ≡ true → e.is_held ≡ true) → cond t (record (cond t (record e { is_held = false }) e) { is_held = true }) (cond t (record e { is_held = false }) e) ≡ e
one_back e true held = ap (λ b. record e { is_held = b }) (sym (held refl))
one_back e false held = refl

pub marked-back : (es : List Entry) (ids : List ℕ) → AreHeld es ids → marked (marked es ids false) ids true ≡ es
marked-back [] ids held = refl
marked-back (e ∷ es) ids held =
    let once : Entry = cond (has_id ids e.id) (record e { is_held = false }) e in
    ap (λ k. cond (has_id ids k) (record once { is_held = true }) once ∷ marked (marked es ids false) ids true) (kept_id e false (has_id ids e.id))
    ∙ ap (λ f. f ∷ marked (marked es ids false) ids true) (one_back e (has_id ids e.id) held.0)
    ∙ ap (λ rest. e ∷ rest) (marked-back es ids held.1)

-- one more id of a list is marked
pub marked-step : (start now new : List Entry) (ids : List ℕ) (i : ℕ) (b : Bool) → i < length ids → now ≡ marked start (take i ids) b → new ≡ marked now (get_or ids i 0 ∷ []) b → new ≡ marked start (take (i + 1) ids) b
marked-step start now new ids i b within so_far one =
    one ∙ ap (λ es. marked es (get_or ids i 0 ∷ []) b) so_far ∙ marked-more start (take i ids) (get_or ids i 0 ∷ []) b ∙ ap (λ ks. marked start ks b) (sym (take_more ids i 0 within))

-- a slice that is written back whole
pub written : (len : ℕ) (ws xs : List Entry) → length ws ≡ len → length xs ≡ len → take len (ws ++ drop (length ws) xs) ≡ ws
written len ws xs same_ws same_xs =
    let none : drop (length ws) xs ≡ [] = drop_all (length ws) xs (omega (arith, same_ws, same_xs)) in
    rw (none, append-nil) (take_all len ws (omega (arith, same_ws)))

-- an id that is not held: nothing changes where it is marked so
marked-idle : (e : Entry) (id : ℕ) → ((e.id == id) && e.is_held) ≡ false → cond (has_id (id ∷ []) e.id) (record e { is_held = false }) e ≡ e
marked-idle e id idle =
    elim (has_id (id ∷ []) e.id) as (λ t. has_id (id ∷ []) e.id ≡ t → cond t (record e { is_held = false }) e ≡ e) [
      | true ↦ λ named.
          let is : (e.id == id) ≡ true = eq-eqb e.id id (sym (eqb-true id e.id (sym (has-single id e.id) ∙ named))) in
          let off : e.is_held ≡ false = grind arith in
          ap (λ b. record e { is_held = b }) (sym off)
      | false ↦ λ _. refl
    ] refl

pub marked-not_held : (es : List Entry) (id : ℕ) → is_held_in es id ≡ false → marked es (id ∷ []) false ≡ es
marked-not_held [] id off = refl
marked-not_held (e ∷ es) id off =
    let parts : (((e.id == id) && e.is_held) ≡ false) × (is_held_in es id ≡ false) = or_parts ((e.id == id) && e.is_held) (is_held_in es id) off in
    ap (λ f. f ∷ marked es (id ∷ []) false) (marked-idle e id parts.0) ∙ ap (λ rest. e ∷ rest) (marked-not_held es id parts.1)

-- one more id of a list is held, from the start on
pub AreHeld-step : (start now : List Entry) (ids : List ℕ) (i : ℕ) → i < length ids → IsRising start → now ≡ marked start (take i ids) false → AreHeld start (take i ids) → is_held_in now (get_or ids i 0) ≡ true → AreHeld start (take (i + 1) ids)
AreHeld-step start now ids i within up so_far held was =
    let both : (is_held_in start (get_or ids i 0) && not (has_id (take i ids) (get_or ids i 0))) ≡ true = sym (held-marked start (take i ids) (get_or ids i 0)) ∙ ap (λ es. is_held_in es (get_or ids i 0)) (sym so_far) ∙ was in
    let here : is_held_in start (get_or ids i 0) ≡ true = (and_parts _ _ both).0 in
    subst (λ ks. AreHeld start ks) (sym (take_more ids i 0 within)) (AreHeld-append start (take i ids) (get_or ids i 0 ∷ []) held (AreHeld-single start (get_or ids i 0) up here))

-- back to the start
pub back_to_start : (start now new back : List Entry) (ids : List ℕ) (id : ℕ) → now ≡ marked start ids false → is_held_in now id ≡ false → new ≡ marked now (id ∷ []) false → back ≡ marked new ids true → AreHeld start ids → back ≡ start
back_to_start start now new back ids id so_far off one again held =
    again ∙ ap (λ es. marked es ids true) (one ∙ marked-not_held now id off ∙ so_far) ∙ marked-back start ids held

-- entries from a place on
pub rising-drop : (start : ℕ) (es : List Entry) → IsRising es → IsRising (drop start es)
rising-drop start es up = λ i j d lt within.
    let rises : (get_or es (start + i) d).id < (get_or es (start + j) d).id = up (start + i) (start + j) d (omega arith) (omega (arith, within, length-drop start es)) in
    rw (get_or-drop start es i d, get_or-drop start es j d) rises

pub above-drop : (start id : ℕ) (es : List Entry) → AllWithin (λ e. id < e.id) es start (length es) → All (λ e. id < e.id) (drop start es)
above-drop start id es above = λ k d within.
    rw (get_or-drop start es k d) (above (start + k) d (omega arith) (omega (arith, within, length-drop start es)))

-- entries up to the place of an id, and past it
module _ (es : List Entry) (id place : ℕ) (up : IsRising es) (within : place < length es) (is : (d : Entry) → (get_or es place d).id ≡ id) where
  pub up_to : AllWithin (λ e. e.id ≤ id) es 0 (place + 1)
  up_to = λ k d low high. (let below : (get_or es k d).id ≤ (get_or es place d).id = non_decreasing es up k place d (omega arith) within in omega (arith, below, is d))

  pub past : AllWithin (λ e. id < e.id) es (place + 1) (length es)
  past = λ k d low high. (let above : (get_or es place d).id < (get_or es k d).id = up place k d (omega arith) high in omega (arith, above, is d))
