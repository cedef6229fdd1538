-- What a store shows after its index is written, and where an id is looked up.
use Rattle.std.proofs.Common.{◌≡◌, ◌≢◌, ℕ, ◌<◌, ◌-◌, ◌+◌, Bool, true, false, cond, List, ◌∷◌, ◌++◌, length, get_or, take, drop, sym, ap, ◌∙◌, subst, Some, None, Result, Ok, Err, OnOk, OnErr}
use Rattle.std.specs.Prelude.{All}
use Rattle.std.proofs.lemmas.List.{take_rest, drop_more}
use Rattle.lrat_model.specs.Literal.{Literal}
use Rattle.lrat_model.specs.Clauses.{Held, clause_at, without}
use Rattle.clause_store.specs.declared.index.Entry.{Entry}
use Rattle.clause_store.specs.Entries.{IsRising, marked}
use Rattle.clause_store.specs.Shown.{clause_in, held_in}
use Rattle.clause_store.specs.Index.{IsIndex}
use Rattle.clause_store.specs.Nearest.{IsFirstAbove}
use Rattle.clause_store.proofs.EntryLaws.{length-marked, written, rising-drop}
use Rattle.clause_store.proofs.ArenaLaws.{clause_at-none, clause_at-at, held_in-marked, index-marked, first_above_at}

pub on_ok : {A E : Type 0} (r : Result A E) (P Q : Type 0) → OnOk r P → (P → Q) → OnOk r Q
on_ok (Ok x) P Q p f = f p
on_ok (Err e) P Q p f = tt

pub either : {A E : Type 0} (r : Result A E) (P Q R : Type 0) → OnOk r P → OnErr r Q → (P → R) → (Q → R) → R
either (Ok x) P Q R p q f g = f p
either (Err e) P Q R p q f g = g q

-- entries that are marked and written back
module _ (arena : List Literal) (es slice ws : List Entry) (len : ℕ) (ids : List ℕ) (b : Bool) (length_is : len ≡ length es) (slice_is : slice ≡ es) (ws_is : ws ≡ marked slice ids b) where
  pub written_is : take len (ws ++ drop (length ws) es) ≡ marked es ids b
  written_is =
      let now : ws ≡ marked es ids b = ws_is ∙ ap (λ xs. marked xs ids b) slice_is in
      written len ws es (ap length now ∙ length-marked es ids b ∙ sym length_is) (sym length_is) ∙ now

  pub index_written : (size last : ℕ) → IsIndex size es last → IsIndex size (take len (ws ++ drop (length ws) es)) last
  index_written size last index = subst (λ xs. IsIndex size xs last) (sym written_is) (index-marked size es last ids b index)

pub held_written : (arena : List Literal) (es slice ws : List Entry) (len : ℕ) (ids : List ℕ) (held : Held) → len ≡ length es → slice ≡ es → ws ≡ marked slice ids false → held_in arena es ≡ held
    → held_in arena (take len (ws ++ drop (length ws) es)) ≡ without held ids
held_written arena es slice ws len ids held length_is slice_is ws_is shows =
    ap (held_in arena) (written_is arena es slice ws len ids false length_is slice_is ws_is) ∙ held_in-marked arena es ids ∙ ap (λ h. without h ids) shows

pub written_same : (es slice ws : List Entry) (len : ℕ) → len ≡ length es → slice ≡ es → ws ≡ slice → take len (ws ++ drop (length ws) es) ≡ es
written_same es slice ws len length_is slice_is ws_is =
    let now : ws ≡ es = ws_is ∙ slice_is in
    written len ws es (ap length now ∙ sym length_is) (sym length_is) ∙ now

-- what is found under an id
module _ (arena : List Literal) (es slice : List Entry) (held : Held) (id : ℕ) (slice_is : slice ≡ es) (shows : held_in arena es ≡ held) where
  pub found_none : All (λ e. e.id ≢ id) slice → clause_at held id ≡ None
  found_none none = ap (λ h. clause_at h id) (sym shows) ∙ clause_at-none arena es id (subst (λ xs. All (λ e. e.id ≢ id) xs) slice_is none)

  pub found_at : IsRising es → (place : ℕ) (d : Entry) → place < length slice → (get_or slice place d).id ≡ id → clause_at held id ≡ cond (get_or es place d).is_held (Some (clause_in arena (get_or es place d))) None
  found_at up place d within is =
      ap (λ h. clause_at h id) (sym shows)
      ∙ clause_at-at arena es place d id up (subst (λ xs. place < length xs) slice_is within) (subst (λ xs. (get_or xs place d).id ≡ id) slice_is is)

pub rest_is : (es slice : List Entry) (start : ℕ) → slice ≡ es → take (length slice - start) (drop start slice) ≡ drop start es
rest_is es slice start slice_is = take_rest slice start ∙ ap (drop start) slice_is

-- the first entry of what is left is held
pub first_held : (held : Held) (arena lent : List Literal) (items : List Entry) (i : ℕ) (d : Entry) (id : ℕ) → lent ≡ arena → IsRising items → All (λ e. id < e.id) items → i < length items
    → ((k : ℕ) → id < k → clause_at held k ≡ clause_at (held_in arena (drop i items)) k) → (get_or items i d).is_held ≡ true → IsFirstAbove held id (get_or items i d).id (clause_in lent (get_or items i d))
first_held held arena lent items i d id lent_is up above within alike is_held =
    let left : drop i items ≡ get_or items i d ∷ drop (i + 1) items = drop_more items i d within in
    subst (λ xs. IsFirstAbove held id (get_or items i d).id (clause_in xs (get_or items i d))) (sym lent_is)
    (first_above_at held arena (get_or items i d) (drop (i + 1) items) id (subst (λ xs. IsRising xs) left (rising-drop i items up)) is_held (above i d within)
    (λ k high. alike k high ∙ ap (λ xs. clause_at (held_in arena xs) k) left))
