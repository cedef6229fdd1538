-- What is held moves to the front, one entry after another.
use Rattle.std.proofs.Common.{◌≡◌, ℕ, ◌<◌, ◌≤◌, ◌+◌, ◌-◌, Bool, true, false, cond, List, [], ◌∷◌, ◌++◌, length, get_or, set, take, drop, refl, sym, ap, ◌∙◌, subst, arith, drop-drop, get_or-drop}
use Rattle.std.specs.Prelude.{All}
use Rattle.std.specs.List.{copy_within}
use Rattle.std.proofs.lemmas.List.{take_more, take_more_set, drop-set-lt, length-drop, append-nil}
use Rattle.std.proofs.lemmas.List.Edits.{take-paste, drop-paste, length-paste}
use Rattle.lrat_model.specs.Literal.{Literal}
use Rattle.clause_store.specs.declared.index.Entry.{Entry}
use Rattle.clause_store.specs.Entries.{AreForward, AreApart}
use Rattle.clause_store.specs.Shown.{clause_in}
use Rattle.clause_store.specs.Index.{IsWithin}
use Rattle.clause_store.specs.Packed.{size_of, moved, packed, literals_of}
use Rattle.clause_store.proofs.PackedLaws.{room, room-push, packed-push, literals_of-push, room_before}

-- what is the same from one place on is so from a later one
drop_later : {A : Type 0} (xs ys : List A) (a b : ℕ) → drop a xs ≡ drop a ys → a ≤ b → drop b xs ≡ drop b ys
drop_later xs ys a b same le =
    let apart : b ≡ a + (b - a) = omega arith in
    rw apart (sym (drop-drop (b - a) a xs) ∙ ap (drop (b - a)) same ∙ drop-drop (b - a) a ys)

-- the entry at hand
module _ (start now : List Entry) (i : ℕ) (d : Entry) (low : i < length now) (count : length now ≡ length start) (left : drop i now ≡ drop i start) where
  pub entry_is : get_or now i d ≡ get_or start i d
  entry_is =
      let here : i ≡ i + 0 = omega arith in
      ap (λ k. get_or now k d) here ∙ sym (get_or-drop i now 0 d) ∙ ap (λ es. get_or es 0 d) left ∙ get_or-drop i start 0 d ∙ ap (λ k. get_or start k d) (sym here)

  pub left_more : drop (i + 1) now ≡ drop (i + 1) start
  left_more = drop_later now start i (i + 1) left (omega arith)

  done_more : take (i + 1) start ≡ take i start ++ get_or now i d ∷ []
  done_more = take_more start i d (omega (arith, low, count)) ∙ ap (λ e. take i start ++ e ∷ []) (sym entry_is)

  pub room_more : (b : Bool) → (get_or now i d).is_held ≡ b → room (take (i + 1) start) ≡ room (take i start) + cond b (size_of (get_or now i d)) 0
  room_more b is = ap room done_more ∙ room-push (take i start) (get_or now i d) ∙ ap (λ t. room (take i start) + cond t (size_of (get_or now i d)) 0) is

  pub packed_more : (b : Bool) (free : ℕ) → (get_or now i d).is_held ≡ b → free ≡ room (take i start) → packed 0 (take (i + 1) start) ≡ packed 0 (take i start) ++ cond b (moved free (get_or now i d) ∷ []) []
  packed_more b free is at =
      let place : 0 + room (take i start) ≡ free = omega (arith, at) in
      ap (packed 0) done_more ∙ packed-push 0 (take i start) (get_or now i d)
      ∙ ap (λ t. packed 0 (take i start) ++ cond t (moved (0 + room (take i start)) (get_or now i d) ∷ []) []) is
      ∙ ap (λ n. packed 0 (take i start) ++ cond b (moved n (get_or now i d) ∷ []) []) place

  pub literals_more : (arena : List Literal) (b : Bool) → (get_or now i d).is_held ≡ b → literals_of arena (take (i + 1) start) ≡ literals_of arena (take i start) ++ cond b (clause_in arena (get_or now i d)) []
  literals_more arena b is =
      ap (literals_of arena) done_more ∙ literals_of-push arena (take i start) (get_or now i d)
      ∙ ap (λ t. literals_of arena (take i start) ++ cond t (clause_in arena (get_or now i d)) []) is

  pub entry_within : (size n : ℕ) → All (IsWithin size) start → n ≡ size → IsWithin n (get_or now i d)
  entry_within size n within same = subst (λ e. IsWithin n e) (sym entry_is) (subst (λ k. IsWithin k (get_or start i d)) (sym same) (within i d (omega (arith, low, count))))

  pub free_below : (free : ℕ) → AreForward start → AreApart start → free ≡ room (take i start) → free ≤ (get_or now i d).start
  free_below free forward apart at =
      let behind : 0 + room (take i start) ≤ (get_or start i d).start = room_before 0 start i d forward apart (λ k e inside. omega arith) (omega (arith, low, count)) in
      let same : (get_or now i d).start ≡ (get_or start i d).start = ap (λ e. e.start) entry_is in
      omega (arith, behind, same, at)

  -- where it is not held
  pub entries_passed : (kept : ℕ) → (get_or now i d).is_held ≡ false → take kept now ≡ packed 0 (take i start) → take kept now ≡ packed 0 (take (i + 1) start)
  entries_passed kept off done = done ∙ sym (packed_more false (room (take i start)) off refl ∙ append-nil (packed 0 (take i start)))

  pub literals_passed : (first arena : List Literal) (free : ℕ) → (get_or now i d).is_held ≡ false → take free arena ≡ literals_of first (take i start) → take free arena ≡ literals_of first (take (i + 1) start)
  literals_passed first arena free off done = done ∙ sym (literals_more first false off ∙ append-nil (literals_of first (take i start)))

  -- where it is held
  pub entries_moved : (kept free : ℕ) → (get_or now i d).is_held ≡ true → kept ≤ i → free ≡ room (take i start) → take kept now ≡ packed 0 (take i start) → take (kept + 1) (set now kept (moved free (get_or now i d))) ≡ packed 0 (take (i + 1) start)
  entries_moved kept free on behind at done =
      take_more_set now kept (moved free (get_or now i d)) (omega (arith, behind, low))
      ∙ ap (λ es. es ++ moved free (get_or now i d) ∷ []) done ∙ sym (packed_more true free on at)

  pub entries_behind : (kept : ℕ) (there : Entry) → kept ≤ i → drop (i + 1) (set now kept there) ≡ drop (i + 1) start
  entries_behind kept there behind = drop-set-lt (i + 1) now kept there (omega (arith, behind)) ∙ left_more

  module _ (first arena new : List Literal) (free : ℕ) (inside : IsWithin (length arena) (get_or now i d)) (below : free ≤ (get_or now i d).start) (rest : drop free arena ≡ drop free first)
      (is_new : new ≡ copy_within arena (get_or now i d).start (get_or now i d).end free) where
    source_long : size_of (get_or now i d) ≤ length (drop (get_or now i d).start arena)
    source_long = omega (arith, inside.0, inside.1, length-drop (get_or now i d).start arena)

    pub length_moved : length new ≡ length arena
    length_moved = ap length is_new ∙ length-paste arena free (drop (get_or now i d).start arena) (size_of (get_or now i d)) (omega (arith, inside.0, inside.1, below)) source_long

    pub literals_moved : (get_or now i d).is_held ≡ true → take free arena ≡ literals_of first (take i start) → take (free + size_of (get_or now i d)) new ≡ literals_of first (take (i + 1) start)
    literals_moved on done =
        let e = get_or now i d in
        ap (take (free + size_of e)) is_new
        ∙ take-paste arena free (drop e.start arena) (size_of e) (omega (arith, inside.0, inside.1, below)) source_long
        ∙ ap (λ xs. xs ++ take (size_of e) (drop e.start arena)) done
        ∙ ap (λ ys. literals_of first (take i start) ++ take (size_of e) ys) (drop_later arena first free e.start rest below)
        ∙ sym (literals_more first true on)

    pub literals_behind : drop (free + size_of (get_or now i d)) new ≡ drop (free + size_of (get_or now i d)) first
    literals_behind =
        let e = get_or now i d in
        ap (drop (free + size_of e)) is_new
        ∙ drop-paste arena free (drop e.start arena) (size_of e) (omega (arith, inside.0, inside.1, below)) source_long
        ∙ drop_later arena first free (free + size_of e) rest (omega arith)
